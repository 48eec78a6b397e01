use Rattle.std.proofs.Common.{◌-◌, ◌++◌, take, drop, length, ◌∙◌, ap, append_assoc}
use Rattle.smx_socket.proofs.Octets.{takes_both}
use Rattle.smx_socket.proofs.connection.Connection.accept_more.Goals as goal

pub returns-clause-accepted : goal.returns-clause-accepted
returns-clause-accepted g c =
    let n = c.accept-count.result in
    let m = c.accept-more.result in
    let octets = c.args.octets.now in
    let rest = take (length octets - n) (drop n octets) in
    c.accept-more.ensures.accepted
    ∙ ap (λ l. l ++ take m rest) (c.flush.ensures.accepted ∙ c.accept-count.ensures.accepted)
    ∙ append_assoc c.args.self.now.accepted (take n octets) (take m rest)
    ∙ ap (λ l. c.args.self.now.accepted ++ l) (takes_both n m octets)
