use Rattle.std.proofs.Common.{◌≡◌, ◌≤◌, ◌+◌, ◌++◌, ap, sym, ◌∙◌, arith, rules, length}
use Rattle.smx_link.specs.Links.{octets_polled}
use Rattle.smx_link.proofs.Octets.{put_behind}
use Rattle.smx_link.proofs.wire.read_behind.Goals as goal

pub returns-in-Ok-Octets-clause-given : goal.returns-in-Ok-Octets-clause-given
returns-in-Ok-Octets-clause-given g c =
    let within : c.args.end ≤ length c.deref_mut.result.now = search rules in
    let few : c.in-Ok-Octets.count ≤ length c.poll_read.new.buffer = search rules in
    let room : c.args.end + c.in-Ok-Octets.count ≤ c.args.octets.now.len = search rules in
    c.in-Ok-Octets.ensures.given ∙ ap (λ p. g.L.Link.given c.args.link.now ++ octets_polled p c.poll_read.new.buffer) c.in-Ok-Octets.field-0-is ∙ ap (λ l. g.L.Link.given c.args.link.now ++ l) (sym (put_behind c.args.end c.in-Ok-Octets.count c.args.octets.now.len c.deref_mut.result.now c.poll_read.new.buffer _ _ within few room))
