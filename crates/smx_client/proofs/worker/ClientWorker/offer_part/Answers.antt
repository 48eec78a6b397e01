use Rattle.std.proofs.Common.{ap, ◌∙◌, length, not, rules}
use Rattle.std.specs.Prelude.{◌==◌}
use Rattle.smx_link.specs.Wiring.{Wiring}
use Rattle.smx_client.specs.Parts.{parts}
use Rattle.smx_turns.proofs.Scenes.{offers, write_fails}
use Rattle.smx_client.proofs.worker.ClientWorker.offer_part.Goals as goal

pub returns-then-is_err-clause-moves : goal.returns-then-is_err-clause-moves
returns-then-is_err-clause-moves g c = rw (← c.self.view_is) (λ n asked told queries base was.
    let s = c.self.inside in
    c.mark.ensures.leads n _ _ tt (write_fails g.L.Link.offered g.L.Link.polls g.L.Link.failures asked told queries _ _ _ _ _ _ _
    (ap (λ (w : Wiring g.row.L.Denot). parts s.desk.now w.said s.port s.session s.window s.inbox s.senders.items s.parked) c.offer.ensures.same)
    c.offer.ensures.offered c.offer.ensures.polls (search rules)) base was)

pub returns-clause-moves : goal.returns-clause-moves
returns-clause-moves g c = rw (← c.self.view_is) (λ n asked told queries base was.
    let s = c.self.inside in
    c.mark-2.ensures.leads n _ _ tt (offers g.L.Link.offered g.L.Link.polls g.L.Link.failures asked told queries _ _ _ _ _ _ _ _ _ _
    (ap (λ (w : Wiring g.row.L.Denot). parts s.desk.now w.said s.port s.session s.window s.inbox s.senders.items s.parked) c.offer.ensures.same)
    c.has_unsent-waited.ensures
    (c.differ-wrote.ensures ∙ ap (λ k. not (k == c.unsent-before.result)) c.unsent.ensures ∙ ap (λ k. not (length c.offer.new.self.unsent == k)) c.unsent-before.ensures)
    c.has_unsent-left.ensures
    c.offer.ensures.offered c.offer.ensures.polls (search rules)) base was)
