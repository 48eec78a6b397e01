use Rattle.std.proofs.Common.{refl, sym, ap, ◌∙◌}
use Rattle.std.proofs.lemmas.List.{append-nil}
use Rattle.smx_client.specs.declared.event.Event.TheVariants.{Expired}
use Rattle.smx_client.specs.Serving.{Serving}
use Rattle.smx_client.proofs.Cells as cell
use Rattle.smx_client.proofs.Doings as doing
use Rattle.smx_client.proofs.Looking.{expire_is, one_parks, one_clears, one_fewer}
use Rattle.smx_turns.proofs.Scenes.{happens}
use Rattle.smx_turns.proofs.Breaking.{stays_bad}
use Rattle.smx_client.proofs.Serving.{did}
use Rattle.smx_client.proofs.Bindings.{going}
use Rattle.smx_client.specs.Events.{worth}
use Rattle.smx_client.specs.Parts.{Does}
use Rattle.smx_client.proofs.worker.ClientWorker.expire_one.Goals as goal

pub invariant_of-self : goal.invariant_of-self
invariant_of-self g c =
    let e = c.answer_expired-reply.ensures in
    let s = c.self.inside in
    did g.L.Link.polls _ _ (Expired c.args.until c.take_overdue-found.result c.answer_expired-reply.result) c.self.invariant refl refl refl refl refl c.note.ensures.events (going _ _ refl) refl refl refl
    (doing.expired _ _ _ _ _ _ _ _ _ _ _ _ c.args.until c.take_overdue-found.result c.answer_expired-reply.result refl (expire_is _ _ _ _ c.take_overdue-found.ensures.overdue c.take_overdue-found.ensures.none) e.so
    (ap (λ (w : Serving g.row.L.Denot). w.parked) c.self.view_is ∙ c.requires.none) e.parks e.answer)
    c.self.invariant.settled (stays_bad refl refl refl)
    c.self.invariant.closed

pub returns-clause-leads : goal.returns-clause-leads
returns-clause-leads g c = rw (← c.self.view_is) (λ n queries base was.
    let s = c.self.inside in
    let e = c.answer_expired-reply.ensures in
    c.note.ensures.leads n _ _ tt (happens g.L.Link.offered g.L.Link.polls g.L.Link.failures Does worth _ _ _ _ queries queries _ _ _ _ _ _ _ _ (Expired c.args.until c.take_overdue-found.result c.answer_expired-reply.result)
    (doing.expired _ _ _ _ _ _ _ _ _ _ _ _ c.args.until c.take_overdue-found.result c.answer_expired-reply.result refl (expire_is _ _ _ _ c.take_overdue-found.ensures.overdue c.take_overdue-found.ensures.none) e.so
    (ap (λ (w : Serving g.row.L.Denot). w.parked) c.self.view_is ∙ c.requires.none) e.parks e.answer)
    e.asked e.told (sym (append-nil queries)) c.note.ensures.events (sym (append-nil s.wire.unsent))
    refl) base was)

pub returns-clause-phase : goal.returns-clause-phase
returns-clause-phase g c = λ t is was.
    c.note.ensures.phase t _ was ∙ cell.expires t c.args.until c.take_overdue-found.result c.answer_expired-reply.result is ∙ sym c.reply_of.ensures.phase

pub returns-clause-parks : goal.returns-clause-parks
returns-clause-parks g c = one_parks _ _ _ _ c.reply_of.ensures.some c.answer_expired-reply.ensures.parks

pub returns-clause-clear : goal.returns-clause-clear
returns-clause-clear g c = one_clears _ _ _ _ _ _ c.reply_of.ensures.none c.answer_expired-reply.ensures.so c.answer_expired-reply.ensures.parks

pub returns-clause-fewer : goal.returns-clause-fewer
returns-clause-fewer g c = rw (← c.self.view_is) (one_fewer _ _ _ _ c.reply_of.ensures.some c.take_overdue-found.ensures.one)
