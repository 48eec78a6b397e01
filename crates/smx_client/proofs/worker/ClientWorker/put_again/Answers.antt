use Rattle.std.proofs.Common.{refl, sym, ◌∙◌, subst}
use Rattle.std.proofs.lemmas.List.{append-nil}
use Rattle.smx_client.specs.declared.event.Event.TheVariants.{PutAgain}
use Rattle.smx_client.specs.Table.{IsPart}
use Rattle.smx_client.proofs.Doings as doing
use Rattle.smx_client.proofs.Replying.{waits, clears, others}
use Rattle.smx_turns.proofs.Scenes.{happens}
use Rattle.smx_turns.proofs.Breaking.{stays_bad}
use Rattle.smx_client.proofs.Serving.{did, as_closed}
use Rattle.smx_client.proofs.Bindings.{going}
use Rattle.smx_client.specs.Events.{worth}
use Rattle.smx_client.specs.Parts.{Does}
use Rattle.smx_client.proofs.worker.ClientWorker.put_again.Goals as goal

pub invariant_of-self : goal.invariant_of-self
invariant_of-self g c =
    let e = c.put_or_park-reply.ensures in
    did g.L.Link.polls _ _ (PutAgain c.in-Some.field-0.lane c.put_or_park-reply.result) c.self.invariant refl refl refl refl refl c.note.ensures.events (going _ _ refl) refl refl refl
    (doing.put_again _ _ _ _ _ _ _ c.self.inside.parked c.take.new.self _ _ c.in-Some.field-0 c.put_or_park-reply.result c.in-Some.ensures.value c.take.ensures.after e.so e.parks e.answer)
    c.self.invariant.settled (stays_bad refl refl refl)
    (as_closed g.L.Link.polls _ _ _ _ _ refl c.self.invariant.closed)

pub returns-clause-leads : goal.returns-clause-leads
returns-clause-leads g c = rw (← c.self.view_is) (λ n queries base was.
    let s = c.self.inside in
    let e = c.put_or_park-reply.ensures in
    c.note.ensures.leads n _ _ tt (happens g.L.Link.offered g.L.Link.polls g.L.Link.failures Does worth _ _ _ _ queries queries _ _ _ _ _ _ _ _ (PutAgain c.in-Some.field-0.lane c.put_or_park-reply.result)
    (doing.put_again _ _ _ _ _ _ _ s.parked c.take.new.self _ _ c.in-Some.field-0 c.put_or_park-reply.result c.in-Some.ensures.value c.take.ensures.after e.so e.parks e.answer)
    c.tell.ensures.asked c.tell.ensures.told (sym (append-nil queries)) c.note.ensures.events (sym (append-nil s.wire.unsent))
    refl) base was)

pub returns-clause-phase : goal.returns-clause-phase
returns-clause-phase g c = λ t p q was cells.
    subst (λ x. IsPart q c.progress.result x) (sym (c.note.ensures.phase t p was ∙ cells c.in-Some.field-0.lane c.put_or_park-reply.result)) (c.progress.ensures.phase q)

pub returns-clause-parked : goal.returns-clause-parked
returns-clause-parked g c = waits c.put_or_park-reply.result _ c.progress.result c.progress.ensures.which c.put_or_park-reply.ensures.parks

pub returns-clause-clear : goal.returns-clause-clear
returns-clause-clear g c = clears c.put_or_park-reply.result _ c.progress.result c.progress.ensures.which c.put_or_park-reply.ensures.parks

pub returns-clause-which : goal.returns-clause-which
returns-clause-which g c = others c.put_or_park-reply.result c.progress.result c.progress.ensures.which
