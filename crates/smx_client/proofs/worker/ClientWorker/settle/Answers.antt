use Rattle.std.proofs.Common.{◌≡◌, ◌++◌, refl, sym, ap, ◌∙◌, subst, IfSome, IsSome}
use Rattle.std.proofs.lemmas.List.{append-nil}
use Rattle.smx_link.specs.Wiring.{spellings}
use Rattle.smx_session.specs.ClientTable.{client_decides}
use Rattle.smx_session.specs.declared.act.Act.TheVariants as act
use Rattle.smx_client.specs.declared.event.Event.TheVariants.{Decided}
use Rattle.smx_client.specs.declared.event.Fate.TheVariants.{Settled}
use Rattle.smx_client.specs.Serving.{Serving}
use Rattle.smx_client.specs.Table.{IsPart, Deciding}
use Rattle.smx_client.proofs.Cells as cell
use Rattle.smx_client.proofs.Doings as doing
use Rattle.smx_client.proofs.Fates.{own_out, stays, settles, settle_window}
use Rattle.smx_client.proofs.Replying.{waits, clears, others}
use Rattle.smx_turns.proofs.Scenes.{happens}
use Rattle.smx_turns.proofs.Breaking.{stays_bad}
use Rattle.smx_client.proofs.Serving.{did, as_below, decides, undecided, as_closed}
use Rattle.smx_client.specs.Events.{act_worth, worth}
use Rattle.smx_client.proofs.Bindings.{going}
use Rattle.smx_client.specs.Parts.{Does}
use Rattle.smx_client.proofs.worker.ClientWorker.settle.Goals as goal

pub invariant_of-self : goal.invariant_of-self
invariant_of-self g c =
    let s = c.self.inside in
    let e = c.answer_settled-reply.ensures in
    did g.L.Link.polls _ _ (Decided c.of-read.result c.of.result (Settled c.settle-found.result c.answer_settled-reply.result)) c.self.invariant refl refl refl refl refl c.note.ensures.events (going _ _ (ap (λ a. (act_worth a).ends) c.of.ensures)) refl refl
    (decides s.held c.take.new.self c.in-Some.pdu _ c.of-read.ensures c.in-Some.ensures.value c.take.ensures.after)
    (doing.settled _ _ _ _ _ _ _ _ _ _ _ _ c.in-Some.pdu c.of-read.result c.of.result c.settle-found.result c.answer_settled-reply.result c.of-read.ensures
    (sym (append-nil s.wire.said) ∙ ap (λ l. s.wire.said ++ l) (own_out (act.MoAnswer c.in-Some.pdu.number) _ c.of.ensures))
    (stays _ _ _ s.held c.in-Some.pdu _ (act.MoAnswer c.in-Some.pdu.number) _ (Settled c.settle-found.result c.answer_settled-reply.result) c.in-Some.ensures.value c.of-read.ensures c.of.ensures tt
    (settles _ _ _ s.held c.in-Some.pdu c.in-Some.ensures.value
    (subst (λ (w : Serving g.row.L.Denot). IfSome w.held (λ p. client_decides w.desk.accounts.items w.session.account w.session.state p ≡ (act.MoAnswer p.number, w.session.state))) (sym c.self.view_is) c.requires.held)))
    (settle_window c.in-Some.pdu _ c.settle-found.result _ _ c.of-read.ensures c.settle-found.ensures.settled c.settle-found.ensures.none)
    e.so (ap (λ (w : Serving g.row.L.Denot). w.parked) c.self.view_is ∙ c.requires.none) e.parks e.answer)
    (undecided _ _ _ c.self.invariant.settled (subst (λ (w : Serving g.row.L.Denot). IsSome w.held) (sym c.self.view_is) c.requires.some))
    (stays_bad refl refl refl)
    (as_closed g.L.Link.polls _ _ _ _ _ refl c.self.invariant.closed)

pub returns-clause-leads : goal.returns-clause-leads
returns-clause-leads g c = rw (← c.self.view_is) (λ n queries base was.
    let s = c.self.inside in
    let e = c.answer_settled-reply.ensures in
    c.note.ensures.leads n _ _ (as_below _ _ c.self.view_is c.requires.below) (happens g.L.Link.offered g.L.Link.polls g.L.Link.failures Does worth _ _ _ _ queries queries _ _ _ _ _ _ _ _ (Decided c.of-read.result c.of.result (Settled c.settle-found.result c.answer_settled-reply.result))
    (doing.settled _ _ _ _ _ _ _ _ _ _ _ _ c.in-Some.pdu c.of-read.result c.of.result c.settle-found.result c.answer_settled-reply.result c.of-read.ensures
    (sym (append-nil s.wire.said) ∙ ap (λ l. s.wire.said ++ l) (own_out (act.MoAnswer c.in-Some.pdu.number) _ c.of.ensures))
    (stays _ _ _ s.held c.in-Some.pdu _ (act.MoAnswer c.in-Some.pdu.number) _ (Settled c.settle-found.result c.answer_settled-reply.result) c.in-Some.ensures.value c.of-read.ensures c.of.ensures tt
    (settles _ _ _ s.held c.in-Some.pdu c.in-Some.ensures.value
    (subst (λ (w : Serving g.row.L.Denot). IfSome w.held (λ p. client_decides w.desk.accounts.items w.session.account w.session.state p ≡ (act.MoAnswer p.number, w.session.state))) (sym c.self.view_is) c.requires.held)))
    (settle_window c.in-Some.pdu _ c.settle-found.result _ _ c.of-read.ensures c.settle-found.ensures.settled c.settle-found.ensures.none)
    e.so (ap (λ (w : Serving g.row.L.Denot). w.parked) c.self.view_is ∙ c.requires.none) e.parks e.answer)
    e.asked e.told (sym (append-nil queries)) c.note.ensures.events (sym (append-nil s.wire.unsent) ∙ ap (λ l. s.wire.unsent ++ spellings l) (own_out (act.MoAnswer c.in-Some.pdu.number) _ c.of.ensures))
    refl) base was)

pub returns-clause-phase : goal.returns-clause-phase
returns-clause-phase g c = λ t ended was.
    subst (λ p. IsPart (Deciding ended) c.progress.result p) (sym (c.note.ensures.phase t _ was ∙ cell.settles t ended c.of-read.result c.of.result c.settle-found.result c.answer_settled-reply.result))
    (c.progress.ensures.phase (Deciding ended))

pub returns-clause-which : goal.returns-clause-which
returns-clause-which g c = others c.answer_settled-reply.result c.progress.result c.progress.ensures.which

pub returns-clause-waits : goal.returns-clause-waits
returns-clause-waits g c = waits c.answer_settled-reply.result _ c.progress.result c.progress.ensures.which c.answer_settled-reply.ensures.parks

pub returns-clause-clear : goal.returns-clause-clear
returns-clause-clear g c = clears c.answer_settled-reply.result _ c.progress.result c.progress.ensures.which c.answer_settled-reply.ensures.parks
