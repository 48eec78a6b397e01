use Rattle.std.proofs.Common.{◌++◌, is_some, refl, sym, ap, ◌∙◌, subst}
use Rattle.smx_pdu.specs.declared.pdu.Pdu.{Pdu}
use Rattle.smx_session.specs.Moments.{act_on, after_pdu}
use Rattle.smx_session.specs.declared.up_act.UpAct.{UpAct}
use Rattle.smx_turns.specs.declared.step.Step.TheVariants.{Did}
use Rattle.smx_upstream.specs.declared.event.Event.TheVariants.{Decided}
use Rattle.smx_turns.specs.Worth.{those}
use Rattle.smx_upstream.specs.Events.{worth, unless_kept, kept_by, fate_worth, decided_worth, fills}
use Rattle.smx_upstream.specs.Standing.{Becomes, Does, Owes}
use Rattle.smx_upstream.specs.Phases.{Deciding, when_decided, when_next, unless_spent}
use Rattle.smx_upstream.specs.May.{MayDecide}
use Rattle.smx_turns.proofs.Breaking.{stays_bad}
use Rattle.smx_turns.proofs.Scenes.{happens}
use Rattle.smx_upstream.proofs.Eventful.{did, lock_now, ends_so, goes_by, kept_or_in, stands_same}
use Rattle.smx_upstream.proofs.Cells.{stepped, cell_decided, at_its_moment, kept_spent}
use Rattle.smx_upstream.proofs.worker.UpstreamWorker.decide.Goals as goal

pub invariant_of-self : goal.invariant_of-self
invariant_of-self g c =
    did _ _ (Decided c.of-read.result c.args.now c.of-chosen.result c.carry-fate.result.event) c.self.invariant c.note.ensures.events (ap (λ w. w.heard) c.note.ensures.same)
    (ap (λ (p : Pdu). unless_kept p (kept_by p c.carry-fate.result.event) ++ those c.carry-fate.result.answer) c.of-read.ensures
    ∙ ap (λ o. unless_kept c.in-Some.pdu (kept_by c.in-Some.pdu c.carry-fate.result.event) ++ those o) c.carry-fate.ensures.back
    ∙ kept_or_in c.in-Some.pdu c.carry-fate.result.event ∙ ap those c.in-Some.ensures.value)
    c.note.ensures.said refl (
      c.of-chosen.ensures ∙ c.on_pdu-act.ensures.act ∙ ap (act_on c.self.inside.session) (sym c.of-read.ensures),
      subst (λ (p : Pdu). Becomes p c.of-chosen.result.value c.carry-fate.result.event c.self.inside.tap c.self.inside.senders.items c.carry-fate.new.tap c.carry-fate.new.senders.items) (sym c.of-read.ensures)
          (subst (λ (a : UpAct). Becomes c.in-Some.pdu a c.carry-fate.result.event c.self.inside.tap c.self.inside.senders.items c.carry-fate.new.tap c.carry-fate.new.senders.items) (sym c.of-chosen.ensures) c.carry-fate.ensures.becomes),
      subst (λ (p : Pdu). Owes c.self.inside.tap.lane p c.carry-fate.result.event c.self.inside.owed.items c.carry-fate.new.owed.items) (sym c.of-read.ensures) c.carry-fate.ensures.owes,
      stands_same (c.on_pdu-act.ensures.session ∙ ap (λ (p : Pdu). after_pdu c.self.inside.session p c.args.now) (sym c.of-read.ensures)) refl refl refl refl refl,
    )
    (λ h. ap (λ w. w.failed) c.note.ensures.same ∙ c.self.invariant.goes_on (ap (λ w. w.ending) c.self.view_is ∙ c.requires.goes_on))
    (c.carry-fate.ensures.worth.2 ∙ ap (λ (p : Pdu). (decided_worth p c.on_pdu-act.result c.carry-fate.result.event).ends) (sym c.of-read.ensures)
    ∙ ap (λ (a : UpAct). (decided_worth c.of-read.result.value a c.carry-fate.result.event).ends) (sym c.of-chosen.ensures)
    ∙ ends_so _ _ (ap (λ w. w.ending) c.self.view_is ∙ c.requires.goes_on)) (stays_bad refl (ap (λ w. w.failed) c.note.ensures.same) (ap (λ w. w.rest) c.note.ensures.same)) refl c.carry-fate.ensures.lock

pub returns-clause-goes : goal.returns-clause-goes
returns-clause-goes g c = rw (← c.self.view_is)
    (λ turn. goes_by turn _ _ _ _ (Did (Decided c.of-read.result c.args.now c.of-chosen.result c.carry-fate.result.event)) c.note.ensures.log (subst (λ w. MayDecide (g.L.Link.polls w.wire.link) w.wire.unsent) (sym c.self.view_is) c.requires.may) (happens g.L.Link.offered g.L.Link.polls g.L.Link.failures Does worth _ _ _ _ _ _ _ _ _ _ _ _ _ _ (Decided c.of-read.result c.args.now c.of-chosen.result c.carry-fate.result.event) (
      c.of-chosen.ensures ∙ c.on_pdu-act.ensures.act ∙ ap (act_on c.self.inside.session) (sym c.of-read.ensures),
      subst (λ (p : Pdu). Becomes p c.of-chosen.result.value c.carry-fate.result.event c.self.inside.tap c.self.inside.senders.items c.carry-fate.new.tap c.carry-fate.new.senders.items) (sym c.of-read.ensures)
          (subst (λ (a : UpAct). Becomes c.in-Some.pdu a c.carry-fate.result.event c.self.inside.tap c.self.inside.senders.items c.carry-fate.new.tap c.carry-fate.new.senders.items) (sym c.of-chosen.ensures) c.carry-fate.ensures.becomes),
      subst (λ (p : Pdu). Owes c.self.inside.tap.lane p c.carry-fate.result.event c.self.inside.owed.items c.carry-fate.new.owed.items) (sym c.of-read.ensures) c.carry-fate.ensures.owes,
      stands_same (c.on_pdu-act.ensures.session ∙ ap (λ (p : Pdu). after_pdu c.self.inside.session p c.args.now) (sym c.of-read.ensures)) refl refl refl refl refl,
    ) c.carry-fate.ensures.asked (c.carry-fate.ensures.told ∙ ap (λ (p : Pdu). g.G.Gate.told c.args.gate.now ++ (fate_worth p c.carry-fate.result.event).tells) (sym c.of-read.ensures)) (c.carry-fate.ensures.finds ∙ ap (λ (p : Pdu). g.D.Directory.queries c.args.directory.now ++ (fate_worth p c.carry-fate.result.event).finds) (sym c.of-read.ensures)) c.note.ensures.events c.note.ensures.unsent (ap (λ w. w.link) c.note.ensures.same)))

pub returns-clause-phase : goal.returns-clause-phase
returns-clause-phase g c = λ t source same was.
    stepped t _ _ (Did (Decided c.of-read.result c.args.now c.of-chosen.result c.carry-fate.result.event)) (Deciding source) _ c.note.ensures.log (cell_decided t source _ _ _ _ ∙ at_its_moment t _ _ same) was
    ∙ ap (λ b. unless_spent b (when_decided source (is_some (decided_worth c.of-read.result.value c.of-chosen.result.value c.carry-fate.result.event).ends) (fills c.carry-fate.result.event)))
    (ap (λ (p : Pdu). (fate_worth p c.carry-fate.result.event).spent) c.of-read.ensures ∙ kept_spent c.in-Some.pdu c.carry-fate.result.event ∙ ap is_some (sym c.carry-fate.ensures.back))
    ∙ ap (λ o. unless_spent (is_some c.carry-fate.result.answer) (when_decided source (is_some o) (fills c.carry-fate.result.event)))
    (ap (λ (p : Pdu). (decided_worth p c.of-chosen.result.value c.carry-fate.result.event).ends) c.of-read.ensures
    ∙ ap (λ (a : UpAct). (decided_worth c.in-Some.pdu a c.carry-fate.result.event).ends) c.of-chosen.ensures ∙ sym c.carry-fate.ensures.worth.2)
    ∙ ap (λ b. unless_spent (is_some c.carry-fate.result.answer) (when_decided source (is_some c.carry-fate.result.ends) b)) (sym c.fills.ensures)
    ∙ ap (unless_spent (is_some c.carry-fate.result.answer)) (sym (c.next_of-next.ensures.phase source) ∙ ap (when_next source) (sym c.note.ensures.answer))

pub carry-fate-requires : goal.carry-fate-requires
carry-fate-requires g c = record { lock = lock_now _ _ _ c.self.view_is c.self.invariant c.requires.lock }
