use Rattle.std.proofs.Common.{rules, [], ◌∷◌, ◌++◌, refl, sym, ap, ◌∙◌, subst}
use Rattle.std.proofs.lemmas.List.{append-nil}
use Rattle.smx_turns.specs.declared.step.Step.TheVariants.{Marked, Did}
use Rattle.smx_turns.specs.declared.mark.Mark.TheVariants.{Part}
use Rattle.smx_upstream.specs.declared.event.Event.TheVariants.{Broke}
use Rattle.smx_turns.specs.Worth.{those, ins}
use Rattle.smx_turns.proofs.Breaking.{bad_as, bad_front, bad_heard, none_bad}
use Rattle.smx_upstream.specs.Events.{worth}
use Rattle.smx_upstream.specs.Phases.{Deciding}
use Rattle.smx_link.specs.Wiring.{spellings}
use Rattle.smx_upstream.specs.May.{MayDecide}
use Rattle.smx_turns.proofs.Scenes.{scenes_same}
use Rattle.smx_upstream.proofs.Eventful.{did, goes_alone, goes_by, some_of, on_hearing, ends_so}
use Rattle.smx_upstream.proofs.Cells.{stepped, cell_broke, cell_part}
use Rattle.smx_upstream.proofs.worker.UpstreamWorker.fetch.Goals as goal

pub invariant_of-self-in-Err : goal.invariant_of-self-in-Err
invariant_of-self-in-Err g c =
    did _ _ Broke c.self.invariant c.break_off.ensures.events (ap (λ w. w.heard) c.break_off.ensures.same ∙ bad_heard _ _ _ c.in-Err.ensures.bad) refl
    (c.break_off.ensures.said ∙ ap (λ w. w.said ++ (worth Broke).said) c.in-Err.ensures.same) refl refl (λ h. search rules) (ends_so _ _ (ap (λ w. w.ending) c.self.view_is ∙ c.requires.goes_on))
    (record {
      stays = none_bad c.self.inside.wire (c.self.invariant.goes_on (ap (λ w. w.ending) c.self.view_is ∙ c.requires.goes_on));
      met = λ _. bad_as c.hear.new.self c.break_off.new.wire (ap (λ w. w.failed) c.break_off.ensures.same) (ap (λ w. w.rest) c.break_off.ensures.same) (bad_front _ _ _ c.in-Err.ensures.bad (c.is_memory.ensures.other c.if-is_memory.false));
    }) refl (refl, refl)

pub invariant_of-self : goal.invariant_of-self
invariant_of-self g c =
    let on = ap (λ w. w.ending) c.self.view_is ∙ c.requires.goes_on in
    let some = some_of _ _ _ c.in-Ok-Some.field-0-is c.in-Ok-Some.ensures.some in
    on_hearing _ _ c.self.invariant on refl
    (some.0 ∙ ap (λ l. l ++ c.in-Ok-Some.pdu ∷ []) (c.self.invariant.heard ∙ ap (λ o. ins worth c.self.inside.events ++ those o) (ap (λ w. w.held) c.self.view_is ∙ c.requires.none) ∙ append-nil _))
    (ap (λ w. w.said) c.in-Ok-Some.ensures.same) some.2

pub returns-in-Ok-None-clause-phase : goal.returns-in-Ok-None-clause-phase
returns-in-Ok-None-clause-phase g c = λ t ended. stepped t _ _ (Marked Part) (Deciding ended) _ c.push.ensures (cell_part t ended)

pub returns-in-Ok-None-clause-goes : goal.returns-in-Ok-None-clause-goes
returns-in-Ok-None-clause-goes g c = rw (← c.self.view_is)
    (λ turn asked told queries. goes_by turn _ _ _ _ (Marked Part) c.push.ensures (subst (λ w. MayDecide (g.L.Link.polls w.wire.link) w.wire.unsent) (sym c.self.view_is) c.requires.may)
    (scenes_same refl refl refl refl refl (ap (λ w. w.unsent) c.in-Ok-None.ensures.same) (ap (λ w. g.L.Link.offered w.link) c.in-Ok-None.ensures.same) (ap (λ w. g.L.Link.polls w.link) c.in-Ok-None.ensures.same) (ap (λ w. g.L.Link.failures w.link) c.in-Ok-None.ensures.same)))

pub returns-else-is_memory-clause-phase : goal.returns-else-is_memory-clause-phase
returns-else-is_memory-clause-phase g c = λ t ended. stepped t _ _ (Did Broke) (Deciding ended) _ c.break_off.ensures.log (cell_broke t ended)

pub returns-else-is_memory-clause-goes : goal.returns-else-is_memory-clause-goes
returns-else-is_memory-clause-goes g c = rw (← c.self.view_is)
    (λ turn asked told queries. goes_alone g.L.Link.offered g.L.Link.polls g.L.Link.failures turn asked told queries _ _ _ _ _ _ _ _ _ _ Broke c.break_off.ensures.log (subst (λ w. MayDecide (g.L.Link.polls w.wire.link) w.wire.unsent) (sym c.self.view_is) c.requires.may) refl refl refl c.break_off.ensures.events (c.break_off.ensures.unsent ∙ ap (λ w. w.unsent ++ spellings (worth Broke).said) c.in-Err.ensures.same) (ap (λ w. w.link) c.break_off.ensures.same ∙ ap (λ w. w.link) c.in-Err.ensures.same))
