use Rattle.std.proofs.Common.{◌++◌, refl, sym, ap, ◌∙◌, subst}
use Rattle.std.proofs.lemmas.List.{append-nil}
use Rattle.smx_shared.specs.Serving.{Expires}
use Rattle.smx_turns.specs.declared.step.Step.TheVariants.{Did}
use Rattle.smx_upstream.specs.declared.event.Event.TheVariants.{Expired}
use Rattle.smx_upstream.specs.Phases.{Sweeping, unless_spent}
use Rattle.smx_upstream.specs.Ages.{time_of}
use Rattle.smx_upstream.specs.Events.{worth, expiry_tells, is_spent_expiry}
use Rattle.smx_upstream.specs.Standing.{Does}
use Rattle.smx_turns.proofs.Breaking.{stays_bad}
use Rattle.smx_turns.proofs.Scenes.{happens}
use Rattle.smx_upstream.proofs.Eventful.{did, lock_now, goes_by, goes_on}
use Rattle.smx_upstream.proofs.Cells.{stepped, cell_expired}
use Rattle.smx_upstream.proofs.worker.UpstreamWorker.expire.Goals as goal

pub invariant_of-self : goal.invariant_of-self
invariant_of-self g c =
    did _ _ (Expired c.lane-lane.result c.args.span c.of.result) c.self.invariant c.jot.ensures.events refl refl (sym (append-nil _)) refl (
      c.lane-lane.ensures,
      subst (λ r. Expires c.self.inside.tap.front c.fail_expired-failed.new.self.front c.self.inside.session.latest (time_of c.args.span c.self.inside.age) r) (sym c.of.ensures)
          (subst (λ n. Expires c.self.inside.tap.front c.fail_expired-failed.new.self.front c.self.inside.session.latest n c.fail_expired-failed.result) c.time_of-time.ensures
          (subst (λ n. Expires c.self.inside.tap.front c.fail_expired-failed.new.self.front n c.time_of-time.result c.fail_expired-failed.result) c.latest-now.ensures c.fail_expired-failed.ensures.served)),
      c.fail_expired-failed.ensures.same.0,
      refl,
    ) c.self.invariant.goes_on (goes_on c.self.inside.ending) (stays_bad refl refl refl) refl c.fail_expired-failed.ensures.same

pub returns-clause-goes : goal.returns-clause-goes
returns-clause-goes g c = rw (← c.self.view_is)
    (λ turn queries. goes_by turn _ _ _ _ (Did (Expired c.lane-lane.result c.args.span c.of.result)) c.jot.ensures.log tt (happens g.L.Link.offered g.L.Link.polls g.L.Link.failures Does worth _ _ _ _ _ _ _ _ _ _ _ _ _ _ (Expired c.lane-lane.result c.args.span c.of.result) (
      c.lane-lane.ensures,
      subst (λ r. Expires c.self.inside.tap.front c.fail_expired-failed.new.self.front c.self.inside.session.latest (time_of c.args.span c.self.inside.age) r) (sym c.of.ensures)
          (subst (λ n. Expires c.self.inside.tap.front c.fail_expired-failed.new.self.front c.self.inside.session.latest n c.fail_expired-failed.result) c.time_of-time.ensures
          (subst (λ n. Expires c.self.inside.tap.front c.fail_expired-failed.new.self.front n c.time_of-time.result c.fail_expired-failed.result) c.latest-now.ensures c.fail_expired-failed.ensures.served)),
      c.fail_expired-failed.ensures.same.0,
      refl,
    ) c.tell.ensures.asked (c.tell.ensures.told ∙ ap (λ r. g.G.Gate.told c.args.gate.now ++ expiry_tells c.lane-lane.result r) (sym c.of.ensures)) (sym (append-nil queries)) c.jot.ensures.events (sym (append-nil _)) refl))

pub returns-clause-phase : goal.returns-clause-phase
returns-clause-phase g c = λ t p was.
    c.unless_spent.ensures.leads p _ (stepped t _ _ (Did (Expired c.lane-lane.result c.args.span c.of.result)) (Sweeping c.args.span p) _ c.jot.ensures.log (cell_expired t c.args.span p _ _) was
    ∙ ap (λ b. unless_spent b p) (ap is_spent_expiry c.of.ensures ∙ sym c.is_spent_expiry.ensures))

pub fail_expired-failed-requires : goal.fail_expired-failed-requires
fail_expired-failed-requires g c = lock_now _ _ _ c.self.view_is c.self.invariant c.requires.lock
