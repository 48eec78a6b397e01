use Rattle.std.proofs.Common.{rules, ◌<◌, ◌++◌, length, refl, sym, ap, ◌∙◌, subst}
use Rattle.std.specs.Result.{is_err}
use Rattle.smx_link.specs.Wiring.{spellings}
use Rattle.smx_session.specs.Moments.{is_bound}
use Rattle.smx_shared.specs.Batches.{TakesAll}
use Rattle.smx_turns.specs.declared.step.Step.TheVariants.{Did}
use Rattle.smx_upstream.specs.declared.event.Event.TheVariants.{Took}
use Rattle.smx_upstream.specs.Phases.{MayTake, unless_spent, when_taken}
use Rattle.smx_upstream.specs.Events.{may_give_more, requests_up}
use Rattle.smx_upstream.specs.Last.{last_taken}
use Rattle.smx_turns.proofs.Breaking.{stays_bad}
use Rattle.smx_upstream.proofs.Eventful.{did, lock_now, goes_alone, goes_on}
use Rattle.smx_upstream.proofs.Cells.{stepped, cell_took}
use Rattle.smx_upstream.proofs.Growing.{fits, grows}
use Rattle.smx_upstream.proofs.worker.UpstreamWorker.take_some.Goals as goal

pub invariant_of-self : goal.invariant_of-self
invariant_of-self g c =
    did _ _ (Took c.of.result) c.self.invariant c.jot.ensures.events (ap (λ w. w.heard) c.say_taken.ensures.same) refl (c.say_taken.ensures.said ∙ ap (λ r. c.self.inside.wire.said ++ requests_up r) (sym c.of.ensures)) refl
    (ap (λ w. is_bound w.stand.session.state) c.self.view_is ∙ c.requires.bound, subst (λ r. TakesAll c.self.inside.tap.front c.take_all-taken.new.self.front c.self.inside.session.latest r) (sym c.of.ensures) (subst (λ n. TakesAll c.self.inside.tap.front c.take_all-taken.new.self.front n c.take_all-taken.result) c.latest.ensures c.take_all-taken.ensures.served), c.take_all-taken.ensures.same.0, refl)
    (λ h. ap (λ w. w.failed) c.say_taken.ensures.same ∙ c.self.invariant.goes_on h) (goes_on c.self.inside.ending) (stays_bad refl (ap (λ w. w.failed) c.say_taken.ensures.same) (ap (λ w. w.rest) c.say_taken.ensures.same)) (c.last_taken-self-inside.ensures ∙ ap (λ r. last_taken r c.self.inside.last) (sym c.of.ensures)) c.take_all-taken.ensures.same

pub returns-clause-goes : goal.returns-clause-goes
returns-clause-goes g c = rw (← c.self.view_is)
    (λ turn asked told queries. goes_alone g.L.Link.offered g.L.Link.polls g.L.Link.failures turn asked told queries _ _ _ _ _ _ _ _ _ _ (Took c.of.result) c.jot.ensures.log tt (ap (λ w. is_bound w.stand.session.state) c.self.view_is ∙ c.requires.bound, subst (λ r. TakesAll c.self.inside.tap.front c.take_all-taken.new.self.front c.self.inside.session.latest r) (sym c.of.ensures) (subst (λ n. TakesAll c.self.inside.tap.front c.take_all-taken.new.self.front n c.take_all-taken.result) c.latest.ensures c.take_all-taken.ensures.served), c.take_all-taken.ensures.same.0, refl) refl refl c.jot.ensures.events (c.say_taken.ensures.unsent ∙ ap (λ r. c.self.inside.wire.unsent ++ spellings (requests_up r)) (sym c.of.ensures)) (ap (λ w. w.link) c.say_taken.ensures.same))

pub returns-clause-phase : goal.returns-clause-phase
returns-clause-phase g c = λ t full more was.
    c.more_unless_spent.ensures.leads (when_taken full) _ (stepped t _ _ (Did (Took c.of.result)) (MayTake full more) _ c.jot.ensures.log (cell_took t full more _) was
    ∙ ap (λ b. unless_spent b (when_taken full (may_give_more c.of.result.value))) (ap is_err c.of.ensures ∙ sym c.is_err-spent.ensures.value)
    ∙ ap (λ b. unless_spent c.is_err-spent.result (when_taken full b)) (ap may_give_more c.of.ensures ∙ sym c.may_give_more-more.ensures))

pub returns-clause-more : goal.returns-clause-more
returns-clause-more g c = rw (← c.self.view_is) (λ given. subst (λ us. length c.self.inside.wire.unsent < length us) (sym c.say_taken.ensures.unsent) (grows _ _ _ c.take_all-taken.result _ c.take_all-taken.ensures.served (sym c.may_give_more-more.ensures ∙ c.more_unless_spent.ensures.ok given)))

pub take_all-taken-requires : goal.take_all-taken-requires
take_all-taken-requires g c = record { lock = lock_now _ _ _ c.self.view_is c.self.invariant c.requires.lock; room = c.requires.list }

pub say_taken-requires : goal.say_taken-requires
say_taken-requires g c = record { room = fits _ _ _ _ _ c.take_all-taken.ensures.served (search rules) }
