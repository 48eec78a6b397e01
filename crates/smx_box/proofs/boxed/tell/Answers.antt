use Rattle.std.proofs.Common.{◌≡◌, ◌<◌, sym, subst}
use Rattle.crossbeam_queue.specs.Passes.{view}
use Rattle.smx_box.specs.Private.Rule.{told_known}
use Rattle.smx_box.proofs.BoxRules.{finds_none, finds_one, tells, was_told}
use Rattle.smx_box.proofs.BoxEnds.{went_in, came_out}
use Rattle.smx_box.proofs.boxed.tell.Goals as goal

pub push_as-pushed-requires-clause-rule : goal.push_as-pushed-requires-clause-rule
push_as-pushed-requires-clause-rule g c = (
  tells _ _ (view c.args.pass.now) _ c.requires.first (subst (λ n. 0 < n) (sym c.capacity.ensures) c.requires.places),
  finds_none _ (view c.args.pass.now) c.requires.first,
)

pub pop_as-popped-requires-clause-rule : goal.pop_as-popped-requires-clause-rule
pop_as-popped-requires-clause-rule g c =
    let some_places = subst (λ n. 0 < n) (sym c.capacity.ensures) c.requires.places in
    let went = went_in _ (view c.args.pass.now) (view c.push_as-pushed.new.pass) _ c.push_as-pushed.result c.requires.places c.push_as-pushed.ensures.rule in
    (was_told _ _ (view c.push_as-pushed.new.pass) some_places went, finds_one _ _ (view c.push_as-pushed.new.pass) some_places went)

pub returns-clause-told : goal.returns-clause-told
returns-clause-told g c =
    let went = went_in _ (view c.args.pass.now) (view c.push_as-pushed.new.pass) _ c.push_as-pushed.result c.requires.places c.push_as-pushed.ensures.rule in
    subst (λ n. view c.pop_as-popped.new.pass ≡ told_known n) c.capacity.ensures
    (came_out _ (view c.push_as-pushed.new.pass) (view c.pop_as-popped.new.pass) c.pop_as-popped.result went c.pop_as-popped.ensures.rule)
