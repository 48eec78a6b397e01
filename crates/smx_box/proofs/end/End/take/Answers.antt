use Rattle.std.proofs.Common.{ap, ◌∙◌, subst}
use Rattle.std.specs.Arc.{arc_value}
use Rattle.crossbeam_queue.specs.Passes.{view, ruled_capacity}
use Rattle.smx_box.specs.Boxes.{OldestServes}
use Rattle.smx_box.specs.Private.Ends.{pass_front, receiving}
use Rattle.smx_box.proofs.BoxRules.{leaves, learns}
use Rattle.smx_box.proofs.BoxEnds.{popped}
use Rattle.smx_box.proofs.end.End.take.Goals as goal

pub pop_as-requires-clause-rule : goal.pop_as-requires-clause-rule
pop_as-requires-clause-rule g c =
    let p = c.self.inside.pass in
    (leaves _ (view p) c.self.invariant.1.0 (ap (λ f. f.known.number) c.self.view_is ∙ c.requires), learns _ (view p) c.self.invariant.1.0)

pub returns : goal.returns
returns g c =
    let is = c.self.view_is in
    subst (λ f. OldestServes (receiving f) (pass_front (ruled_capacity (arc_value c.self.inside.queue)) c.pop_as.new.pass) c.pop_as.result) is
    (popped (ruled_capacity (arc_value c.self.inside.queue)) c.self.inside.pass c.pop_as.new.pass c.pop_as.result c.self.invariant.1 (ap (λ f. f.known.number) is ∙ c.requires) c.pop_as.ensures.queue c.pop_as.ensures.rule)
