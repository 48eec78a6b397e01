use Rattle.std.proofs.Common.{◌≡◌, ◌+◌, length, ap, sym, ◌∙◌, subst}
use Rattle.std.specs.Arc.{arc_value}
use Rattle.crossbeam_queue.specs.Passes.{view, ruled_capacity}
use Rattle.smx_box.specs.Letters.{is_open}
use Rattle.smx_box.specs.Boxes.{puts}
use Rattle.smx_box.specs.Private.Rule.{KnowsPlaces}
use Rattle.smx_box.specs.Private.Ends.{pass_front, IsTold, sending, PostServes}
use Rattle.smx_box.proofs.BoxRules.{joins, learns}
use Rattle.smx_box.proofs.BoxEnds.{posted}
use Rattle.smx_box.proofs.end.End.post.Goals as goal

pub push_as-requires-clause-rule : goal.push_as-requires-clause-rule
push_as-requires-clause-rule g c =
    let r = c.requires in
    let is = c.self.view_is in
    let p = c.self.inside.pass in (
      joins _ _ (view p) c.args.letter (subst (λ q. KnowsPlaces (ruled_capacity q) (view p)) (sym c.deref.ensures) c.self.invariant.1) (ap (λ f. f.known.number) is ∙ r.pass) (subst (λ f. c.args.letter.number ≡ length (puts f.known.mine) + 1) (sym is) r.number)
          (ap (λ f. is_open (puts f.known.mine)) is ∙ r.opened),
      learns _ (view p) c.self.invariant.1.0,
    )

pub returns : goal.returns
returns g c =
    let is = c.self.view_is in
    let p = c.self.inside.pass in
    let r = c.push_as.result in
    let told = posted (ruled_capacity c.deref.result.now) p c.push_as.new.pass c.args.letter r (subst (λ q. IsTold (pass_front (ruled_capacity q) p)) (sym c.deref.ensures) c.self.invariant.1) (ap (λ f. f.known.number) is ∙ c.requires.pass) c.push_as.ensures.queue c.push_as.ensures.rule in
    subst (λ f. PostServes (sending c.args.letter.sender f) (pass_front (ruled_capacity (arc_value c.self.inside.queue)) c.push_as.new.pass) c.args.letter r) is
    (subst (λ q. PostServes (sending c.args.letter.sender (pass_front (ruled_capacity q) p)) (pass_front (ruled_capacity q) c.push_as.new.pass) c.args.letter r) c.deref.ensures told)
