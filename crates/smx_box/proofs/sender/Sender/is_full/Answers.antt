use Rattle.std.proofs.Common.{◌∙◌, ap, nat_eq, subst}
use Rattle.smx_box.specs.Boxes.{Sending, LookServes}
use Rattle.smx_box.proofs.BoxEnds.{looked}
use Rattle.smx_box.proofs.sender.Sender.is_full.Goals as goal

pub returns-clause-looked : goal.returns-clause-looked
returns-clause-looked g c = subst (λ (s : Sending g.row.T.Denot). LookServes s (nat_eq c.count.result c.places.result)) c.self.view_is
    (looked c.self.inside.end c.self.inside.sender c.count.result c.places.result c.self.invariant.pass c.count.ensures.serves (c.places.ensures ∙ ap (λ f. f.queue.places) c.count.ensures.same))
