use Rattle.std.proofs.Common.{ap, sym, ◌∙◌, refl, subst, arith, ◌++◌, ◌∷◌, [], ◌+◌, Some}
use Rattle.smx_box.specs.Letters.{letter}
use Rattle.smx_box.specs.Private.Ends.{sending, PostServes}
use Rattle.smx_box.proofs.BoxEnds.{sender_put, put_more}
use Rattle.smx_box.proofs.sender.Sender.put.Goals as goal

pub invariant_of-self : goal.invariant_of-self
invariant_of-self g c =
    let s = subst (PostServes (sending c.self.inside.sender c.self.inside.end) c.post.new.self (letter c.self.inside.sender (c.self.inside.count + 1) (Some c.args.content))) c.in-Ok.is c.post.ensures in
    sender_put c.self.inside.end c.post.new.self c.self.inside.sender c.self.inside.count (c.self.inside.count + 1) c.args.content s refl (omega arith) c.self.invariant

pub returns-in-Ok-clause-number : goal.returns-in-Ok-clause-number
returns-in-Ok-clause-number g c =
    let s = subst (PostServes (sending c.self.inside.sender c.self.inside.end) c.post.new.self (letter c.self.inside.sender (c.self.inside.count + 1) (Some c.args.content))) c.in-Ok.is c.post.ensures in
    sym (sender_put c.self.inside.end c.post.new.self c.self.inside.sender c.self.inside.count (c.self.inside.count + 1) c.args.content s refl (omega arith) c.self.invariant).counted

pub returns-in-Ok-clause-ok : goal.returns-in-Ok-clause-ok
returns-in-Ok-clause-ok g c =
    let m = letter c.self.inside.sender (c.self.inside.count + 1) (Some c.args.content) in
    let s = subst (PostServes (sending c.self.inside.sender c.self.inside.end) c.post.new.self m) c.in-Ok.is c.post.ensures in
    put_more c.self.inside.end c.post.new.self m s ∙ ap (λ z. z.put ++ letter z.sender (c.self.inside.count + 1) (Some c.args.content) ∷ []) c.self.view_is

pub returns-in-Ok-clause-numbered : goal.returns-in-Ok-clause-numbered
returns-in-Ok-clause-numbered g c =
    let s = subst (PostServes (sending c.self.inside.sender c.self.inside.end) c.post.new.self (letter c.self.inside.sender (c.self.inside.count + 1) (Some c.args.content))) c.in-Ok.is c.post.ensures in
    let keeps = sender_put c.self.inside.end c.post.new.self c.self.inside.sender c.self.inside.count (c.self.inside.count + 1) c.args.content s refl (omega arith) c.self.invariant in
    (keeps.numbered, keeps.opened)
