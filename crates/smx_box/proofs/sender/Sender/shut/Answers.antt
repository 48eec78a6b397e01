use Rattle.std.proofs.Common.{◌+◌, length, sym, subst, None, IfOk}
use Rattle.smx_box.specs.Letters.{letter}
use Rattle.smx_box.specs.Boxes.{PutServes}
use Rattle.smx_box.specs.Private.Ends.{sending, PostServes}
use Rattle.smx_box.proofs.sender.Sender.shut.Goals as goal
use Rattle.smx_box.proofs.sender.Sender.shut.Goals.{in-Ok, in-Err}

pub returns-clause-ok : goal.returns-clause-ok
returns-clause-ok g c =
    let p = c.self.inside.sender in
    let old = sending p c.self.inside.end in
    let new = c.post.new.self in
    elim c.match-post.branch [
      | in-Ok w ↦
          let put = subst (PostServes old new (letter p (c.self.inside.count + 1) None)) w.in-Ok.is c.post.ensures in
          let next = subst (λ n. PutServes old new (letter p (n + 1) None)) (sym c.self.invariant.counted) put in
          subst (λ r. IfOk r (λ closed. PutServes c.args.self closed (letter c.args.self.sender (length c.args.self.put + 1) None))) (sym w.result-is)
          (subst (λ s. PutServes s new (letter s.sender (length s.put + 1) None)) c.self.view_is next)
      | in-Err w ↦ subst (λ r. IfOk r (λ closed. PutServes c.args.self closed (letter c.args.self.sender (length c.args.self.put + 1) None))) (sym w.result-is) tt
    ]
