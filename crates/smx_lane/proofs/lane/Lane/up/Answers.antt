use Rattle.std.proofs.Common.{◌≡◌, ◌≤◌, ◌+◌, length, arith, sym, true, ◌∙◌}
use Rattle.std.proofs.lemmas.Bool.{leb-true}
use Rattle.smx_history.specs.Contents.{size_of}
use Rattle.smx_history.specs.Replies.{has_room}
use Rattle.smx_lane.specs.Inside.{content_of}
use Rattle.smx_history.proofs.LinkAgrees.{KeepsRoom-raised, AgreesWith-raised}
use Rattle.smx_lane.proofs.lane.Lane.up.Goals as goal

pub returns-clause-agrees : goal.returns-clause-agrees
returns-clause-agrees c = λ h was.
    let v = content_of c.self.inside in
    let none : length v.window ≡ 0 = omega (arith, c.len.ensures, c.if-len-gt0.false) in
    let some : has_room v ≡ true = rw (← c.self.view_is) at (sym c.has_room.ensures ∙ c.if-not-has_room.false) in
    let room : size_of v + 4 ≤ v.limits.history = leb-true _ _ some in
    rw (c.push_reserved.ensures.items, c.linking.ensures)
    (AgreesWith-raised h v c.args.by (rw c.self.view_is was) c.if-self.false none (KeepsRoom-raised v c.args.by c.self.invariant.room room))
