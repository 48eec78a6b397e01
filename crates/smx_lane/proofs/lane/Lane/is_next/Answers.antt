use Rattle.std.proofs.Common.{◌≡◌, ◌<◌, Some, refl}
use Rattle.std.proofs.lemmas.Bool.{eqb-true, eq-eqb, ltb-true, lt-ltb}
use Rattle.smx_history.specs.Contents.{Member}
use Rattle.smx_history.specs.Replies.{member_with}
use Rattle.smx_history.proofs.Keeping.{found_meets}
use Rattle.smx_lane.specs.Inside.{content_of}
use Rattle.smx_lane.specs.Roster.{member_in}
use Rattle.smx_lane.proofs.Owning.{all_of_one, all_of_none}
use Rattle.smx_lane.proofs.lane.Lane.is_next.Goals as goal

pub returns-then-row-by : goal.returns-then-row-by
returns-then-row-by c =
    let v = content_of c.self.inside in
    let m = member_in (c.args.client, c.in-Some.row.now) in
    let found : member_with c.args.client v.members ≡ Some m = c.in-Some.ensures in
    let next = λ (m : Member). (m.last < c.args.ordinal) × (m.by ≡ c.args.by) in
    rw (← c.self.view_is) (
      (λ t. all_of_one next v.members c.args.client m c.self.invariant.room.clients found (ltb-true _ _ t, c.if-row-by.true)),
      (λ all. let h = found_meets next c.args.client m v.members all found in lt-ltb _ _ h.0),
    )

pub returns-else-row-by : goal.returns-else-row-by
returns-else-row-by c =
    let v = content_of c.self.inside in
    let m = member_in (c.args.client, c.in-Some.row.now) in
    let found : member_with c.args.client v.members ≡ Some m = c.in-Some.ensures in
    let next = λ (m : Member). (m.last < c.args.ordinal) × (m.by ≡ c.args.by) in
    rw (← c.self.view_is) (
      (λ t. absurd (c.if-row-by.false (eqb-true _ _ t))),
      (λ all. let h = found_meets next c.args.client m v.members all found in eq-eqb _ _ h.1),
    )

pub returns-in-None : goal.returns-in-None
returns-in-None c =
    let v = content_of c.self.inside in
    rw (← c.self.view_is) ((λ _. all_of_none (λ m. (m.last < c.args.ordinal) × (m.by ≡ c.args.by)) v.members c.args.client c.in-None.ensures), (λ _. refl))
