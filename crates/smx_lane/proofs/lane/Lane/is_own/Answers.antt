use Rattle.std.proofs.Common.{◌≡◌, Some, refl}
use Rattle.std.proofs.lemmas.Bool.{eqb-true, eq-eqb}
use Rattle.smx_history.specs.Contents.{Member}
use Rattle.smx_history.specs.Replies.{member_with}
use Rattle.smx_history.proofs.Keeping.{found_meets}
use Rattle.smx_lane.specs.Inside.{content_of}
use Rattle.smx_lane.specs.Roster.{member_in}
use Rattle.smx_lane.proofs.Owning.{all_of_one, all_of_none}
use Rattle.smx_lane.proofs.lane.Lane.is_own.Goals as goal

pub returns-in-Some : goal.returns-in-Some
returns-in-Some c =
    let v = content_of c.self.inside in
    let m = member_in (c.args.client, c.in-Some.row.now) in
    let found : member_with c.args.client v.members ≡ Some m = c.in-Some.ensures in
    let own = λ (m : Member). m.by ≡ c.args.by in
    rw (← c.self.view_is) (
      (λ t. all_of_one own v.members c.args.client m c.self.invariant.room.clients found (eqb-true _ _ t)),
      (λ all. eq-eqb _ _ (found_meets own c.args.client m v.members all found)),
    )

pub returns-in-None : goal.returns-in-None
returns-in-None c =
    let v = content_of c.self.inside in
    rw (← c.self.view_is) ((λ _. all_of_none (λ m. m.by ≡ c.args.by) v.members c.args.client c.in-None.ensures), (λ _. refl))
