use Rattle.std.proofs.Common.{◌≡◌, arith, ap, not, ◌∙◌}
use Rattle.smx_lane.specs.Inside.{content_of}
use Rattle.smx_history.proofs.Keeping.{found_meets}
use Rattle.smx_history.proofs.RetireAgrees.{KeepsRoom-retired, AgreesWith-retired}
use Rattle.smx_lane.proofs.Refusing.{row_of_found}
use Rattle.smx_lane.proofs.lane.Lane.retire.Goals as goal

pub invariant_of-self : goal.invariant_of-self
invariant_of-self c =
    let v = content_of c.self.inside in
    let row = row_of_found c.args.client v.members c.find.result c.find.ensures (c.is_none.ensures ∙ ap not c.if-is_none.false) in
    let m = row.0 in
    record {
      room = rw (c.remove.ensures, c.push_reserved.ensures.items) (KeepsRoom-retired v c.args.by c.args.client m c.self.invariant.room row.1);
      queue = c.self.invariant.queue;
      window = c.self.invariant.window;
      entries = omega (arith, c.push_reserved.ensures.capacity, c.self.invariant.entries);
      places = rw c.remove.ensures c.self.invariant.places;
    }

pub returns-clause-agrees : goal.returns-clause-agrees
returns-clause-agrees c = λ h was.
    let v = content_of c.self.inside in
    let row = row_of_found c.args.client v.members c.find.result c.find.ensures (c.is_none.ensures ∙ ap not c.if-is_none.false) in
    let m = row.0 in
    let own = found_meets (λ x. x.by ≡ c.args.by) c.args.client m v.members (rw (← c.self.view_is) at c.requires) row.1 in
    rw (c.remove.ensures, c.push_reserved.ensures.items) (AgreesWith-retired h v c.args.by c.args.client m (rw c.self.view_is was) c.self.invariant.room row.1 own)
