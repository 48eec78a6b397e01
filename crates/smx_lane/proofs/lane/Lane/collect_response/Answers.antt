use Rattle.std.proofs.Common.{arith, ◌≡◌, ◌<◌, ◌-◌, drop, length, Some, sym, ◌∙◌, ap}
use Rattle.smx_history.specs.Replies.{member_with}
use Rattle.smx_history.specs.Answering.{oldest_in}
use Rattle.smx_history.proofs.Room.{FitsBox}
use Rattle.smx_history.proofs.Keeping.{found_meets, All-each, All-with_row}
use Rattle.smx_history.proofs.Settled.{KeepsRoom-collected}
use Rattle.smx_history.proofs.CollectAgrees.{AgreesWith-collected}
use Rattle.smx_lane.specs.Inside.{content_of}
use Rattle.smx_lane.proofs.Refusing.{oldest_row}
use Rattle.smx_lane.proofs.lane.Lane.collect_response.Goals as goal

pub get-requires : goal.get-requires
get-requires c = λ m found.
    let v = content_of c.self.inside in
    let fits : FitsBox v m = found_meets (λ x. FitsBox v x) c.args.client m v.members (All-each (FitsBox v) (λ x. x.client ≡ c.args.client → FitsBox v x) (λ x h is. h) v.members c.self.invariant.room.boxes) found in
    omega (arith, fits.0)

pub invariant_of-self-2 : goal.invariant_of-self-2
invariant_of-self-2 c =
    let v = content_of c.self.inside in
    let r = c.in_ok-response.response in
    let oldest : oldest_in (member_with c.args.client v.members) ≡ Some r = sym c.get.ensures.oldest ∙ c.in_ok-response.was in
    let row = oldest_row (member_with c.args.client v.members) r oldest in
    let m = row.0 in
    let some : 0 < length m.waiting = omega (arith, ap length row.2) in
    let room = KeepsRoom-collected v c.args.by c.args.client r m c.self.invariant.room row.1 some in
    let got = c.in_ok-response.ensures.some in
    record {
      room = rw (c.push_reserved.ensures.items, got) room;
      queue = c.self.invariant.queue;
      window = c.self.invariant.window;
      entries = omega (arith, c.push_reserved.ensures.capacity, c.self.invariant.entries);
      places = rw got c.self.invariant.places;
    }

pub returns-clause-agrees : goal.returns-clause-agrees
returns-clause-agrees c =
    let v = content_of c.self.inside in
    let r = c.in_ok-response.response in
    let oldest : oldest_in (member_with c.args.client v.members) ≡ Some r = sym c.get.ensures.oldest ∙ c.in_ok-response.was in
    let row = oldest_row (member_with c.args.client v.members) r oldest in
    let m = row.0 in
    let some : 0 < length m.waiting = omega (arith, ap length row.2) in
    let room = KeepsRoom-collected v c.args.by c.args.client r m c.self.invariant.room row.1 some in
    let own = found_meets (λ x. x.by ≡ c.args.by) c.args.client m v.members (rw (← c.self.view_is) at c.requires) row.1 in
    λ h was. rw (c.push_reserved.ensures.items, c.in_ok-response.ensures.some)
    (AgreesWith-collected h v c.args.by c.args.client r (drop 1 m.waiting) m (rw c.self.view_is was) row.1 own row.2 room)

pub returns-clause-own : goal.returns-clause-own
returns-clause-own c =
    let v = content_of c.self.inside in
    rw c.in_ok-response.ensures.some (All-with_row (λ m. m.client ≡ c.args.client → m.by ≡ c.args.by) (λ m. m.client ≡ c.args.client → m.by ≡ c.args.by)
    (λ m. record m { pending = m.pending - 1; waiting = drop 1 m.waiting }) c.args.client (λ m is h. h) (λ m is h. h) v.members (rw (← c.self.view_is) at c.requires))
