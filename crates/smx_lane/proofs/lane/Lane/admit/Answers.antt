use Rattle.std.proofs.Common.{arith, ◌≡◌, sym, ◌∙◌, ap, true}
use Rattle.smx_lane.specs.Inside.{content_of}
use Rattle.smx_history.proofs.AdmitAgrees.{KeepsRoom-admitted, AgreesWith-admitted, admit_allowed}
use Rattle.smx_history.specs.Replies.{has_room}
use Rattle.smx_lane.proofs.lane.Lane.admit.Goals as goal

pub add-requires : goal.add-requires
add-requires c =
    let v = content_of c.self.inside in
    let room : has_room v ≡ true = ap has_room c.self.view_is ∙ sym c.has_room.ensures ∙ c.if-not-has_room.false in
    let k = KeepsRoom-admitted v c.args.by c.args.client c.self.invariant.room (admit_allowed v c.args.client c.if-client-self.false room) in
    k.clients

pub invariant_of-self-2 : goal.invariant_of-self-2
invariant_of-self-2 c =
    let v = content_of c.self.inside in
    let room : has_room v ≡ true = ap has_room c.self.view_is ∙ sym c.has_room.ensures ∙ c.if-not-has_room.false in
    let allowed = admit_allowed v c.args.client c.if-client-self.false room in
    let added = c.in-Ok.ensures.ok in
    record {
      room = rw (added, c.push_reserved.ensures.items) (KeepsRoom-admitted v c.args.by c.args.client c.self.invariant.room allowed);
      queue = c.self.invariant.queue;
      window = c.self.invariant.window;
      entries = omega (arith, c.push_reserved.ensures.capacity, c.self.invariant.entries);
      places = rw added c.self.invariant.places;
    }

pub returns-clause-agrees : goal.returns-clause-agrees
returns-clause-agrees c = λ h was.
    let v = content_of c.self.inside in
    let room : has_room v ≡ true = ap has_room c.self.view_is ∙ sym c.has_room.ensures ∙ c.if-not-has_room.false in
    let allowed = admit_allowed v c.args.client c.if-client-self.false room in
    rw (c.in-Ok.ensures.ok, c.push_reserved.ensures.items) (AgreesWith-admitted h v c.args.by c.args.client (rw c.self.view_is was) c.self.invariant.room allowed)
