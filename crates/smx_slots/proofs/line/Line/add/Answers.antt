use Rattle.std.proofs.Common.{◌≡◌, ◌<◌, false, length, arith}
use Rattle.std.specs.Prelude.{slice_index_or}
use Rattle.std.proofs.lemmas.Grind.{common_steps}
use Rattle.smx_slots.proofs.Joining.{marks_joined, distinct_joined, room_left}
use Rattle.smx_slots.proofs.line.Line.add.Goals as goal

pub push_back_reserved-requires : goal.push_back_reserved-requires
push_back_reserved-requires c =
    let inside = c.self.inside in
    let low : c.args.party < length inside.marks.items = grind (arith, common_steps) in
    let free : slice_index_or inside.marks.items c.args.party false ≡ false = grind (arith, common_steps) in
    let room = room_left inside.parties.items inside.marks.items c.self.invariant.marks c.args.party low c.self.invariant.distinct free in
    let capacity = c.self.invariant.room in
    grind (arith, common_steps, room, capacity)

pub invariant_of-self : goal.invariant_of-self
invariant_of-self c =
    let inside = c.self.inside in
    let low : c.args.party < length inside.marks.items = grind (arith, common_steps) in
    let free : slice_index_or inside.marks.items c.args.party false ≡ false = grind (arith, common_steps) in
    record {
      distinct = rw c.push_back_reserved.ensures.items (distinct_joined inside.parties.items inside.marks.items c.self.invariant.marks c.args.party low c.self.invariant.distinct free);
      marks = λ q. rw c.push_back_reserved.ensures.items (marks_joined inside.parties.items inside.marks.items c.self.invariant.marks c.args.party low q);
      room = grind (arith, common_steps);
    }
