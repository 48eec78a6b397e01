use Rattle.std.proofs.Common.{◌≡◌, ◌≤◌, length, vec_len, vec_capacity}
use Rattle.std.specs.Arc.{arc_value}
use Rattle.crossbeam_queue.specs.Passes.{view, IsPassOf, ruled_capacity}
use Rattle.smx_box.specs.Boxes.{StandFrom}
use Rattle.smx_box.specs.Private.Rule.{told_known}
use Rattle.smx_box.specs.Private.Ends.{pass_front}
use Rattle.smx_box.proofs.boxed.pass_all.Given as goal

abbrev pub invariant-loop-sender : goal.invariant-loop-sender
invariant-loop-sender g l = (l.pass.table_id ≡ l.fn.pass.table_id) × IsPassOf (arc_value l.fn.queue) l.pass × (view l.pass ≡ record (told_known (ruled_capacity (arc_value l.fn.queue))) { senders = l.sender }) × (vec_len l.all ≡ l.sender) × (length l.all.items ≡ l.sender)
    × (l.fn.senders ≤ vec_capacity l.all) × StandFrom 0 (pass_front (ruled_capacity (arc_value l.fn.queue)) l.fn.pass).queue l.all.items
