use Rattle.std.proofs.Common.{◌≡◌, ◌≤◌, ◌++◌, List, length, vec_len, vec_capacity}
use Rattle.smx_history.specs.declared.note.Note.{Note}
use Rattle.smx_lane.specs.Calls.{GoesOn, Ran, HandsOut}
use Rattle.smx_lane.proofs.call.run_all.Given as goal

abbrev pub invariant-loop-call : goal.invariant-loop-call
invariant-loop-call l = record {
  made : (notes : List Note) × Ran l.initial.lane l.yielded l.replies.items notes l.lane × GoesOn l.initial.lane notes l.lane × HandsOut l.initial.lane l.replies.items notes l.lane;
  count : vec_len l.replies ≡ length l.yielded;
  room : length l.fn.calls.items ≤ vec_capacity l.replies;
  left : l.yielded ++ l.call-iterator.rest.items ≡ l.fn.calls.items;
  limits : l.lane.limits ≡ l.initial.lane.limits;
}
