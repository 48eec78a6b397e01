use Rattle.std.proofs.Common.{◌≡◌, ◌<◌, ◌≤◌, ℕ}
use Rattle.std.specs.List.{slice_get}
use Rattle.std.specs.Option.{option_map}
use Rattle.smx_upstream.specs.Standing.{emptied}
use Rattle.smx_upstream.proofs.worker.let_go.Given as goal

abbrev pub invariant-loop-slot : goal.invariant-loop-slot
invariant-loop-slot l = record {
  before : (k : ℕ) → k < l.slot → slice_get l.owed.items k ≡ option_map emptied (slice_get l.fn.owed.items k);
  behind : (k : ℕ) → l.slot ≤ k → slice_get l.owed.items k ≡ slice_get l.fn.owed.items k;
}
