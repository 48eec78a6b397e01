use Rattle.std.proofs.Common.{◌≡◌, ◌≢◌, ◌<◌, ◌≤◌, ℕ, length, Some, None}
use Rattle.std.specs.Prelude.{slice_index, vec_len, vec_capacity}
use Rattle.slab.specs.Slab.{get, slab_len}
use Rattle.smx_lane.proofs.rows.Rows.new.Given as goal

abbrev pub invariant-loop : goal.invariant-loop
invariant-loop l = (slab_len l.slab ≡ l.counter) × (l.places ≤ l.slab.capacity) × (l.counter ≤ l.places) × (vec_len l.keys ≡ l.counter) × (l.places ≤ vec_capacity l.keys)
    × ((k : ℕ) → k < length l.keys.items → get l.slab (slice_index l.keys.items k) ≡ Some None)
    × ((j k : ℕ) → j < k → k < length l.keys.items → slice_index l.keys.items j ≢ slice_index l.keys.items k)
