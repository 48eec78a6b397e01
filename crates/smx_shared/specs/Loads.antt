-- What looking at one lane leaves.
use Rattle.std.specs.Prelude.{ℕ, Result}
use Rattle.smx_lock.specs.declared.faults.Spent.{Spent}
use Rattle.smx_lane.specs.declared.load.Load.{Load}
use Rattle.smx_shared.specs.Views.{DoorView}
use Rattle.smx_shared.specs.Serving.{LoadServes, Waited}
use Rattle.smx_shared.specs.Submits.{OnLane}

-- one hold on the lane told how much it holds, or the tickets are spent
abbrev pub Loads : ℕ → DoorView → DoorView → Result Load Spent → Type 0
Loads lane v w r = OnLane lane v.fronts w.fronts (λ f g. Waited (LoadServes f g) f g r)
