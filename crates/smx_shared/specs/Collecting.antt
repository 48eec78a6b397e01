-- What a collect on one lane leaves.
use Rattle.std.specs.Prelude.{ℕ, Option, Result}
use Rattle.smx_lock.specs.declared.faults.Spent.{Spent}
use Rattle.smx_lock.specs.declared.faults.TryFault.{TryFault}
use Rattle.smx_pdu.specs.declared.pdu.Pdu.{Pdu}
use Rattle.smx_shared.specs.Views.{PortView}
use Rattle.smx_shared.specs.Serving.{CollectServes, Waited, Tried}
use Rattle.smx_shared.specs.declared.batch.Collected.{Collected}
use Rattle.smx_shared.specs.Batches.{CollectsServe}
use Rattle.smx_shared.specs.Submits.{OnLane}

-- one hold on the lane gave the client's oldest response or found none, or the tickets are spent
abbrev pub Collects : ℕ → PortView → PortView → Result (Option Pdu) Spent → Type 0
Collects lane v w r = OnLane lane v.fronts w.fronts (λ f g. Waited (CollectServes f g v.client) f g r)

-- one hold on the lane gave what waits for the client, or the tickets are spent
abbrev pub CollectsAll : ℕ → PortView → PortView → Result Collected Spent → Type 0
CollectsAll lane v w r = OnLane lane v.fronts w.fronts (λ f g. Waited (CollectsServe f g v.client) f g r)

-- the same of the oldest alone, or another caller has the lane
abbrev pub TriesCollect : ℕ → PortView → PortView → Result (Option Pdu) TryFault → Type 0
TriesCollect lane v w r = OnLane lane v.fronts w.fronts (λ f g. Tried (CollectServes f g v.client) f g r)
