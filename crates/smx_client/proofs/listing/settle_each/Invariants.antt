use Rattle.std.proofs.Common.{◌≡◌, ◌≤◌, ◌*◌, ◌++◌, List, length}
use Rattle.std.specs.List.{flat_map}
use Rattle.smx_shared.specs.declared.batch.Landing.{Landing}
use Rattle.smx_client.specs.Events.{submit_told}
use Rattle.smx_client.specs.Sayings.{Spoke}
use Rattle.smx_client.specs.Private.Lists.{landed_out}
use Rattle.smx_client.proofs.listing.settle_each.Given as goal

abbrev pub invariant-loop-landing : goal.invariant-loop-landing
invariant-loop-landing g l = record {
  made : (ls : List Landing) × (ls ++ l.left.items ≡ l.fn.landings.items) × Spoke l.fn.wire l.wire (flat_map (λ x. landed_out x.landed) ls)
      × (g.G.Gate.told l.gate ≡ g.G.Gate.told l.fn.gate ++ flat_map (λ x. submit_told x.landed) ls);
  room : 16 * length l.left.items ≤ l.wire.room;
  asked : g.G.Gate.asked l.gate ≡ g.G.Gate.asked l.fn.gate;
}

abbrev pub decreases-loop-landing : goal.decreases-loop-landing
decreases-loop-landing g l = length l.left.items
