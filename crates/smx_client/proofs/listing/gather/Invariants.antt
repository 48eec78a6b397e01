use Rattle.std.proofs.Common.{◌≡◌, ◌≤◌, ◌++◌, ℕ, Bool, List, Result, length, vec_capacity, None}
use Rattle.smx_pdu.specs.declared.pdu.Pdu.{Pdu}
use Rattle.smx_link.specs.declared.link.Polled.{Polled}
use Rattle.smx_link.specs.declared.link.LinkFault.{LinkFault}
use Rattle.smx_turns.specs.declared.directory.Query.{Query}
use Rattle.smx_turns.specs.Scenes.{scene}
use Rattle.smx_client.specs.declared.event.Event.{Event}
use Rattle.smx_client.specs.Parts.{Parts, AreOffersOf}
use Rattle.smx_client.specs.Table.{Before, phase_of, Admitted}
use Rattle.smx_client.specs.Turns.{Leads}
use Rattle.smx_client.proofs.RequestLists.{AreAsked}
use Rattle.smx_client.proofs.listing.gather.Given as goal

abbrev pub invariant-loop : goal.invariant-loop
invariant-loop g l = record {
  heard : (ps : List Pdu) × (l.requests.read ≡ l.fn.requests.read ++ ps) × (l.wire.heard ≡ l.fn.wire.heard ++ ps) × AreAsked l.fn.accounts l.fn.session.account l.fn.session.state ps;
  pairs : AreOffersOf l.requests.read l.requests.offers.items;
  count : length l.requests.offers.items ≡ l.counter;
  room : 16 ≤ vec_capacity l.requests.offers;
  failed : l.wire.failed ≡ None;
  less : length l.wire.rest ≤ length l.fn.wire.rest;
  same : l.wire ≡ record l.fn.wire { heard = l.wire.heard; rest = l.wire.rest };
  phase : (t : Before) (ended : Bool) → phase_of t l.fn.log ≡ Admitted ended 1 → phase_of t l.log ≡ Admitted ended (length l.requests.read);
  leads : (queries : List Query) (events : List Event) (parts : Parts) (unsent offered : List ℕ) (polls : List (Result Polled LinkFault)) (failures : ℕ)
      → Leads l.fn.turn (scene (g.G.Gate.asked l.fn.gate) (g.G.Gate.told l.fn.gate) queries events parts unsent offered polls failures) l.fn.log
      (scene (g.G.Gate.asked l.gate) (g.G.Gate.told l.gate) queries events parts unsent offered polls failures) l.log;
}
