-- What a turn may change, of a worker.
use Rattle.std.specs.Prelude.{ℕ, List, is_some, Result, length}
use Rattle.smx_link.specs.declared.link.Polled.{Polled}
use Rattle.smx_link.specs.declared.link.LinkFault.{LinkFault}
use Rattle.smx_turns.specs.declared.gate.Question.{Question}
use Rattle.smx_turns.specs.declared.gate.Party.{Party}
use Rattle.smx_turns.specs.declared.directory.Query.{Query}
use Rattle.smx_turns.specs.Scenes.{Scene, scene}
use Rattle.smx_client.specs.Serving.{Serving, parts_of}
use Rattle.smx_client.specs.Table.{Before, step_of}
use Rattle.smx_client.specs.declared.event.Event.{Event}
use Rattle.smx_client.specs.Parts.{Parts}
use Rattle.smx_client.specs.Turns.{Leads}

module _ {L : Type 0} where
  -- what the order of its next turn depends on
  abbrev pub before : ℕ → Serving L → Before
  before now w = record { now = now; message_time = w.message_time; lanes = length w.port.fronts; stage = w.stage; settled = w.settled; parked = is_some w.parked }

  abbrev pub scene_of : (L → List ℕ) → (L → List (Result Polled LinkFault)) → (L → ℕ) → List Question → List Party → List Query → Serving L → Scene Parts Event
  scene_of offered polls failures asked told queries w = scene asked told queries w.events (parts_of w) w.wire.unsent (offered w.wire.link) (polls w.wire.link) (failures w.wire.link)

  -- steps of any turn, which ask and tell nobody
  abbrev pub Moves : (L → List ℕ) → (L → List (Result Polled LinkFault)) → (L → ℕ) → Serving L → List step_of → Serving L → List step_of → Type 0
  Moves offered polls failures old ss new ss' = (n : ℕ) (asked : List Question) (told : List Party) (queries : List Query)
      → Leads n (scene_of offered polls failures asked told queries old) ss (scene_of offered polls failures asked told queries new) ss'
