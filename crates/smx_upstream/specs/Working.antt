-- What contracts see of a worker.
use Rattle.std.specs.Prelude.{◌≡◌, ℕ, true, false, is_some, List, ◌++◌, Option, None, Result}
use Rattle.smx_pdu.specs.declared.pdu.Pdu.{Pdu}
use Rattle.smx_link.specs.Wiring.{Wiring}
use Rattle.smx_link.specs.declared.link.Polled.{Polled}
use Rattle.smx_link.specs.declared.link.LinkFault.{LinkFault}
use Rattle.smx_shared.specs.Views.{TapView}
use Rattle.smx_turns.specs.declared.gate.Question.{Question}
use Rattle.smx_turns.specs.declared.gate.Party.{Party}
use Rattle.smx_turns.specs.declared.directory.Query.{Query}
use Rattle.smx_turns.specs.declared.end.TurnEnd.{TurnEnd}
use Rattle.smx_turns.specs.declared.end.Fault.{Fault}
use Rattle.smx_turns.specs.declared.end.End.{End}
use Rattle.smx_turns.specs.Endings.{ending_of}
use Rattle.smx_turns.specs.declared.step.Step.{Step}
use Rattle.smx_turns.specs.Runs.{Runs}
use Rattle.smx_turns.specs.Scenes.{scene, Changed, LeadsOn}
use Rattle.smx_upstream.specs.declared.event.Event.{Event}
use Rattle.smx_turns.specs.Wires.{IsBad}
use Rattle.smx_turns.specs.Worth.{those, ins, outs, has_broken}
use Rattle.smx_upstream.specs.Events.{worth}
use Rattle.smx_upstream.specs.declared.last.LastRequest.{LastRequest}
use Rattle.smx_upstream.specs.Last.{last_request}
use Rattle.smx_upstream.specs.Phases.{Before, Deciding, before}
use Rattle.smx_upstream.specs.Phases.Source.{Earlier}
use Rattle.smx_upstream.specs.May.{Scene, May}
use Rattle.smx_upstream.specs.Standing.{Stand, Does, HoldNone}

pub record Working (L : Type 0) : Type 0 where
  -- the PDUs over its link
  pub wire : Wiring L
  -- what it stands on, now and as it was handed over
  pub stand : Stand
  pub first : Stand
  -- a whole PDU that waits to be decided
  pub held : Option Pdu
  -- how the work ended, where nothing but writing is left to do
  pub ending : Option End
  -- all that it did
  pub events : List Event
  -- the request that was sent last
  pub last : Option LastRequest
  -- the steps of its last turn
  pub steps : List (Step Event)
  -- how its turns ended
  pub ends : List (Result TurnEnd Fault)

-- two moments of one tap
abbrev pub IsSameLane : TapView → TapView → Type 0
IsSameLane s t = (t.lane ≡ s.lane) × (t.front.lock ≡ s.front.lock)

-- what a worker keeps at every call
pub record IsWorker {L : Type 0} (w : Working L) : Type 0 where
  -- In: the PDUs heard are those decided, and then one that waits
  pub heard : w.wire.heard ≡ ins worth w.events ++ those w.held
  -- Out: the PDUs said are those that the events send
  pub said : w.wire.said ≡ outs worth w.events
  -- each event did what its call did, one after another
  pub runs : ∥ Runs Does w.first w.events w.stand ∥₁
  -- its tap is that which it was handed, of the same lane and lock
  pub tap : IsSameLane w.first.tap w.stand.tap
  -- at first no client has a message of this link
  pub none_owed : HoldNone w.first.owed
  -- just an event of which that came left nothing but writing to do
  pub over : w.ending ≡ ending_of worth w.events
  -- the request that was sent last is that of the events
  pub last : w.last ≡ last_request w.events
  -- no bad length was met, or all ends
  pub goes_on : w.ending ≡ None → w.wire.failed ≡ None
  -- a bad length that was answered stands at the front of what is left
  pub broke : has_broken worth w.events ≡ true → IsBad w.wire

-- what the order of a turn at this moment depends on
abbrev pub before_turn : {L : Type 0} → ℕ → Working L → Before
before_turn now w = before now (is_some w.ending) w.wire.unsent

-- the same where the last turn is gone on with: that begins where PDUs are decided
abbrev pub before_rest : {L : Type 0} → ℕ → Working L → Before
before_rest now w = record (before_turn now w) { start = Deciding (Earlier false) }

-- what a turn may change, as contracts see it of a worker, its gate and its directory
abbrev pub scene_of : {L : Type 0} → (L → List ℕ) → (L → List (Result Polled LinkFault)) → (L → ℕ) → List Question → List Party → List Query → Working L → Scene
scene_of offered polls failures asked told queries w = scene asked told queries w.events w.stand w.wire.unsent (offered w.wire.link) (polls w.wire.link) (failures w.wire.link)

-- the steps of a turn, and nothing else, lead from one scene to the other
abbrev pub Changes : ℕ → Scene → List (Step Event) → Scene → Type 0
Changes n a ss b = Changed Does worth May n a ss b

-- what the turn's steps led to, wherever it began, they lead on from there
abbrev pub Leads : ℕ → Scene → List (Step Event) → Scene → List (Step Event) → Type 0
Leads n a ss b ss' = LeadsOn Does worth May n a ss b ss'

-- steps of any turn, which ask and tell nobody
abbrev pub Moves : {L : Type 0} → (L → List ℕ) → (L → List (Result Polled LinkFault)) → (L → ℕ) → Working L → List (Step Event) → Working L → List (Step Event) → Type 0
Moves offered polls failures old ss new ss' = (n : ℕ) (asked : List Question) (told : List Party) (queries : List Query)
    → Leads n (scene_of offered polls failures asked told queries old) ss (scene_of offered polls failures asked told queries new) ss'
