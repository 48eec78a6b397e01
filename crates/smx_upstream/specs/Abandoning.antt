-- What becomes of requests that wait on a lane that has no link.
use Rattle.std.specs.Prelude.{◌≡◌, ◌⊎◌, ◌++◌, ℕ, true, false, List, [], ◌∷◌, length, map, Option, Some, None, Ok, Err}
use Rattle.std.specs.List.{flat_map}
use Rattle.smx_lock.specs.Fronts.{Front}
use Rattle.smx_history.specs.Entries.{is_accepted, is_settled, is_up}
use Rattle.smx_history.specs.History.{entries_of}
use Rattle.smx_history.specs.declared.limits.Limits.{Limits}
use Rattle.smx_history.specs.declared.note.Note.{Note}
use Rattle.smx_lane.specs.declared.sent.Sent.{Sent}
use Rattle.smx_history.specs.declared.reply.TakeRefusal.TheVariants.{QueueEmpty}
use Rattle.smx_history.specs.declared.reply.FailRefusal.TheVariants.{WindowEmpty}
use Rattle.smx_shared.specs.declared.fault.FailFault.TheVariants as fails
use Rattle.smx_shared.specs.declared.fault.TakeFault.{TakeFault}
use Rattle.smx_shared.specs.declared.fault.TakeFault.TheVariants as takes
use Rattle.smx_shared.specs.Serving.{Takes}
use Rattle.smx_shared.specs.Taps.{Known, Took}
use Rattle.smx_turns.specs.Runs.{Runs}
use Rattle.smx_upstream.specs.declared.abandoning.AbandonEnd.{AbandonEnd}
use Rattle.smx_upstream.specs.declared.abandoning.AbandonEnd.TheVariants.{Emptied, StaysDown, Spent, Left}
use Rattle.smx_upstream.specs.declared.abandoning.Abandoned.{Abandoned}
use Rattle.smx_upstream.specs.declared.abandoning.Round.{Round}
use Rattle.smx_upstream.specs.declared.event.Rise.{Rise}
use Rattle.smx_upstream.specs.Losing.{Loses}
use Rattle.smx_upstream.specs.Rising.{Rises, said_last, stays_down}

-- one request was taken
abbrev pub TakesOne : ℕ → Front Note Limits → Sent → Front Note Limits → Type 0
TakesOne now f sent g = Takes f g now (Ok sent)

-- the lane refused to give one more, or was not asked
abbrev pub StopsTaking : ℕ → Front Note Limits → Front Note Limits → Option TakeFault → Type 0
StopsTaking now f g (Some fault) = Takes f g now (Err fault)
StopsTaking now f g None = g ≡ f

-- one request after another was taken, until the lane refused
pub record TakesAll (now : ℕ) (f g : Front Note Limits) (taken : List Sent) (stop : Option TakeFault) : Type 0 where
  pub last : Front Note Limits
  pub runs : Runs (TakesOne now) f taken last
  pub stops : StopsTaking now last g stop

-- one round: the lane came up, gave what its window holds, and was lost
pub record GoesRound (now : ℕ) (f : Front Note Limits) (r : Round) (g : Front Note Limits) : Type 0 where
  pub up : Front Note Limits
  pub full : Front Note Limits
  pub rises : Rises f up r.rise
  pub stays : stays_down (said_last r.rise) ≡ false
  pub takes : TakesAll now up full r.taken r.stop
  pub loses : Loses full g r.lost

-- it found the queue empty, and behind that the window
abbrev pub HasEmptied : Round → Type 0
HasEmptied r = (r.stop ≡ Some (takes.Refused QueueEmpty)) × (r.lost.end ≡ Some (fails.Refused WindowEmpty))

-- a call found the lane's tickets spent
abbrev pub IsSpentIn : Round → Type 0
IsSpentIn r = (r.stop ≡ Some takes.Spent) ⊎ (r.lost.end ≡ Some fails.Spent)

-- the last of these rounds was such
abbrev pub IsLast : (Round → Type 0) → List Round → Type 0
IsLast Such rounds = (before : List Round) × (r : Round) × (rounds ≡ before ++ r ∷ []) × Such r

-- why no more rounds were made
abbrev pub EndsFor : List Round → AbandonEnd → Type 0
EndsFor rounds Emptied = IsLast HasEmptied rounds
EndsFor rounds (StaysDown rise) = stays_down (said_last rise) ≡ true
EndsFor rounds Spent = IsLast IsSpentIn rounds
EndsFor rounds Left = length rounds ≡ 65536

-- behind the last round the lane was asked to come up once more, or nothing was done
abbrev pub EndsRounds : Front Note Limits → Front Note Limits → AbandonEnd → Type 0
EndsRounds f g Emptied = g ≡ f
EndsRounds f g (StaysDown rise) = Rises f g rise
EndsRounds f g Spent = g ≡ f
EndsRounds f g Left = g ≡ f

-- round after round
pub record Abandons (now : ℕ) (f g : Front Note Limits) (done : Abandoned) : Type 0 where
  pub last : Front Note Limits
  pub runs : Runs (GoesRound now) f done.rounds last
  pub ends : EndsRounds last g done.end
  pub why : EndsFor done.rounds done.end

-- each request that was accepted by the one moment is settled by the other
abbrev pub AreSettled : List Note → List Note → Type 0
AreSettled h h' = (c n : ℕ) → is_accepted c n (entries_of h) ≡ true → is_settled c n (entries_of h') ≡ true

-- the lane was brought up, of all that was accepted until then nothing is left, and it is down
pub record LeavesNone (f g : Front Note Limits) : Type 0 where
  pub up : Front Note Limits
  pub rise : Rise
  pub rises : Rises f up rise
  pub settled : AreSettled up.seen g.seen
  pub down : is_up (entries_of g.seen) ≡ false

-- what a round lets the tap know of its own notes: its takes, and no answer
abbrev pub round_known : Round → List Known
round_known r = map (λ s. Took s.request.client s.upstream) r.taken

abbrev pub rounds_known : List Round → List Known
rounds_known rs = flat_map round_known rs
