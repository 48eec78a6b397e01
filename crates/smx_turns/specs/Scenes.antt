-- What a turn may change, and what each of its steps does.
use Rattle.std.specs.Prelude.{◌≡◌, ◌==◌, ◌≤◌, ℕ, ◌+◌, Bool, not, List, [], ◌∷◌, ◌++◌, length, Result}
use Rattle.smx_link.specs.declared.link.Polled.{Polled}
use Rattle.smx_link.specs.declared.link.LinkFault.{LinkFault}
use Rattle.smx_link.specs.Links.{fault_count}
use Rattle.smx_link.specs.Wiring.{spellings}
use Rattle.smx_turns.specs.declared.gate.Question.{Question}
use Rattle.smx_turns.specs.declared.gate.Party.{Party}
use Rattle.smx_turns.specs.declared.directory.Query.{Query}
use Rattle.smx_turns.specs.declared.mark.Mark.{Mark}
use Rattle.smx_turns.specs.declared.mark.Mark.TheVariants.{Offered, WriteFailed, Waited, Full, NoRoom, Part, Entered}
use Rattle.smx_turns.specs.declared.step.Step.{Step}
use Rattle.smx_turns.specs.declared.step.Step.TheVariants.{Asked, Read, Marked, Did}
use Rattle.smx_turns.specs.Runs.{Runs}
use Rattle.smx_turns.specs.Wires.{some_wait}
use Rattle.smx_turns.specs.Worth.{Worth}

-- What a turn may change, as contracts see it
pub record Scene (S E : Type 0) : Type 0 where
  -- what the gate was asked and told, and what the directory was asked
  pub asked : List Question
  pub told : List Party
  pub queries : List Query
  -- the worker's events, and what it stands on
  pub events : List E
  pub stand : S
  -- the octets that the link has not taken, those that it was offered, the answers of its reads, and how often it failed
  pub unsent : List ℕ
  pub offered : List ℕ
  pub polls : List (Result Polled LinkFault)
  pub failures : ℕ

module _ {E : Type 0} where
  abbrev pub fault_of : Step E → ℕ
  fault_of (Asked point answer) = 0
  fault_of (Read answer) = fault_count answer
  fault_of (Marked WriteFailed) = 1
  fault_of (Marked m) = 0
  fault_of (Did e) = 0

  -- how often the link failed
  unfoldable pub faults : List (Step E) → ℕ
  faults [] = 0
  faults (s ∷ ss) = fault_of s + faults ss

module _ {S E : Type 0} where
  abbrev pub scene : List Question → List Party → List Query → List E → S → List ℕ → List ℕ → List (Result Polled LinkFault) → ℕ → Scene S E
  scene asked told queries events stand unsent offered polls failures = record {
    asked = asked;
    told = told;
    queries = queries;
    events = events;
    stand = stand;
    unsent = unsent;
    offered = offered;
    polls = polls;
    failures = failures;
  }

  -- all that waits is offered by one write
  pub record Offers (a : Scene S E) (waited wrote left : Bool) (b : Scene S E) : Type 0 where
    pub some_waited : waited ≡ some_wait a.unsent
    pub some_written : wrote ≡ not (length b.unsent == length a.unsent)
    pub some_left : left ≡ some_wait b.unsent
    pub same : b ≡ record a { unsent = b.unsent; offered = a.offered ++ a.unsent }

  -- what a mark stands for
  abbrev pub Marks : Scene S E → Mark → Scene S E → Type 0
  Marks a (Offered waited wrote left) b = Offers a waited wrote left b
  Marks a WriteFailed b = b ≡ record a { unsent = b.unsent; offered = a.offered ++ a.unsent; failures = a.failures + 1 }
  Marks a Waited b = b ≡ a
  Marks a Full b = (65536 ≤ length a.unsent) × (b ≡ a)
  Marks a NoRoom b = b ≡ a
  Marks a Part b = b ≡ a
  Marks a (Entered account whole) b = b ≡ record a { queries = b.queries }

  -- an event does so to what the worker stands on, tells the gate, asks the directory, and what it says waits to be written
  pub record Happens (Does : S → E → S → Type 0) (worth : E → Worth) (a : Scene S E) (e : E) (b : Scene S E) : Type 0 where
    pub does : Does a.stand e b.stand
    pub same : b ≡ record a {
      told = a.told ++ (worth e).tells;
      queries = a.queries ++ (worth e).finds;
      events = a.events ++ e ∷ [];
      stand = b.stand;
      unsent = a.unsent ++ spellings (worth e).said;
    }

  -- what a step of the n-th turn changes, and nothing else
  abbrev pub Acts : (S → E → S → Type 0) → (E → Worth) → ℕ → Scene S E → Step E → Scene S E → Type 0
  Acts does worth n a (Asked point answer) b = b ≡ record a { asked = a.asked ++ record { point = point; turn = n; answer = answer } ∷ [] }
  Acts does worth n a (Read answer) b = b ≡ record a { polls = a.polls ++ answer ∷ []; failures = a.failures + fault_count answer }
  Acts does worth n a (Marked m) b = Marks a m b
  Acts does worth n a (Did e) b = Happens does worth a e b

  -- each step acts so, where its worker may make it, and they lead from one scene to the other
  abbrev pub Changed : (S → E → S → Type 0) → (E → Worth) → (Scene S E → Step E → Scene S E → Type 0) → ℕ → Scene S E → List (Step E) → Scene S E → Type 0
  Changed does worth May n a ss b = Runs (λ x s y. May x s y × Acts does worth n x s y) a ss b

  -- what the turn's steps led to, wherever it began, they lead on from there
  abbrev pub LeadsOn : (S → E → S → Type 0) → (E → Worth) → (Scene S E → Step E → Scene S E → Type 0) → ℕ → Scene S E → List (Step E) → Scene S E → List (Step E) → Type 0
  LeadsOn does worth May n a ss b ss' = (start : Scene S E) → Changed does worth May n start ss a → Changed does worth May n start ss' b
