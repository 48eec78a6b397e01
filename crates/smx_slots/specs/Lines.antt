-- Parties in a line, each once, and what comes of its calls.
use Rattle.std.specs.Prelude.{◌≡◌, ◌++◌, ◌∷◌, [], ◌==◌, ◌&&◌, ℕ, List, Bool, false, not, nat_lt, if◌then◌else◌}
use Rattle.std.specs.List.{list_any}
use Rattle.smx_turns.specs.Runs.{Runs}

-- how many parties there are, numbered from 0, and those that stand there, the first one first
pub record Standing : Type 0 where
  pub count : ℕ
  pub parties : List ℕ

-- the party is one of them
abbrev pub stands : ℕ → List ℕ → Bool
stands party parties = list_any (λ p. party == p) parties

-- the party stands last, unless it is one of them or there is no such party
abbrev pub with_party : ℕ → Standing → Standing
with_party party line =
    if nat_lt party line.count && not (stands party line.parties) then record line { parties = line.parties ++ party ∷ [] } else line

-- a call: a party comes, or the first one begins
pub data Call : Type 0 where
  Added : ℕ → Call
  Begun : ℕ → Call

-- what a call makes of a line
abbrev pub Makes : Standing → Call → Standing → Type 0
Makes before (Added party) after = after ≡ with_party party before
Makes before (Begun party) after = before ≡ record after { parties = party ∷ after.parties }

-- the parties that began, in order
unfoldable pub turns_of : List Call → List ℕ
turns_of [] = []
turns_of (Added party ∷ calls) = turns_of calls
turns_of (Begun party ∷ calls) = party ∷ turns_of calls

-- those that began are a front of those ahead, and the party stands behind the rest of them
pub record Waits (ahead : List ℕ) (party : ℕ) (calls : List Call) (after : Standing) : Type 0 where
  pub rest : List ℕ
  pub behind : List ℕ
  pub front : ahead ≡ turns_of calls ++ rest
  pub place : after.parties ≡ rest ++ party ∷ behind

-- between two turns of a party each other one that stands there has one: while a party waits for its turn,
-- those ahead of it begin, in their order and once each, and nobody else
abbrev pub IsInTurn : Type 0
IsInTurn =
    (before after : Standing) (calls : List Call) (ahead behind : List ℕ) (party : ℕ) → before.parties ≡ ahead ++ party ∷ behind
    → Runs Makes before calls after → stands party (turns_of calls) ≡ false → Waits ahead party calls after
