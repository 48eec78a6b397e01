-- The rule of a box's queue: of what it holds, and of what each pass knows.
use Rattle.std.specs.Prelude.{◌≡◌, ℕ, ◌+◌, ◌<◌, ◌≤◌, ◌⊎◌, true, false, List, [], ◌∷◌, length}
use mathlib.Core.Option.{some}
use mathlib.Core.List.{IsPrefix}
use lib.ListN.{get_elem?}
use Rattle.smx_box.specs.declared.letter.Letter.{Letter}
use Rattle.smx_box.specs.declared.letter.Note.{Note}
use Rattle.smx_box.specs.declared.letter.Known.{Known}
use Rattle.smx_box.specs.Boxes.{pass_notes, BoxHistory}

module _ {T : Type 0} where
  -- Each pass has its place for its number, and was told how many places there are. What it has seen is a beginning of the history, its own notes are all under its number, and the receiver's knows how many passes there are
  pub record FitsHistory (h : List (Note T)) (places passes place : ℕ) (v : Known T) : Type 0 where
    pub told : (v.told ≡ true) × (v.places ≡ places)
    pub number : v.number ≡ place
    pub saw : IsPrefix v.seen h
    pub own : pass_notes v.number h ≡ v.mine
    pub counts : v.number ≡ 0 → v.senders + 1 ≡ passes

  -- some history left these letters, no more than there are places, nobody without a pass did anything, and each pass fits
  abbrev pub IsOpenWith : ℕ → List (Letter T) → List (Known T) → Type 0
  IsOpenWith places items views = (h : List (Note T)) × BoxHistory h items
      × ((k : ℕ) → length views ≤ k → pass_notes k h ≡ [])
      × ((place : ℕ) (v : Known T) → get_elem? views place ≡ some v → FitsHistory h places (length views) place v)
      × (length items ≤ places)

  -- the receiver's pass, before it is told how many places there are
  abbrev pub first_known : Known T
  first_known = record { number = 0; senders = 0; told = false; places = 0; seen = []; mine = [] }

  -- it has put the letter that tells it, and then it has got it: no sender is made yet
  abbrev pub telling_known : ℕ → Known T
  telling_known places = record first_known { places = places }

  abbrev pub told_known : ℕ → Known T
  told_known places = record first_known { told = true; places = places }

  -- Only a push speaks of the queue's places. So the first pass tells the rule by a letter whose number they are; it goes in and out before any sender is made, and is in no history
  abbrev pub IsUntold : List (Letter T) → List (Known T) → Type 0
  IsUntold items views = (items ≡ []) × (views ≡ first_known ∷ [])

  abbrev pub IsTelling : List (Letter T) → List (Known T) → Type 0
  IsTelling items views = (m : Letter T) × (items ≡ m ∷ []) × (views ≡ telling_known m.number ∷ []) × (0 < m.number)

  abbrev pub IsLeftBy : List (Letter T) → List (Known T) → Type 0
  IsLeftBy items views = IsUntold items views ⊎ (IsTelling items views ⊎ ((places : ℕ) × IsOpenWith places items views))

  -- what the letter that tells leaves, in and out
  abbrev pub Tells : Known T → Letter T → Known T → Type 0
  Tells v m w = w ≡ telling_known m.number

  abbrev pub WasTold : Known T → Letter T → Known T → Type 0
  WasTold v m w = w ≡ record v { told = true }

  abbrev pub FindsNone : Known T → List (Letter T) → Type 0
  FindsNone v items = items ≡ []

  abbrev pub FindsOne : Known T → List (Letter T) → Type 0
  FindsOne v items = length items ≡ 1

  -- the pass was told that there are so many places
  abbrev pub KnowsPlaces : ℕ → Known T → Type 0
  KnowsPlaces places v = (v.told ≡ true) × (v.places ≡ places)

  -- the receiver's pass with a sender more, and the pass of that sender
  abbrev pub receiver_known : Known T → Known T
  receiver_known v = record v { senders = v.senders + 1 }

  abbrev pub sender_known : Known T → Known T
  sender_known v = record { number = v.senders + 1; senders = 0; told = v.told; places = v.places; seen = v.seen; mine = [] }
