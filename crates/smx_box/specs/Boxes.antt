-- The history of a box, what a call did to it, and what clauses see of its ends.
use Rattle.std.specs.Prelude.{◌≡◌, ℕ, ◌+◌, ◌<◌, ◌≤◌, ◌==◌, Bool, true, List, [], ◌∷◌, ◌++◌, length, filter, Option, Some, None}
use mathlib.Core.List.{IsPrefix}
use Rattle.atomic_table.specs.Seated.{TableId}
use Rattle.smx_box.specs.declared.letter.Letter.{Letter}
use Rattle.smx_box.specs.declared.letter.Deed.{Deed}
use Rattle.smx_box.specs.declared.letter.Deed.TheVariants.{Putting, Getting}
use Rattle.smx_box.specs.declared.letter.Note.{Note}
use Rattle.smx_box.specs.declared.letter.Known.{Known}
use Rattle.smx_box.specs.declared.receiver.Got.{Got}
use Rattle.smx_box.specs.declared.receiver.Got.TheVariants.{Item, Shut, Empty}
use Rattle.smx_box.specs.declared.fault.BoxFault.{BoxFault}
use Rattle.smx_box.specs.declared.fault.BoxFault.TheVariants.{BadSize, NoMemory, Spent}
use Rattle.smx_box.specs.Letters.{letter, of, is_open, Delivers}

-- so many places a box has at most: one for each of 512 answers of each of 256 clients
abbrev pub most_places : ℕ
most_places = 131072

abbrev pub AreSizes : ℕ → ℕ → Type 0
AreSizes senders places = ((0 < senders) × (senders ≤ 256)) × ((0 < places) × (places ≤ most_places))

-- so many items a sender puts at most, so that its letters are 2^53 at most
abbrev pub most_items : ℕ
most_items = 9007199254740991

module _ {T : Type 0} where
  abbrev pub deed_note : ℕ → Deed T → Note T
  deed_note k d = record { by = k; deed = d }

  -- the notes of one pass, in their order
  abbrev pub pass_notes : ℕ → List (Note T) → List (Note T)
  pass_notes number h = filter (λ n. n.by == number) h

  abbrev pub letters_put : Deed T → List (Letter T)
  letters_put (Putting m) = m ∷ []
  letters_put (Getting m) = []

  abbrev pub letters_got : Deed T → List (Letter T)
  letters_got (Putting m) = []
  letters_got (Getting m) = m ∷ []

  -- all letters that were put
  abbrev pub puts : List (Note T) → List (Letter T)
  puts [] = []
  puts (n ∷ h) = letters_put n.deed ++ puts h

  -- all letters that were got
  abbrev pub gets : List (Note T) → List (Letter T)
  gets [] = []
  gets (n ∷ h) = letters_got n.deed ++ gets h

  -- the receiver has the pass 0 and the sender p the pass p + 1, and nobody else does anything
  abbrev pub IsOwnDeed : ℕ → Deed T → Type 0
  IsOwnDeed k (Putting m) = k ≡ m.sender + 1
  IsOwnDeed k (Getting m) = k ≡ 0

  abbrev pub AreOwnDeeds : List (Note T) → Type 0
  AreOwnDeeds [] = Unit {0}
  AreOwnDeeds (n ∷ h) = IsOwnDeed n.by n.deed × AreOwnDeeds h

  -- what the box holds after this history
  pub record BoxHistory (h : List (Note T)) (items : List (Letter T)) : Type 0 where
    pub delivers : Delivers (λ p. of p (puts h)) (gets h) items
    pub own : AreOwnDeeds h

  -- A step of a pass finds this history, and the box with these letters: the history begins with all that the pass had seen,
  -- has just the pass's own notes under its number, and for the receiver it has no letter of a sender that was not made; and the box has
  -- no more letters than places
  pub record Stood (v : Known T) (found : List (Note T)) (items : List (Letter T)) : Type 0 where
    pub begins : IsPrefix v.seen found
    pub own : pass_notes v.number found ≡ v.mine
    pub history : BoxHistory found items
    pub room : length items ≤ v.places
    pub no_others : v.number ≡ 0 → (p : ℕ) → v.senders ≤ p → of p (puts found) ≡ []

  -- one step found this history, and the box with these letters, and it left the box with those
  pub record OneStep (v w : Known T) (found new : List (Note T)) (before after : List (Letter T)) : Type 0 where
    pub finds : Stood v found before
    pub number : w.number ≡ v.number
    pub senders : w.senders ≡ v.senders
    pub places : (w.told ≡ v.told) × (w.places ≡ v.places)
    pub seen : w.seen ≡ found ++ new
    pub mine : w.mine ≡ v.mine ++ new
    pub leaves : BoxHistory w.seen after
    pub room_left : length after ≤ w.places

  -- one step put the letter last
  abbrev pub Posts : Known T → Letter T → Known T → Type 0
  Posts v m w = (found : List (Note T)) × (items : List (Letter T)) × OneStep v w found (deed_note v.number (Putting m) ∷ []) items (items ++ m ∷ [])

  -- one step took the letter, which was the oldest
  abbrev pub TakesLetter : Known T → Letter T → Known T → Type 0
  TakesLetter v m w = (found : List (Note T)) × (items : List (Letter T)) × OneStep v w found (deed_note v.number (Getting m) ∷ []) (m ∷ items) items

  -- one step found the box with these letters
  abbrev pub FindsLetters : Known T → List (Letter T) → Type 0
  FindsLetters v items = (found : List (Note T)) × Stood v found items

-- which queue it is, and how many letters it holds at most
pub record QueueId : Type 0 where
  pub table : TableId
  pub places : ℕ

-- what clauses see of a pass: which queue it is of, and what it knows
pub record PassFront (T : Type 0) : Type 0 where
  pub queue : QueueId
  pub known : Known T

-- what clauses see of a sender: which it is, all that it put, and its pass
pub record Sending (T : Type 0) : Type 0 where
  pub sender : ℕ
  pub put : List (Letter T)
  pub front : PassFront T

-- what clauses see of a receiver: how many senders there are, all that it got, and its pass
pub record Receiving (T : Type 0) : Type 0 where
  pub senders : ℕ
  pub got : List (Letter T)
  pub front : PassFront T

module _ {T : Type 0} where
  -- one step put the letter; what the history says of this sender is what it put, and with the letter the box has no more letters than
  -- places
  abbrev pub PutServes : Sending T → PassFront T → Letter T → Type 0
  PutServes s g m = (g.queue ≡ s.front.queue) × (found : List (Note T)) × (items : List (Letter T))
      × OneStep s.front.known g.known found (deed_note s.front.known.number (Putting m) ∷ []) items (items ++ m ∷ [])
      × (of s.sender (puts found) ≡ s.put)
      × (length (items ++ m ∷ []) ≤ s.front.queue.places)

  -- one step found every place with a letter; nothing changed
  abbrev pub FullPutServes : Sending T → PassFront T → Type 0
  FullPutServes s g = (g ≡ s.front) × (found : List (Note T)) × (items : List (Letter T))
      × Stood s.front.known found items
      × (of s.sender (puts found) ≡ s.put)
      × (length items ≡ s.front.queue.places)

  -- one step found every place with a letter, or one without; nothing changed
  abbrev pub LookServes : Sending T → Bool → Type 0
  LookServes s full = (found : List (Note T)) × (items : List (Letter T))
      × Stood s.front.known found items
      × (of s.sender (puts found) ≡ s.put)
      × (full ≡ (length items == s.front.queue.places))

  -- one step got the oldest letter, of no more than places, or found none, and then nothing changed; what the history says was got is
  -- what the receiver got
  abbrev pub OldestServes : Receiving T → PassFront T → Option (Letter T) → Type 0
  OldestServes r g (Some m) = (g.queue ≡ r.front.queue) × (found : List (Note T)) × (items : List (Letter T))
      × OneStep r.front.known g.known found (deed_note r.front.known.number (Getting m) ∷ []) (m ∷ items) items
      × (gets found ≡ r.got)
      × (length (m ∷ items) ≤ r.front.queue.places)
  OldestServes r g None = (g ≡ r.front) × (found : List (Note T)) × Stood r.front.known found [] × (gets found ≡ r.got)

  -- one step found no letter; nothing changed. The history that it found is what the receiver has seen: nobody else gets, so a letter
  -- that was put since then would lie there
  abbrev pub EmptyGetServes : Receiving T → PassFront T → Type 0
  EmptyGetServes r g = (g ≡ r.front) × Stood r.front.known r.front.known.seen [] × (gets r.front.known.seen ≡ r.got)

  -- what a get hands out is the sender's next letter, which no closing mark came before
  abbrev pub Hands : List (Letter T) → List (Letter T) → Got T → Type 0
  Hands old new (Item p n x) = (new ≡ old ++ letter p n (Some x) ∷ []) × (n ≡ length (of p old) + 1) × (is_open (of p old) ≡ true)
  Hands old new (Shut p) = (new ≡ old ++ letter p (length (of p old) + 1) None ∷ []) × (is_open (of p old) ≡ true)
  Hands old new Empty = new ≡ old

  -- one step served a get
  abbrev pub GetServes : Receiving T → PassFront T → Got T → Type 0
  GetServes r g (Item p n x) = OldestServes r g (Some (letter p n (Some x)))
  GetServes r g (Shut p) = OldestServes r g (Some (letter p (length (of p r.got) + 1) None))
  GetServes r g Empty = EmptyGetServes r g

  -- each sender stands at its index, the first at n, on the queue q, and put nothing
  abbrev pub StandFrom : ℕ → QueueId → List (Sending T) → Type 0
  StandFrom n q [] = Unit {0}
  StandFrom n q (s ∷ ss) = ((s.sender ≡ n) × (s.put ≡ []) × (s.front.queue ≡ q)) × StandFrom (n + 1) q ss

  -- a new box of these sizes: nothing was put or got, and each sender stands at its index
  pub record OpensBox (senders places : ℕ) (r : Receiving T) (all : List (Sending T)) : Type 0 where
    pub within : AreSizes senders places
    pub places_are : r.front.queue.places ≡ places
    pub senders_are : r.senders ≡ senders
    pub nothing_got : r.got ≡ []
    pub nothing_seen : r.front.known.seen ≡ []
    pub count : length all ≡ senders
    pub each : StandFrom 0 r.front.queue all

-- only sizes out of range are bad, and no new box is spent
abbrev pub IsBoxFault : ℕ → ℕ → BoxFault → Type 0
IsBoxFault senders places BadSize = ¬ AreSizes senders places
IsBoxFault senders places NoMemory = AreSizes senders places
IsBoxFault senders places Spent = ⊥
