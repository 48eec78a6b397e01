-- What the ends of a box keep, and what their private functions do.
use Rattle.std.specs.Prelude.{◌≡◌, ℕ, ◌+◌, ◌≤◌, zero, suc, Bool, true, false, List, [], length, Result, Ok, Err}
use Rattle.crossbeam_queue.specs.Passes.{Pass, view}
use Rattle.smx_box.specs.declared.letter.Letter.{Letter}
use Rattle.smx_box.specs.declared.letter.Known.{Known}
use Rattle.smx_box.specs.declared.letter.Note.{Note}
use Rattle.smx_box.specs.Letters.{of, is_open, Numbered}
use Rattle.smx_box.specs.Private.Rule.{KnowsPlaces}
use Rattle.smx_box.specs.Boxes.{most_items, Stood, pass_notes, puts, gets, BoxHistory, PassFront, Sending, Receiving, PutServes, FullPutServes}

-- counts a sender that is no longer open
abbrev pub one_if_shut : Bool → ℕ
one_if_shut true = 0
one_if_shut false = 1

-- how many of the first n senders are shut
abbrev pub shut_below : ℕ → (ℕ → Bool) → ℕ
shut_below zero opened = 0
shut_below (suc n) opened = one_if_shut (opened n) + shut_below n opened

module _ {T : Type 0} where
  -- a pass of a queue with so many places
  abbrev pub pass_front : ℕ → Pass (Letter T) (Known T) → PassFront T
  pass_front places p = record { queue = record { table = p.table_id; places = places }; known = view p }

  -- the pass was told how many places its queue has
  abbrev pub IsTold : PassFront T → Type 0
  IsTold f = KnowsPlaces f.queue.places f.known

  -- the letter is the next of the sender that has the pass
  pub record IsNextLetter (f : PassFront T) (m : Letter T) : Type 0 where
    pub pass : f.known.number ≡ m.sender + 1
    pub number : m.number ≡ length (puts f.known.mine) + 1
    pub opened : is_open (puts f.known.mine) ≡ true

  -- a pass of the sender p that made no note yet
  abbrev pub IsFreshPass : PassFront T → ℕ → Type 0
  IsFreshPass f p = (f.known.number ≡ p + 1) × (f.known.mine ≡ [])

  -- what a sender keeps of its pass
  pub record IsSender (f : PassFront T) (p count : ℕ) : Type 0 where
    pub pass : f.known.number ≡ p + 1
    pub counted : length (puts f.known.mine) ≡ count
    pub limit : count ≤ most_items
    pub numbered : Numbered 0 (puts f.known.mine)
    pub opened : is_open (puts f.known.mine) ≡ true

  -- what a receiver keeps of its pass
  pub record IsReceiver (f : PassFront T) (senders shut : ℕ) : Type 0 where
    pub pass : f.known.number ≡ 0
    pub all : f.known.senders ≡ senders
    pub numbered : (p : ℕ) → Numbered 0 (of p (gets f.known.mine))
    pub counted : shut ≡ shut_below senders (λ p. is_open (of p (gets f.known.mine)))
    pub own : pass_notes 0 f.known.seen ≡ f.known.mine
    pub left : (items : List (Letter T)) × BoxHistory f.known.seen items

  abbrev pub sending : ℕ → PassFront T → Sending T
  sending sender f = record { sender = sender; put = puts f.known.mine; front = f }

  abbrev pub receiving : PassFront T → Receiving T
  receiving f = record { senders = f.known.senders; got = gets f.known.mine; front = f }

  -- one step found so many letters
  abbrev pub CountServes : PassFront T → ℕ → Type 0
  CountServes f n = (found : List (Note T)) × (items : List (Letter T)) × Stood f.known found items × (length items ≡ n)

  abbrev pub PostServes : Sending T → PassFront T → Letter T → Result (Unit {0}) (Letter T) → Type 0
  PostServes s g m (Ok _) = PutServes s g m
  PostServes s g m (Err back) = (back ≡ m) × FullPutServes s g
