-- What a box delivers, said of lists of letters alone.
use Rattle.std.specs.Prelude.{◌≡◌, ℕ, ◌+◌, ◌<◌, ◌==◌, Bool, true, false, List, [], ◌∷◌, ◌++◌, filter, Option, Some, None}
use Rattle.smx_box.specs.declared.letter.Letter.{Letter}

-- no content is a closing mark
abbrev pub is_item : {T : Type 0} → Option T → Bool
is_item (Some x) = true
is_item None = false

-- this one, and the rest
abbrev pub both : Bool → Bool → Bool
both true rest = rest
both false rest = false

module _ {T : Type 0} where
  abbrev pub letter : ℕ → ℕ → Option T → Letter T
  letter sender number content = record { sender = sender; number = number; content = content }

  -- the letters of one sender, in order
  abbrev pub of : ℕ → List (Letter T) → List (Letter T)
  of p ms = filter (λ m. m.sender == p) ms

  -- no closing mark is among them
  abbrev pub is_open : List (Letter T) → Bool
  is_open [] = true
  is_open (m ∷ ms) = both (is_item m.content) (is_open ms)

  -- numbered from n + 1 on, and a closing mark is the last, so that there is at most one
  abbrev pub Numbered : ℕ → List (Letter T) → Type 0
  Numbered n [] = Unit {0}
  Numbered n (m ∷ ms) = (m.number ≡ n + 1) × (is_item m.content ≡ false → ms ≡ []) × Numbered (n + 1) ms

  -- of each sender, what was got and then what is in the box is what it put, numbered 1, 2, 3, .., its closing mark last
  abbrev pub Delivers : (ℕ → List (Letter T)) → List (Letter T) → List (Letter T) → Type 0
  Delivers put got items = (p : ℕ) → (of p (got ++ items) ≡ put p) × Numbered 0 (put p)

  -- the closing mark of each sender is among them
  abbrev pub AllShut : ℕ → List (Letter T) → Type 0
  AllShut senders got = (p : ℕ) → p < senders → is_open (of p got) ≡ false
