-- What a put does to the senders, and a get to a box.
use Rattle.std.specs.Prelude.{◌≡◌, ℕ, Bool, true, false, List, [], ◌∷◌, ◌++◌, ◌==◌, length, map, set, slice_get, Option, Some, None, Result, Ok, Err, if◌then◌else◌}
use Rattle.smx_box.specs.declared.sender.PutFault.{PutFault}
use Rattle.smx_box.specs.declared.sender.PutFault.TheVariants.{Full, Spent}
use Rattle.smx_box.specs.declared.letter.Letter.{Letter}
use Rattle.smx_box.specs.Letters.{letter}
use Rattle.smx_box.specs.declared.fault.Spent.{Spent as BoxSpent}
use Rattle.smx_box.specs.declared.receiver.Got.{Got}
use Rattle.smx_box.specs.declared.receiver.Got.TheVariants as got
use Rattle.smx_box.specs.Boxes.{most_items, Sending, PutServes, FullPutServes, LookServes, Receiving, GetServes, Hands}

-- just that at this index changed, so
abbrev pub AtIndex : {X : Type 0} → ℕ → List X → List X → (X → X → Type 0) → Type 0
AtIndex {X = X} i ss tt P = (x : X) × (y : X) × (slice_get ss i ≡ Some x) × (tt ≡ set ss i y) × P x y

module _ {T : Type 0} where
  -- one step put the item, as this sender's n-th
  pub record Puts (item : T) (n : ℕ) (x y : Sending T) : Type 0 where
    pub number : n ≡ length y.put
    pub put : y.put ≡ x.put ++ letter x.sender n (Some item) ∷ []
    pub served : PutServes x y.front (letter x.sender n (Some item))

  -- one step found each place of the box taken
  pub record FindsFull (x y : Sending T) : Type 0 where
    pub put : y.put ≡ x.put
    pub served : FullPutServes x y.front

  -- one step found each place of the box of the sender at this index taken, or one free
  abbrev pub LooksAt : ℕ → List (Sending T) → Bool → Type 0
  LooksAt i ss full = (x : Sending T) × (slice_get ss i ≡ Some x) × LookServes x full

  -- the sender's numbers are spent
  pub record FindsSpent (x y : Sending T) : Type 0 where
    pub put : y.put ≡ x.put
    pub spent : (y.front ≡ x.front) × (length x.put ≡ most_items)

  abbrev pub PutFails : PutFault → Sending T → Sending T → Type 0
  PutFails Full x y = FindsFull x y
  PutFails Spent x y = FindsSpent x y

  -- the item was put, or is back
  abbrev pub PutAnswers : T → Result ℕ (T × PutFault) → Sending T → Sending T → Type 0
  PutAnswers item (Ok n) x y = Puts item n x y
  PutAnswers item (Err e) x y = (e.0 ≡ item) × PutFails e.1 x y

  -- what the letters hold
  abbrev pub contents : List (Letter T) → List (Option T)
  contents ms = map (λ m. m.content) ms

  -- what the sender put, where there is one
  abbrev pub contents_in : Option (Sending T) → List (Option T)
  contents_in (Some s) = contents s.put
  contents_in None = []

  -- what a put at the index i adds to the sender at k
  abbrev pub put_on : {X F : Type 0} → ℕ → ℕ → T → Result X F → List (Option T)
  put_on k i item (Ok n) = if k == i then Some item ∷ [] else []
  put_on k i item (Err e) = []

  -- one step of the box served a get, which is never spent
  abbrev pub Gets : Receiving T → Receiving T → Result (Got T) BoxSpent → Type 0
  Gets a b (Ok found) = GetServes a b.front found × Hands a.got b.got found
  Gets a b (Err e) = ⊥

  -- whether it gave neither an item nor a mark
  abbrev pub finds_nothing : Result (Got T) BoxSpent → Bool
  finds_nothing (Ok (got.Item k n item)) = false
  finds_nothing (Ok (got.Shut k)) = false
  finds_nothing (Ok got.Empty) = true
  finds_nothing (Err e) = true
