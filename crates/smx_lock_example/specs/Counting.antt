-- What a counter's history says, and how one hold serves a call.
use Rattle.std.specs.Prelude.{◌≡◌, ℕ, ◌+◌, ◌≤◌, ◌<◌, Bool, MatchBool, true, false, List, [], ◌∷◌}
use Rattle.smx_lock.specs.Fronts.{Front, Serves}
use Rattle.smx_lock_example.specs.declared.counter.Added.{Added}
use Rattle.smx_lock_example.specs.declared.counter.Counter.{Counter}
use Rattle.smx_lock_example.specs.declared.counter.Deed.{Deed}
use Rattle.smx_lock_example.specs.declared.counter.Deed.TheVariants.{Addition, Nothing}

-- the seat that made a note
abbrev pub by : Added → ℕ
by n = n.by

-- what all additions make together
abbrev pub total : List Added → ℕ
total [] = 0
total (n ∷ ns) = n.amount + total ns

abbrev pub limit : Counter → ℕ
limit c = c.limit

abbrev pub agrees : Counter → List Added → Type 0
agrees c h = c.count ≡ total h

abbrev pub addition_note : ℕ → ℕ → Added
addition_note k amount = record { by = k; amount = amount }

-- the notes of a deed of the seat k
abbrev pub notes_told : Deed → ℕ → List Added
notes_told (Addition amount) k = addition_note k amount ∷ []
notes_told Nothing k = []

abbrev pub deed_of : Bool → ℕ → Deed
deed_of true amount = Addition amount
deed_of false amount = Nothing

-- what an addition makes of a counter: the sum, where that keeps the limit
abbrev pub DidAdd : Counter → Counter → ℕ → Bool → Type 0
DidAdd old new n done = (new.limit ≡ old.limit) × MatchBool done ((new.count ≡ old.count + n) × (old.count + n ≤ old.limit)) ((new.count ≡ old.count) × (old.limit < old.count + n))

-- one hold served an addition: it was noted exactly where it kept the limit
abbrev pub AddServes : Front Added ℕ → Front Added ℕ → ℕ → Bool → Type 0
AddServes f g amount true = (found : List Added) × Serves by f g found (addition_note f.number amount ∷ []) × (total found + amount ≤ f.lock.fixed)
AddServes f g amount false = (found : List Added) × Serves by f g found [] × (f.lock.fixed < total found + amount)

-- one hold served a look at the count
abbrev pub ReadServes : Front Added ℕ → Front Added ℕ → ℕ → Type 0
ReadServes f g count = (found : List Added) × Serves by f g found [] × (count ≡ total found)
