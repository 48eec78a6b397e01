-- How the prefixes of a client that binds are entered into the directory.
use Rattle.std.specs.Prelude.{◌≡◌, ◌≢◌, ◌++◌, ◌⊎◌, ℕ, Bool, true, false, List, [], ◌∷◌, Option, Some, None, Result, Err, slice_get}
use Rattle.std.specs.declared.vec.Vec.{Vec}
use Rattle.std.specs.declared.alloc.Global.{Global}
use Rattle.smx_routes.specs.declared.fault.RouteFault.{RouteFault}
use Rattle.smx_routes.specs.declared.fault.RouteFault.TheVariants.{NoMemory}
use Rattle.smx_turns.specs.declared.directory.Query.{Query}
use Rattle.smx_turns.specs.declared.directory.Query.TheVariants.{Added}

-- in order: all of them, or up to the first for which there is no memory
abbrev pub Adds : ℕ → List (Vec ℕ Global) → List Query → List Query → Bool → Type 0
Adds client [] old new whole = (new ≡ old) × (whole ≡ true)
Adds client (p ∷ ps) old new whole =
    ((new ≡ old ++ Added p.items client (Err NoMemory) ∷ []) × (whole ≡ false))
    ⊎ ((answer : Result (Unit {0}) RouteFault) × (answer ≢ Err NoMemory) × Adds client ps (old ++ Added p.items client answer ∷ []) new whole)

abbrev pub items_in : Option (Vec (Vec ℕ Global) Global) → List (Vec ℕ Global)
items_in None = []
items_in (Some ps) = ps.items

-- those of an account
abbrev pub account_prefixes : List (Vec (Vec ℕ Global) Global) → ℕ → List (Vec ℕ Global)
account_prefixes all account = items_in (slice_get all account)
