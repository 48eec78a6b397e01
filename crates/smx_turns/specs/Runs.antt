-- Events, one after another.
use Rattle.std.specs.Prelude.{◌≡◌, List, [], ◌∷◌, ◌++◌}

-- each event does so to what a worker stands on, and they lead from the first to the last
unfoldable pub Runs : {S E : Type 0} → (S → E → S → Type 0) → S → List E → S → Type 0
Runs does first [] last = last ≡ first
Runs {S = S} does first (e ∷ es) last = (next : S) × does first e next × Runs does next es last

-- of the events written down more are there, and they lead from the first to the last
pub record RunsOn {S E : Type 0} (does : S → E → S → Type 0) (first : S) (es : List E) (last : S) (es' : List E) : Type 0 where
  pub more : List E
  pub grown : es' ≡ es ++ more
  pub runs : Runs does first more last
