-- What a caller has to keep to.
use Rattle.std.specs.Prelude.{◌≡◌, ◌<◌, ℕ}
use Rattle.std.specs.List.{AllByRecursion}
use Rattle.smx_history.specs.Contents.{Content}

-- where the client has a row, that caller admitted it
abbrev pub IsOwn : Content → ℕ → ℕ → Type 0
IsOwn v by client = AllByRecursion (λ m. m.client ≡ client → m.by ≡ by) v.members

-- where the client has a row, that caller admitted it, and the ordinal is above its last
abbrev pub IsNext : Content → ℕ → ℕ → ℕ → Type 0
IsNext v by client ordinal = AllByRecursion (λ m. m.client ≡ client → (m.last < ordinal) × (m.by ≡ by)) v.members
