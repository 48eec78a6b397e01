-- That all that a lane held was given up.
use Rattle.std.specs.Prelude.{◌≡◌, List, [], ◌∷◌, ◌++◌}
use Rattle.smx_upstream.specs.declared.event.Event.{Event}
use Rattle.smx_upstream.specs.declared.event.Event.TheVariants.{GaveUp}
use Rattle.smx_upstream.specs.declared.event.GivenUp.{GivenUp}

-- the one event more is that all was given up, and this holds of what came of it
abbrev pub GivesUpSo : List Event → List Event → (GivenUp → Type 0) → Type 0
GivesUpSo es es' Holds = (given : GivenUp) × (es' ≡ es ++ GaveUp given ∷ []) × Holds given
