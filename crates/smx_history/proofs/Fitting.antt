-- What an entry keeps to that may follow a list.
use Rattle.std.specs.Prelude.{List, [], ◌∷◌, ◌++◌}
use Rattle.smx_history.specs.declared.entry.Entry.{Entry}
use Rattle.smx_history.specs.declared.limits.Limits.{Limits}
use Rattle.smx_history.specs.Entries.{numbers}
use Rattle.smx_history.specs.Numbers.{AreSpaced}
use Rattle.smx_history.specs.Legal.{HasForm, IsFifo, IsOnce, IsMembership, StandsWell, IsPaired, AreApart, IsBounded}

-- the entry may follow the list, but for the size
pub record Fits (limits : Limits) (es : List Entry) (e : Entry) : Type 0 where
  pub form : HasForm e.kind e
  pub fifo : IsFifo (es ++ e ∷ [])
  pub once : IsOnce (es ++ e ∷ [])
  pub membership : IsMembership (es ++ e ∷ [])
  pub standing : StandsWell e.kind es e
  pub pairing : IsPaired e.kind es e
  pub apart : AreApart (es ++ e ∷ [])
  pub spaced : AreSpaced (numbers (es ++ e ∷ []))
  pub bounds : IsBounded limits (es ++ e ∷ [])
