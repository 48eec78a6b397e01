-- What the fields of a window show, and what they keep.
use Rattle.std.specs.Prelude.{◌≤◌, length, vec_capacity, All}
use Rattle.smx_routes.specs.declared.mo_window.MoWindow.TheInside.{Inside}
use Rattle.smx_routes.specs.Window.{Window, IsSize, HaveDistinctNumbers, greatest}

abbrev pub window_of : Inside → Window
window_of a = record { places = a.places; last = a.last; waiting = a.waiting.items }

pub record HasPlaces (a : Inside) : Type 0 where
  pub size : IsSize a.places
  pub room : a.places ≤ vec_capacity a.waiting
  pub within : length a.waiting.items ≤ a.places
  pub apart : HaveDistinctNumbers a.waiting.items
  pub last : a.last ≤ greatest
  pub numbers : All (λ w. w.given ≤ greatest) a.waiting.items
