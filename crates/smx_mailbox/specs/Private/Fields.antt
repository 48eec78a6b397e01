-- What the fields of a mailbox show, and what they keep.
use Rattle.std.specs.Prelude.{◌≡◌, ◌≤◌, length}
use Rattle.smx_routes.specs.Window.{IsSize}
use Rattle.smx_mailbox.specs.declared.mailbox.Mailbox.TheInside.{Inside}
use Rattle.smx_mailbox.specs.Mailbox.{Mailbox}

abbrev pub mailbox_of : Inside → Mailbox
mailbox_of a = record { waiting = a.waiting.items; window = a.window }

pub record HasMessagePlaces (a : Inside) : Type 0 where
  pub size : IsSize a.window.places
  pub ring : a.waiting.capacity ≡ a.window.places
  pub waiting : length a.waiting.items ≤ a.window.places
  pub unanswered : length a.window.waiting ≤ a.window.places
