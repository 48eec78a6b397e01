-- What the fields of a client's inbox show, and what they keep.
use Rattle.std.specs.Prelude.{◌≡◌, ◌≤◌, ℕ, Option, Some, None}
use Rattle.smx_routes.specs.Window.{greatest}
use Rattle.smx_mailbox.specs.Mailbox.{Mailbox, mailbox_after}
use Rattle.smx_lines.specs.declared.inbox.Inbox.TheInside.{Inside}

-- a mailbox that isn't made is an empty one
abbrev pub made_or_empty : ℕ → ℕ → Option Mailbox → Mailbox
made_or_empty places last None = mailbox_after places last
made_or_empty places last (Some mailbox) = mailbox

abbrev pub mailbox_in : Inside → Mailbox
mailbox_in a = made_or_empty a.places a.last a.mailbox

-- the places never change, and the last number is a sequence number or 0
pub record KeepsSize (a : Inside) : Type 0 where
  pub places : (mailbox_in a).window.places ≡ a.places
  pub last : a.last ≤ greatest
