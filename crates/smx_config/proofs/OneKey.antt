-- One more key of a table.
use Rattle.std.proofs.Common.{◌≡◌, ℕ, List, ◌∷◌, ◌++◌, true, false, string_bytes}
use Rattle.toml.proofs.Views.{Entry}
use Rattle.toml.specs.View.{members_view}
use Rattle.smx_config.specs.declared.section.Section.{Section}
use Rattle.smx_config.specs.Keys.{is_read}
use Rattle.smx_config.specs.Unread.{unread_in}

pub unread_in-read : (section : Section) (place : List ℕ) (e : Entry) (es : List Entry) → is_read section (string_bytes e.0) ≡ true → unread_in section place (members_view (e ∷ es)) ≡ unread_in section place (members_view es)
unread_in-read section place e es read = rw read

pub unread_in-unread : (section : Section) (place : List ℕ) (e : Entry) (es : List Entry) → is_read section (string_bytes e.0) ≡ false → unread_in section place (members_view (e ∷ es)) ≡ (place ++ string_bytes e.0) ∷ unread_in section place (members_view es)
unread_in-unread section place e es unread = rw unread
