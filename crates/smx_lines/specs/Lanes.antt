-- A lane of a state, and the history that it stands for.
use Rattle.std.specs.Prelude.{◌≡◌, ◌≤◌, ℕ, List, true, map, Option, Some, None, get_or, unwrap_or}
use Rattle.std.specs.List.{AllByRecursion}
use Rattle.smx_history.specs.declared.limits.Limits.{Limits}
use Rattle.smx_history.specs.declared.entry.Entry.{Entry}
use Rattle.smx_history.specs.declared.note.Note.{Note}
use Rattle.smx_history.specs.Entries.{is_accept}
use Rattle.smx_history.specs.History.{entries_of}
use Rattle.smx_history.specs.Contents.{Content, AgreesWith}
use Rattle.smx_lines.specs.declared.state.LinkedLane.{LinkedLane}
use Rattle.smx_lines.specs.declared.state.LinkedClient.{LinkedClient}
use Rattle.smx_lines.specs.Relay.{RelayLane}

abbrev pub last_in : Option LinkedClient → Option ℕ
last_in None = None
last_in (Some k) = Some k.last

-- the last ordinals of the clients
abbrev pub lasts : List (Option LinkedClient) → List (Option ℕ)
lasts clients = map last_in clients

abbrev pub last_of : List (Option ℕ) → ℕ → Option ℕ
last_of clients c = get_or clients c None

-- the one caller has the number 0, and no accept is above the client's last ordinal
pub record IsOwnEntry (clients : List (Option ℕ)) (e : Entry) : Type 0 where
  pub by : e.by ≡ 0
  pub known : is_accept e.kind ≡ true → e.ordinal ≤ unwrap_or (last_of clients e.client) 0

abbrev pub AreOwnEntries : List (Option ℕ) → List Note → Type 0
AreOwnEntries clients h = AllByRecursion (IsOwnEntry clients) (entries_of h)

-- the lane is what the history leaves, under these limits
pub record IsContentAfter (limits : Limits) (clients : List (Option ℕ)) (h : List Note) (lane : Content) : Type 0 where
  pub agrees : AgreesWith h lane
  pub limits_are : lane.limits ≡ limits
  pub own : AreOwnEntries clients h

-- so it is, and it has this link
pub record IsLane (limits : Limits) (clients : List (Option ℕ)) (l : RelayLane) (lane : LinkedLane) : Type 0 where
  pub on : IsContentAfter limits clients l.history lane.lane
  pub link_is : lane.link ≡ l.link
