-- Which lists of entries a lane may have.
use Rattle.std.specs.Prelude.{◌≡◌, ◌+◌, ◌-◌, ◌*◌, ◌≤◌, ◌<◌, ◌==◌, ◌&&◌, ℕ, true, false, List, length, map, sum_by, count_by, nat_eq, Option, [], if◌then◌else◌}
use Rattle.std.specs.List.{list_any, IsDistinct}
use Rattle.smx_history.specs.declared.entry.Kind.{Kind}
use Rattle.smx_history.specs.declared.entry.Kind.TheVariants.{Admit, Accept, Take, Answer, Late, Collect, Retire, Fail, Down, Up}
use Rattle.smx_history.specs.declared.entry.Entry.{Entry}
use Rattle.smx_history.specs.declared.limits.Limits.{Limits}
use Rattle.smx_pdu.specs.Command.{is_forwarded, is_response_to}
use Rattle.smx_history.specs.Shifts.{entries_among, stored_among}
use Rattle.smx_history.specs.Failures.{failure_command}
use Rattle.smx_history.specs.Prefixes.{AtEachPrefix, AtEach, StartsWith, RiseAbove}
use Rattle.smx_history.specs.Entries.{is_take, is_settling, is_retire, name_of, has_name, admits, accepts, takes, accepts_of, answers_of, collects_of, is_retired, is_admitted, is_accepted, is_settled, unanswered_takes, command_of, present, is_up, numbers}
use Rattle.smx_history.specs.Numbers.{AreSpaced}

-- the entry speaks of no client
abbrev pub IsBare : Entry → Type 0
IsBare e = (e.client ≡ 0) × (e.ordinal ≡ 0) × (e.number ≡ 0) × (e.command ≡ 0)

-- the entry is that of some note: what a kind lacks is 0, and a request that was accepted is one that is passed on
abbrev pub HasForm : Kind → Entry → Type 0
HasForm Admit e = (e.ordinal ≡ 0) × (e.number ≡ 0) × (e.command ≡ 0)
HasForm Accept e = is_forwarded e.command ≡ true
HasForm Take e = e.command ≡ 0
HasForm Collect e = (e.number ≡ 0) × (e.command ≡ 0)
HasForm Retire e = (e.ordinal ≡ 0) × (e.number ≡ 0) × (e.command ≡ 0)
HasForm Down e = IsBare e
HasForm Up e = IsBare e
HasForm _ e = Unit {0}

-- requests are taken in the order in which they were accepted, and a client's responses collected in the order in which they came
pub record IsFifo (es : List Entry) : Type 0 where
  pub taken : StartsWith (map name_of (accepts es)) (map name_of (takes es))
  pub collected : (c : ℕ) → StartsWith (map (λ e. e.ordinal) (answers_of c es)) (map (λ e. e.ordinal) (collects_of c es))

-- a client's ordinals rise from above 0, and a request is taken once, and once answered, in time or late, or failed
pub record IsOnce (es : List Entry) : Type 0 where
  pub ordinals : (c : ℕ) → RiseAbove 0 (map (λ e. e.ordinal) (accepts_of c es))
  pub takes : (c n : ℕ) → count_by (λ e. is_take e.kind && has_name c n e) es ≤ 1
  pub settlings : (c n : ℕ) → count_by (λ e. is_settling e.kind && has_name c n e) es ≤ 1

-- the clients' numbers rise from above 0, and none retires twice
pub record IsMembership (es : List Entry) : Type 0 where
  pub clients : RiseAbove 0 (map (λ e. e.client) (admits es))
  pub retires : (c : ℕ) → count_by (λ e. is_retire e.kind && (e.client == c)) es ≤ 1

-- between the admit and the retire, and by the one who admitted
abbrev pub IsServed : List Entry → Entry → Type 0
IsServed before e = (is_admitted e.by e.client before ≡ true) × (is_retired e.client before ≡ false)

-- a client's accepts, collects and retire stand while it is served, an answer before its retire and a late one after it;
-- accepts and takes stand while the lane is up, downs and ups alternate, and at an up no take is without an answer
abbrev pub StandsWell : Kind → List Entry → Entry → Type 0
StandsWell Accept before e = IsServed before e × (is_up before ≡ true)
StandsWell Take before e = is_up before ≡ true
StandsWell Answer before e = is_retired e.client before ≡ false
StandsWell Late before e = is_retired e.client before ≡ true
StandsWell Collect before e = IsServed before e
StandsWell Retire before e = IsServed before e
StandsWell Down before e = is_up before ≡ true
StandsWell Up before e = (is_up before ≡ false) × (unanswered_takes before ≡ [])
StandsWell _ before e = Unit {0}

-- an answer or a failure follows the take with its name and number, is the first to do so, and has a command that answers the request's
-- (a response keeps its request's sequence number, SMPP 3.4, section 5.1.4; its id has the top bit, 5.1.2.1, or is generic_nack, 4.3)
pub record Answers (before : List Entry) (e : Entry) : Type 0 where
  pub taken : list_any (λ t. is_take t.kind && (has_name e.client e.ordinal t && (t.number == e.number))) before ≡ true
  pub first : is_settled e.client e.ordinal before ≡ false
  pub accepted : is_accepted e.client e.ordinal before ≡ true
  pub command : is_response_to (command_of e.client e.ordinal before) e.command ≡ true

-- an answer, in time or late, is paired with a take, so is a failure, whose command is the one that tells the client, and a take bears a number that a request may bear (5.1.4), the last three left out
abbrev pub IsPaired : Kind → List Entry → Entry → Type 0
IsPaired Take before e = (0 < e.number) × (e.number ≤ 2147483644)
IsPaired Answer before e = Answers before e
IsPaired Late before e = Answers before e
IsPaired Fail before e = Answers before e × (e.command ≡ failure_command (command_of e.client e.ordinal before))
IsPaired _ before e = Unit {0}

-- the numbers of takes without an answer are pairwise different
abbrev pub AreApart : List Entry → Type 0
AreApart es = IsDistinct nat_eq (map (λ e. e.number) (unanswered_takes es))

-- requests accepted and not taken
abbrev pub queued_count : List Entry → ℕ
queued_count es = length (accepts es) - length (takes es)

-- responses not collected, of the clients that are present
abbrev pub waiting : List Entry → ℕ
waiting es = sum_by (λ a. length (answers_of a.client es) - length (collects_of a.client es)) (present es)

-- room for all that may still follow: a queued request has its take, its answer and its response to come,
-- a taken one its answer and its response, a response that waits its collect, a present client its retire, and a lane that is up its down
abbrev pub owed_count : List Entry → ℕ
owed_count es = 3 * queued_count es + 2 * length (unanswered_takes es) + waiting es + length (present es) + (if is_up es then 1 else 0)

-- what is stored since the last shift, and what is owed by all that was noted
abbrev pub size : List (Option Entry) → ℕ
size marks = length (stored_among marks) + owed_count (entries_among marks)

-- what is queued, in the window and of one present client at one time keeps to the limits
pub record IsBounded (limits : Limits) (es : List Entry) : Type 0 where
  pub queue : length (accepts es) ≤ length (takes es) + limits.queue
  pub window : length (unanswered_takes es) ≤ limits.window
  pub client : (c : ℕ) → is_retired c es ≡ false → length (accepts_of c es) ≤ length (collects_of c es) + limits.client

-- and so does the size
abbrev pub IsWithin : Limits → List (Option Entry) → Type 0
IsWithin limits marks = size marks ≤ limits.history

-- what all entries keep to, over all shifts: each is the entry of some note, and the list keeps the rules of Fifo, Once, Membership (by two fields), Pairing (by three) and Bounds
pub record KeepsRules (limits : Limits) (es : List Entry) : Type 0 where
  pub form : AtEach (λ before e. HasForm e.kind e) es
  pub fifo : AtEachPrefix IsFifo es
  pub once : IsOnce es
  pub membership : IsMembership es
  pub standing : AtEach (λ before e. StandsWell e.kind before e) es
  pub pairing : AtEach (λ before e. IsPaired e.kind before e) es
  pub apart : AtEachPrefix AreApart es
  pub spaced : AreSpaced (numbers es)
  pub bounds : AtEachPrefix (IsBounded limits) es

-- a legal history: all entries keep the rules, and at each moment the size since the last shift is within the limit
pub record IsLegal (limits : Limits) (marks : List (Option Entry)) : Type 0 where
  pub rules : KeepsRules limits (entries_among marks)
  pub size : AtEachPrefix (IsWithin limits) marks
