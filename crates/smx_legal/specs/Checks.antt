-- What the check of a finished history tests of each entry, and the totals that it keeps. Its contract says `IsLegal` alone.
use Rattle.std.specs.Prelude.{◌≡◌, ◌≤◌, ◌+◌, ◌-◌, ◌*◌, ◌^◌, ◌==◌, ◌&&◌, nat_le, nat_lt, ℕ, Bool, false, not, List, ◌∷◌, ◌++◌, length, map, filter, count_by, slice_get, Option, Some, None}
use Rattle.std.specs.List.{list_any, flat_map}
use Rattle.std.specs.Global.{Vec}
use Rattle.smx_history.specs.declared.entry.Entry.{Entry}
use Rattle.smx_history.specs.declared.limits.Limits.{Limits}
use Rattle.smx_legal.specs.declared.totals.Totals.{Totals}
use Rattle.smx_legal.specs.declared.part.Part.{Part}
use Rattle.smx_legal.specs.declared.part.Part.TheVariants as part
use Rattle.smx_legal.specs.declared.past.Past.{Past}
use Rattle.smx_pdu.specs.Command.{is_forwarded, is_response_to}
use Rattle.smx_history.specs.Prefixes.{last_or}
use Rattle.smx_history.specs.Entries.{is_admit, is_accept, is_take, is_answer, is_collect, is_retire, is_settling, has_name, admits, accepts, takes, accepts_of, answers_of, collects_of, is_retired, is_admitted, is_settled, unanswered_takes, present, is_up, numbers, is_taken}
use Rattle.smx_history.specs.Numbers.{recent}
use Rattle.smx_history.specs.Failures.{failure_command}
use Rattle.smx_history.specs.Shifts.{marks_in}
use Rattle.smx_history.specs.Legal.{IsLegal, queued_count, waiting}

-- the lists that the shifts handed out
abbrev pub lists_of : List (Vec Entry) → List (List Entry)
lists_of lists = map (λ es. es.items) lists

-- their entries, joined
abbrev pub entries_in : List (Vec Entry) → List Entry
entries_in lists = flat_map (λ es. es.items) lists

-- all entries that stand before one
abbrev pub entries_before : Past → List Entry
entries_before past = entries_in past.earlier.now ++ past.since.now

-- the entry is one of that part
abbrev pub is_in : Part → Entry → Bool
is_in (part.AdmitBy by c) e = is_admit e.kind && ((e.client == c) && (e.by == by))
is_in (part.Retire c) e = is_retire e.kind && (e.client == c)
is_in (part.Accept c n) e = is_accept e.kind && has_name c n e
is_in (part.AcceptFrom c n) e = is_accept e.kind && (e.client == c) && nat_le n e.ordinal
is_in (part.Take c n) e = is_take e.kind && has_name c n e
is_in (part.TakeAs c n u) e = is_take e.kind && (has_name c n e && (e.number == u))
is_in (part.Settling c n) e = is_settling e.kind && has_name c n e
is_in part.Accepts e = is_accept e.kind
is_in (part.AcceptsOf c) e = is_accept e.kind && (e.client == c)
is_in (part.AnswersOf c) e = is_answer e.kind && (e.client == c)
is_in (part.CollectsOf c) e = is_collect e.kind && (e.client == c)
is_in part.Takes e = is_take e.kind
is_in (part.TakesAs u) e = is_take e.kind && (e.number == u)
is_in (part.SettlingsAs u) e = is_settling e.kind && (e.number == u)

-- how many takes, and how many answers in time or late, bear the number
abbrev pub takes_as : ℕ → List Entry → ℕ
takes_as u es = length (filter (λ e. is_take e.kind && (e.number == u)) es)

abbrev pub settlings_as : ℕ → List Entry → ℕ
settlings_as u es = length (filter (λ e. is_settling e.kind && (e.number == u)) es)

-- one of the last 999,999 takes bears the number
abbrev pub is_recent : ℕ → List Entry → Bool
is_recent u es = list_any (λ n. n == u) (recent (numbers es))

-- the totals are those of the list
pub record Counted (es : List Entry) (t : Totals) : Type 0 where
  -- the numbers that are taken and not settled are those of the unanswered takes
  pub numbers : (u : ℕ) → count_by (λ e. e.number == u) (unanswered_takes es) + settlings_as u es ≡ takes_as u es
  pub greatest : t.greatest ≡ last_or 0 (map (λ e. e.client) (admits es))
  pub taken : t.taken ≡ length (takes es)
  pub queued : t.queued ≡ queued_count es
  pub unanswered : t.unanswered ≡ length (unanswered_takes es)
  pub waiting : t.waiting ≡ waiting es
  pub present : t.present ≡ length (present es)
  pub up : t.up ≡ is_up es

abbrev pub is_served : List Entry → Entry → Bool
is_served es e = is_admitted e.by e.client es && not (is_retired e.client es)

-- an accept of the client has this ordinal or a greater one
abbrev pub has_reached : ℕ → ℕ → List Entry → Bool
has_reached c n es = list_any (λ e. is_accept e.kind && (e.client == c) && nat_le n e.ordinal) es

abbrev pub is_taken_as : ℕ → ℕ → ℕ → List Entry → Bool
is_taken_as c n u es = list_any (λ e. is_take e.kind && (has_name c n e && (e.number == u))) es

-- the accept of the request of that name
abbrev pub accept_of : ℕ → ℕ → List Entry → Option Entry
accept_of c n es = slice_get (filter (λ e. is_accept e.kind && has_name c n e) es) 0

-- there is one, and it passes
abbrev pub passes : (Entry → Bool) → Option Entry → Bool
passes test None = false
passes test (Some e) = test e

-- the request of that name is the next to be taken
abbrev pub is_next : Totals → List Entry → Entry → Bool
is_next t es e = passes (has_name e.client e.ordinal) (slice_get (accepts es) t.taken)

-- the entry's command is that of a response to the request of that name
abbrev pub is_response : List Entry → Entry → Bool
is_response es e = passes (λ x. is_response_to x.command e.command) (accept_of e.client e.ordinal es)

-- the client's next response is that to the request of that ordinal
abbrev pub is_oldest : List Entry → Entry → Bool
is_oldest es e = passes (λ x. x.ordinal == e.ordinal) (slice_get (answers_of e.client es) (length (collects_of e.client es)))

abbrev pub is_bare : Entry → Bool
is_bare e = (e.number == 0) && (e.command == 0)

abbrev pub admit_fits : Totals → Entry → Bool
admit_fits t e = (e.ordinal == 0) && is_bare e && nat_lt t.greatest e.client

abbrev pub accept_fits : ℕ → ℕ → Totals → List Entry → Entry → Bool
accept_fits queue client t es e =
    is_forwarded e.command && is_served es e && t.up && nat_lt 0 e.ordinal && not (has_reached e.client e.ordinal es)
    && nat_lt t.queued queue && nat_lt (length (accepts_of e.client es)) (length (collects_of e.client es) + client)

abbrev pub take_fits : Limits → Totals → List Entry → Entry → Bool
take_fits l t es e =
    t.up && (e.command == 0) && nat_lt 0 e.number && nat_le e.number 2147483644
    && is_next t es e && not (is_taken e.client e.ordinal es)
    && (settlings_as e.number es == takes_as e.number es) && not (is_recent e.number es)
    && nat_lt t.unanswered l.window

abbrev pub settle_fits : List Entry → Entry → Bool
settle_fits es e =
    is_taken_as e.client e.ordinal e.number es && not (is_settled e.client e.ordinal es)
    && is_response es e

abbrev pub answer_fits : List Entry → Entry → Bool
answer_fits es e = settle_fits es e && not (is_retired e.client es)

abbrev pub late_fits : List Entry → Entry → Bool
late_fits es e = settle_fits es e && is_retired e.client es

-- the entry's command is that of the failure of the request of that name
abbrev pub is_failure : List Entry → Entry → Bool
is_failure es e = passes (λ x. e.command == failure_command x.command) (accept_of e.client e.ordinal es)

abbrev pub fail_fits : List Entry → Entry → Bool
fail_fits es e = settle_fits es e && is_failure es e

abbrev pub link_fits : Entry → Bool
link_fits e = (e.client == 0) && (e.ordinal == 0) && is_bare e

abbrev pub up_fits : Totals → Entry → Bool
up_fits t e = link_fits e && not t.up && (t.unanswered == 0)

abbrev pub down_fits : Totals → Entry → Bool
down_fits t e = link_fits e && t.up

abbrev pub collect_fits : List Entry → Entry → Bool
collect_fits es e =
    is_bare e && is_served es e && is_oldest es e

abbrev pub retire_fits : List Entry → Entry → Bool
retire_fits es e = (e.ordinal == 0) && is_bare e && is_served es e

-- the list of one shift more may follow the earlier ones, and these are the totals with it
pub record Follows (limits : Limits) (earlier : List (Vec Entry)) (es : List Entry) (t : Totals) : Type 0 where
  pub legal : IsLegal limits (marks_in (lists_of earlier) ++ None ∷ map Some es)
  pub counted : Counted (entries_in earlier ++ es) t
  pub taken : t.taken ≤ (length earlier + 1) * (2 ^ 64 - 1)
