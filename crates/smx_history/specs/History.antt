-- A lane's history: notes with bodies and statuses.
use Rattle.std.specs.Prelude.{◌==◌, ◌&&◌, ℕ, List, map, filter_map, Option, Some, None, if◌then◌else◌}
use Rattle.smx_history.specs.declared.entry.Kind.TheVariants as kind
use Rattle.smx_history.specs.declared.note.Event.{Event}
use Rattle.smx_history.specs.declared.note.Event.TheVariants.{Admit, Accept, Take, Answer, Late, Collect, Retire, Fail, Down, Up}
use Rattle.smx_history.specs.declared.entry.Entry.{Entry}
use Rattle.smx_history.specs.declared.request.Request.{Request}
use Rattle.smx_history.specs.declared.note.Note.{Note}
use Rattle.smx_history.specs.declared.response.Response.{Response}
use Rattle.std.specs.Option.{option_map}
use Rattle.smx_history.specs.Prefixes.{first_or, last_or}
use Rattle.smx_history.specs.Shifts.{entries_among, stored_among}
use Rattle.smx_history.specs.Failures.{failure}

-- the entry of an event
abbrev pub entry_by : ℕ → Event → Entry
entry_by by (Admit c) = record { kind = kind.Admit; by = by; client = c; ordinal = 0; number = 0; command = 0 }
entry_by by (Accept r) = record { kind = kind.Accept; by = by; client = r.client; ordinal = r.ordinal; number = r.own; command = r.command }
entry_by by (Take c n u t) = record { kind = kind.Take; by = by; client = c; ordinal = n; number = u; command = 0 }
entry_by by (Answer c n p) = record { kind = kind.Answer; by = by; client = c; ordinal = n; number = p.number; command = p.command }
entry_by by (Late c n u k) = record { kind = kind.Late; by = by; client = c; ordinal = n; number = u; command = k }
entry_by by (Collect c n) = record { kind = kind.Collect; by = by; client = c; ordinal = n; number = 0; command = 0 }
entry_by by (Retire c) = record { kind = kind.Retire; by = by; client = c; ordinal = 0; number = 0; command = 0 }
entry_by by (Fail c n u k) = record { kind = kind.Fail; by = by; client = c; ordinal = n; number = u; command = k }
entry_by by Down = record { kind = kind.Down; by = by; client = 0; ordinal = 0; number = 0; command = 0 }
entry_by by Up = record { kind = kind.Up; by = by; client = 0; ordinal = 0; number = 0; command = 0 }

-- a note without bodies and statuses; a shift has no entry
abbrev pub entry_in : Note → Option Entry
entry_in note = option_map (entry_by note.by) note.event

-- the entries, and where a shift stands between them
abbrev pub marks_of : List Note → List (Option Entry)
marks_of h = map entry_in h

-- the entries of a history, over all shifts
abbrev pub entries_of : List Note → List Entry
entries_of h = entries_among (marks_of h)

-- what a lane stores of a history: the entries after the last shift
abbrev pub stored_of : List Note → List Entry
stored_of h = stored_among (marks_of h)

-- the request that an event accepts
abbrev pub request_in : Option Event → Option Request
request_in (Some (Accept r)) = Some r
request_in _ = None

-- the requests that were accepted, in order, bodies included
abbrev pub requests : List Note → List Request
requests h = filter_map (λ note. request_in note.event) h

-- the response to a request of the client that an event brings in time, or what tells it that the request failed
abbrev pub response_in : ℕ → Option Event → Option Response
response_in c (Some (Answer d n p)) = if d == c then Some (record { ordinal = n; pdu = p }) else None
response_in c (Some (Fail d n u k)) = if d == c then Some (record { ordinal = n; pdu = failure k u }) else None
response_in c _ = None

-- the responses that came for a client in time, as they came
abbrev pub responses : ℕ → List Note → List Response
responses c h = filter_map (λ note. response_in c note.event) h

-- the moment of a take, in milliseconds
abbrev pub moment_in : Option Event → Option ℕ
moment_in (Some (Take c n u t)) = Some t
moment_in _ = None

-- that of the last take, or 0
abbrev pub latest_after : List Note → ℕ
latest_after h = last_or 0 (filter_map (λ note. moment_in note.event) h)

-- that of the take of the request of that name
abbrev pub moment_named : ℕ → ℕ → Option Event → Option ℕ
moment_named c n (Some (Take d m u t)) = if (d == c) && (m == n) then Some t else None
moment_named c n _ = None

abbrev pub moment_of : ℕ → ℕ → List Note → ℕ
moment_of c n h = first_or 0 (filter_map (λ note. moment_named c n note.event) h)

-- an event of that caller
abbrev pub note : ℕ → Event → Note
note by event = record { by = by; event = Some event }

-- a shift that that caller made
abbrev pub shift : ℕ → Note
shift by = record { by = by; event = None }
