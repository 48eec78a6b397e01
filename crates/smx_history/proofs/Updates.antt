-- What each call leaves, said of what the lane holds: what the code does, shown to agree with the history in the files named for each call.
use Rattle.std.specs.Prelude.{true, false, ◌+◌, ◌-◌, ◌==◌, ◌%◌, ℕ, set, replicate, not, List, [], ◌∷◌, ◌++◌, map, drop, filter, if◌then◌else◌}
use Rattle.std.specs.List.{remove}
use Rattle.smx_history.specs.declared.limits.Limits.{Limits}
use Rattle.smx_history.specs.declared.request.Request.{Request}
use Rattle.smx_history.specs.declared.note.Event.TheVariants.{Admit, Accept, Take, Answer, Late, Collect, Retire, Fail, Down, Up}
use Rattle.smx_history.specs.declared.entry.Entry.{Entry}
use Rattle.smx_history.specs.Failures.{failure_command, failure}
use Rattle.smx_pdu.specs.declared.pdu.Pdu.{Pdu}
use Rattle.smx_history.specs.declared.response.Response.{Response}
use Rattle.smx_history.specs.declared.place.Place.{Place}
use Rattle.smx_history.specs.History.{entry_by}
use Rattle.smx_history.specs.Numbers.{place_in, generation_in}
use Rattle.smx_history.specs.Contents.{Content, Member}

-- what a new lane holds
abbrev pub empty : Limits → Content
empty limits = record { limits = limits; queue = []; window = []; members = []; greatest = 0; up = true; generations = replicate limits.window 0; latest = 0; entries = [] }

-- the row of a client that was just admitted
abbrev pub new_row : ℕ → ℕ → Member
new_row by c = record { client = c; by = by; last = 0; pending = 0; waiting = [] }

-- what an admit leaves
abbrev pub admitted : Content → ℕ → ℕ → Content
admitted v by c = record v {
  members = v.members ++ new_row by c ∷ [];
  greatest = c;
  entries = v.entries ++ entry_by by (Admit c) ∷ [];
}

-- the rows of the other clients
abbrev pub without : ℕ → List Member → List Member
without c ms = filter (λ m. not (m.client == c)) ms

-- what a retire leaves
abbrev pub retired : Content → ℕ → ℕ → Content
retired v by c = record v {
  members = without c v.members;
  entries = v.entries ++ entry_by by (Retire c) ∷ [];
}

-- the rows, with that of the client changed so
abbrev pub with_row : ℕ → (Member → Member) → List Member → List Member
with_row c f ms = map (λ m. if m.client == c then f m else m) ms

-- what an accept leaves
abbrev pub accepted : Content → ℕ → Request → Content
accepted v by r = record v {
  queue = v.queue ++ r ∷ [];
  members = with_row r.client (λ m. record m { last = r.ordinal; pending = m.pending + 1 }) v.members;
  entries = v.entries ++ entry_by by (Accept r) ∷ [];
}

-- the place of a request that goes upstream as u at that moment
abbrev pub place_for : Request → ℕ → ℕ → Place
place_for r u t = record { upstream = u; client = r.client; ordinal = r.ordinal; own = r.own; command = r.command; moment = t }

-- the generation that follows on one, going round
abbrev pub following : ℕ → ℕ
following g = (g + 1) % 2097151

-- what a take of the request leaves
abbrev pub taken : Content → ℕ → Request → ℕ → ℕ → Content
taken v by r u t = record v {
  queue = drop 1 v.queue;
  window = v.window ++ place_for r u t ∷ [];
  generations = set v.generations (place_in u) (following (generation_in u));
  latest = t;
  entries = v.entries ++ entry_by by (Take r.client r.ordinal u t) ∷ [];
}

-- a response as the client of the place sees it
abbrev pub response_for : Place → Pdu → Response
response_for q p = record { ordinal = q.ordinal; pdu = record { command = p.command; status = p.status; number = q.own; body = p.body } }

-- what an entry that settles the place at that index leaves, where its client is present: it brings that response
abbrev pub settled : Content → Entry → Pdu → Place → ℕ → Content
settled v e p q i = record v {
  window = remove v.window i;
  members = with_row q.client (λ m. record m { waiting = m.waiting ++ response_for q p ∷ [] }) v.members;
  entries = v.entries ++ e ∷ [];
}

-- and where its client has retired
abbrev pub settled_late : Content → Entry → ℕ → Content
settled_late v e i = record v {
  window = remove v.window i;
  entries = v.entries ++ e ∷ [];
}

-- what an answer to the place at that index leaves, in time and late
abbrev pub answered : Content → ℕ → Pdu → Place → ℕ → Content
answered v by p q i = settled v (entry_by by (Answer q.client q.ordinal p)) p q i

abbrev pub late : Content → ℕ → Pdu → Place → ℕ → Content
late v by p q i = settled_late v (entry_by by (Late q.client q.ordinal p.number p.command)) i

-- what the failure of the place at that index leaves, where its client is present and where it has retired
abbrev pub failing_entry : ℕ → Place → Entry
failing_entry by q = entry_by by (Fail q.client q.ordinal q.upstream (failure_command q.command))

abbrev pub failed : Content → ℕ → Place → ℕ → Content
failed v by q i = settled v (failing_entry by q) (failure (failure_command q.command) q.upstream) q i

abbrev pub failed_late : Content → ℕ → Place → ℕ → Content
failed_late v by q i = settled_late v (failing_entry by q) i

-- what a lost link leaves, and what a new one does
abbrev pub lowered : Content → ℕ → Content
lowered v by = record v { up = false; entries = v.entries ++ entry_by by Down ∷ [] }

abbrev pub raised : Content → ℕ → Content
raised v by = record v { up = true; entries = v.entries ++ entry_by by Up ∷ [] }

-- what a collect of the client's oldest response leaves
abbrev pub collected : Content → ℕ → ℕ → Response → Content
collected v by c r = record v {
  members = with_row c (λ m. record m { pending = m.pending - 1; waiting = drop 1 m.waiting }) v.members;
  entries = v.entries ++ entry_by by (Collect c r.ordinal) ∷ [];
}
