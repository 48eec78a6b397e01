-- What a list of entries says: the lists of its accepts, takes, answers and collects.
use Rattle.std.specs.Prelude.{◌==◌, ◌&&◌, ℕ, Bool, true, false, not, List, map, filter}
use Rattle.std.specs.List.{list_any}
use Rattle.smx_history.specs.declared.entry.Kind.{Kind}
use Rattle.smx_history.specs.declared.entry.Kind.TheVariants.{Admit, Accept, Take, Answer, Late, Collect, Retire, Fail, Down, Up}
use Rattle.smx_history.specs.declared.entry.Entry.{Entry}
use Rattle.smx_history.specs.Prefixes.{first_or, last_or}

-- the kinds, as tests
abbrev pub is_admit : Kind → Bool
is_admit Admit = true
is_admit _ = false

abbrev pub is_accept : Kind → Bool
is_accept Accept = true
is_accept _ = false

abbrev pub is_take : Kind → Bool
is_take Take = true
is_take _ = false

-- what brings its client a response: an answer in time, or a failure that the client is told of
abbrev pub is_answer : Kind → Bool
is_answer Answer = true
is_answer Fail = true
is_answer _ = false

abbrev pub is_collect : Kind → Bool
is_collect Collect = true
is_collect _ = false

abbrev pub is_retire : Kind → Bool
is_retire Retire = true
is_retire _ = false

-- an answer to a request that was taken, in time or late, or the failure of one
abbrev pub is_settling : Kind → Bool
is_settling Answer = true
is_settling Late = true
is_settling Fail = true
is_settling _ = false

-- the link upstream was lost, or there is one again
abbrev pub is_link : Kind → Bool
is_link Down = true
is_link Up = true
is_link _ = false

abbrev pub is_rise : Kind → Bool
is_rise Up = true
is_rise _ = false

-- the name of a request: the client, and the request's ordinal among that client's
pub record Name : Type 0 where
  pub client : ℕ
  pub ordinal : ℕ

-- the name of the request that an entry speaks of
abbrev pub name_of : Entry → Name
name_of e = record { client = e.client; ordinal = e.ordinal }

-- the entry speaks of the request of that name
abbrev pub has_name : ℕ → ℕ → Entry → Bool
has_name c n e = (e.client == c) && (e.ordinal == n)

-- the entries of a kind, in order
abbrev pub admits : List Entry → List Entry
admits es = filter (λ e. is_admit e.kind) es

abbrev pub accepts : List Entry → List Entry
accepts es = filter (λ e. is_accept e.kind) es

abbrev pub takes : List Entry → List Entry
takes es = filter (λ e. is_take e.kind) es

-- the numbers of the takes upstream, in order
abbrev pub numbers : List Entry → List ℕ
numbers es = map (λ t. t.number) (takes es)

-- the same of one client
abbrev pub accepts_of : ℕ → List Entry → List Entry
accepts_of c es = filter (λ e. is_accept e.kind && (e.client == c)) es

abbrev pub answers_of : ℕ → List Entry → List Entry
answers_of c es = filter (λ e. is_answer e.kind && (e.client == c)) es

abbrev pub collects_of : ℕ → List Entry → List Entry
collects_of c es = filter (λ e. is_collect e.kind && (e.client == c)) es

-- the client has retired
abbrev pub is_retired : ℕ → List Entry → Bool
is_retired c es = list_any (λ e. is_retire e.kind && (e.client == c)) es

-- the client was admitted by that caller
abbrev pub is_admitted : ℕ → ℕ → List Entry → Bool
is_admitted by c es = list_any (λ e. is_admit e.kind && ((e.client == c) && (e.by == by))) es

-- the accept, the take, an answer in time or late or the failure of the request of that name
abbrev pub is_accepted : ℕ → ℕ → List Entry → Bool
is_accepted c n es = list_any (λ e. is_accept e.kind && has_name c n e) es

abbrev pub is_taken : ℕ → ℕ → List Entry → Bool
is_taken c n es = list_any (λ e. is_take e.kind && has_name c n e) es

abbrev pub is_settled : ℕ → ℕ → List Entry → Bool
is_settled c n es = list_any (λ e. is_settling e.kind && has_name c n e) es

-- the takes that have no answer, in time or late, and did not fail
abbrev pub unanswered_takes : List Entry → List Entry
unanswered_takes es = filter (λ t. not (is_settled t.client t.ordinal es)) (takes es)

-- what the client called the request of that name, and its command
abbrev pub own_of : ℕ → ℕ → List Entry → ℕ
own_of c n es = first_or 0 (map (λ e. e.number) (filter (λ e. is_accept e.kind && has_name c n e) es))

abbrev pub command_of : ℕ → ℕ → List Entry → ℕ
command_of c n es = first_or 0 (map (λ e. e.command) (filter (λ e. is_accept e.kind && has_name c n e) es))

-- the clients that were admitted and have not retired, by their admits
abbrev pub present : List Entry → List Entry
present es = filter (λ a. not (is_retired a.client es)) (admits es)

-- the lane is up: it starts so, and is as the last of its downs and ups left it
abbrev pub is_up : List Entry → Bool
is_up es = last_or true (map (λ e. is_rise e.kind) (filter (λ e. is_link e.kind) es))
