-- What a lane holds, and what it holds after a history.
use Rattle.std.specs.Prelude.{◌≡◌, ◌+◌, ◌-◌, ◌*◌, ℕ, List, map, drop, length, sum_by, Bool, if◌then◌else◌}
use Rattle.smx_history.specs.declared.entry.Entry.{Entry}
use Rattle.smx_history.specs.declared.limits.Limits.{Limits}
use Rattle.smx_history.specs.declared.request.Request.{Request}
use Rattle.smx_history.specs.declared.note.Note.{Note}
use Rattle.smx_history.specs.Prefixes.{last_or, SameCounts}
use Rattle.smx_history.specs.Entries.{admits, takes, accepts_of, collects_of, unanswered_takes, own_of, command_of, present, is_up, numbers}
use Rattle.smx_history.specs.Numbers.{generations_after, AreNumbered}
use Rattle.smx_history.specs.Legal.{IsLegal}
use Rattle.smx_history.specs.declared.place.Place.{Place}
use Rattle.smx_history.specs.declared.response.Response.{Response}
use Rattle.smx_history.specs.History.{entries_of, marks_of, stored_of, requests, responses, moment_of, latest_after}

-- a client that was admitted and has not retired
pub record Member : Type 0 where
  pub client : ℕ
  pub by : ℕ
  -- the ordinal of its last accept, or 0
  pub last : ℕ
  -- how many of its requests were accepted and not collected
  pub pending : ℕ
  -- its responses that wait, as the client is to see them
  pub waiting : List Response

-- what contracts see of a lane
pub record Content : Type 0 where
  pub limits : Limits
  pub queue : List Request
  -- in any order
  pub window : List Place
  -- by their clients' numbers
  pub members : List Member
  pub greatest : ℕ
  -- whether there is a link upstream
  pub up : Bool
  -- for each place below the window's size, the generation of its next take
  pub generations : List ℕ
  -- the moment of the last take, or 0
  pub latest : ℕ
  pub entries : List Entry

-- as a client sees a response: with its own number (SMPP 3.4, section 5.1.4)
abbrev pub as_shown : List Entry → ℕ → Response → Response
as_shown es c r = record { ordinal = r.ordinal; pdu = record { command = r.pdu.command; status = r.pdu.status; number = own_of c r.ordinal es; body = r.pdu.body } }

-- the place of a take in the window
abbrev pub place_of : List Note → Entry → Place
place_of h t =
    record {
      upstream = t.number;
      client = t.client;
      ordinal = t.ordinal;
      own = own_of t.client t.ordinal (entries_of h);
      command = command_of t.client t.ordinal (entries_of h);
      moment = moment_of t.client t.ordinal h;
    }

-- the row of a client after a history, which has this admit
abbrev pub member_after : List Note → Entry → Member
member_after h admit =
    record {
      client = admit.client;
      by = admit.by;
      last = last_or 0 (map (λ e. e.ordinal) (accepts_of admit.client (entries_of h)));
      pending = length (accepts_of admit.client (entries_of h)) - length (collects_of admit.client (entries_of h));
      waiting = drop (length (collects_of admit.client (entries_of h))) (map (as_shown (entries_of h) admit.client) (responses admit.client h));
    }

-- the rows of the clients that are present
abbrev pub members_after : List Note → List Member
members_after h = map (member_after h) (present (entries_of h))

-- what is queued after a history: the requests accepted, without those taken
abbrev pub queue_after : List Note → List Request
queue_after h = drop (length (takes (entries_of h))) (requests h)

-- the takes without an answer
abbrev pub window_after : List Note → List Place
window_after h = map (place_of h) (unanswered_takes (entries_of h))

-- the greatest client admitted, or 0
abbrev pub greatest_after : List Note → ℕ
greatest_after h = last_or 0 (map (λ e. e.client) (admits (entries_of h)))

-- what a lane of these limits holds after a history, its window in the order of the takes
abbrev pub content_after : Limits → List Note → Content
content_after limits h =
    record {
      limits = limits;
      queue = queue_after h;
      window = window_after h;
      members = members_after h;
      greatest = greatest_after h;
      up = is_up (entries_of h);
      generations = generations_after limits.window (numbers (entries_of h));
      latest = latest_after h;
      entries = stored_of h;
    }

-- the same content, but for the order of the window
pub record IsReordered (one other : Content) : Type 0 where
  pub limits : other.limits ≡ one.limits
  pub queue : other.queue ≡ one.queue
  pub window : SameCounts one.window other.window
  pub members : other.members ≡ one.members
  pub greatest : other.greatest ≡ one.greatest
  pub up : other.up ≡ one.up
  pub generations : other.generations ≡ one.generations
  pub latest : other.latest ≡ one.latest
  pub entries : other.entries ≡ one.entries

-- the content is what the history leaves, but for the order of the window
abbrev pub IsAfter : List Note → Content → Type 0
IsAfter h content = IsReordered (content_after content.limits h) content

-- the history is legal, its takes bear the places of the window in turn, and the content is what it leaves
pub record AgreesWith (h : List Note) (content : Content) : Type 0 where
  pub legal : IsLegal content.limits (marks_of h)
  pub numbered : AreNumbered content.limits.window (numbers (entries_of h))
  pub after : IsAfter h content

-- entries, and what may still follow from what is there
abbrev pub size_of : Content → ℕ
size_of v = length v.entries + 3 * length v.queue + 2 * length v.window + sum_by (λ m. length m.waiting) v.members + length v.members + (if v.up then 1 else 0)
