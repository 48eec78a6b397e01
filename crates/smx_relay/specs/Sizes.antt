-- How much a run has reserved, in places of at most 48 octets: a request, a response, an entry or a message.
use Rattle.std.specs.Prelude.{ℕ, ◌+◌, ◌*◌, Bool, nat_lt, min, length}
use Rattle.smx_history.specs.declared.limits.Limits.{Limits}
use Rattle.smx_lines.specs.Relay.{Relay}

-- a lane has places for its queue, its window and its history, and for each client that its history has room for, those
-- of the client's responses and of its row
abbrev pub lane_places : Limits → ℕ → ℕ
lane_places limits clients = limits.queue + limits.window + limits.history + min clients limits.history * (limits.client + 4)

-- a client has those of its link, and twice those of its mailbox: for what waits, and for what has no answer
abbrev pub client_places : ℕ → ℕ
client_places places = 2 * places + 16

abbrev pub places_of : Relay → ℕ
places_of s = length s.lanes * lane_places s.limits (length s.clients) + length s.clients * client_places s.places

-- it is more than a run may reserve: 20,000,000 places, which are less than 1 GB
abbrev pub is_too_large : Relay → Bool
is_too_large s = nat_lt 20000000 (places_of s)
