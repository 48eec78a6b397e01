-- The request that a link was given last.
use Rattle.std.specs.Prelude.{◌-◌, List, length, slice_get, Option, Some, None, Result, Ok, Err}
use Rattle.smx_lane.specs.declared.sent.Sent.{Sent}
use Rattle.smx_lock.specs.declared.faults.Spent.{Spent}
use Rattle.smx_shared.specs.declared.batch.Takings.{Takings}
use Rattle.smx_turns.specs.Steps.{phase_from}
use Rattle.smx_upstream.specs.declared.event.Event.{Event}
use Rattle.smx_upstream.specs.declared.event.Event.TheVariants.{Took}
use Rattle.smx_upstream.specs.declared.last.LastRequest.{LastRequest}

-- this request, or where there is none the one before
abbrev pub request_or : Option LastRequest → Option Sent → Option LastRequest
request_or o (Some s) = Some (record { client = s.request.client; command = s.request.command })
request_or o None = o

-- the last of a list is the last one then
abbrev pub last_taken : Result Takings Spent → Option LastRequest → Option LastRequest
last_taken (Ok b) o = request_or o (slice_get b.requests.items (length b.requests.items - 1))
last_taken (Err e) o = o

abbrev pub last_after : Option LastRequest → Event → Option LastRequest
last_after o (Took r) = last_taken r.value o
last_after o _ = o

-- that of the last of these events that took one
unfoldable pub last_request : List Event → Option LastRequest
last_request es = phase_from last_after None es
