-- The session with a centre, and its moments in milliseconds.
use Rattle.std.specs.Prelude.{ℕ, ◌-◌, Option, Some, None, Bool, true, false, ◌&&◌, max, nat_le, if◌then◌else◌}
use Rattle.smx_pdu.specs.declared.pdu.Pdu.{Pdu}
use Rattle.smx_pdu.specs.declared.command.TheConstants.{ENQUIRE_LINK, UNBIND}
use Rattle.smx_pdu.specs.declared.status.TheConstants.{ESME_ROK}
use Rattle.smx_session.specs.declared.upstream_state.UpstreamState.{UpstreamState}
use Rattle.smx_session.specs.declared.upstream_state.UpstreamState.TheVariants.{Binding, Bound, Unbinding, Ended}
use Rattle.smx_session.specs.declared.up_act.UpAct.{UpAct}
use Rattle.smx_pdu.specs.Answers.{header_only}
use Rattle.smx_session.specs.Login.{OwnBind}
use Rattle.smx_session.specs.UpstreamTable.{UpstreamCell, upstream_row, upstream_cell, upstream_decision, enquiry_number, unbind_number}
use Rattle.smx_session.specs.UpstreamTable.UpstreamCell.{bind_answer, failed, answered, closed, to_lane, mo, answer, leave, nack, ignore}

-- what a session keeps: its bind, the silence before an enquiry, its state, the last
-- moment that was handed in, that of the last PDU (at first that of the start), and since when an
-- enquiry is unanswered
pub record Upstream : Type 0 where
  pub bind : OwnBind
  pub silence : ℕ
  pub state : UpstreamState
  pub latest : ℕ
  pub heard : ℕ
  pub enquired : Option ℕ

-- a moment that is handed in: below the last one it counts as the last one
abbrev pub moment : Upstream → ℕ → ℕ
moment u now = max u.latest now

-- the session once a moment is handed in
abbrev pub at : Upstream → ℕ → Upstream
at u now = record u { latest = moment u now }

-- the enquiry that is unanswered after a PDU
abbrev pub enquired_after : UpstreamCell → Option ℕ → Option ℕ
enquired_after bind_answer since = since
enquired_after failed since = since
enquired_after answered since = None
enquired_after closed since = since
enquired_after to_lane since = since
enquired_after mo since = since
enquired_after (answer status) since = since
enquired_after leave since = since
enquired_after nack since = since
enquired_after ignore since = since

abbrev pub cell_at : Upstream → Pdu → UpstreamCell
cell_at u p = upstream_cell (upstream_row u.bind.kind p.command p.number) u.state

-- the act on a PDU, and the session after it
abbrev pub act_on : Upstream → Pdu → UpAct
act_on u p = (upstream_decision (cell_at u p) u.state p).0

abbrev pub after_pdu : Upstream → Pdu → ℕ → Upstream
after_pdu u p now = record u {
  state = (upstream_decision (cell_at u p) u.state p).1;
  latest = moment u now;
  heard = moment u now;
  enquired = enquired_after (cell_at u p) u.enquired;
}

abbrev pub is_bound : UpstreamState → Bool
is_bound Binding = false
is_bound Bound = true
is_bound Unbinding = false
is_bound Ended = false

abbrev pub none_waits : Option ℕ → Bool
none_waits None = true
none_waits (Some since) = false

-- whether an enquiry is to be sent: in Bound, where none is unanswered and nothing was heard for at
-- least the silence
abbrev pub is_due : Upstream → ℕ → Bool
is_due u now = is_bound u.state && (none_waits u.enquired && nat_le u.silence (moment u now - u.heard))

abbrev pub enquiry : Upstream → ℕ → Option Pdu
enquiry u now = if is_due u now then Some (header_only ENQUIRE_LINK ESME_ROK enquiry_number) else None

-- it is unanswered from that moment on
abbrev pub after_moment : Upstream → ℕ → Upstream
after_moment u now = record u {
  latest = moment u now;
  enquired = if is_due u now then Some (moment u now) else u.enquired;
}

-- whether an enquiry is unanswered for at least the silence
abbrev pub unanswered_for : ℕ → ℕ → Option ℕ → Bool
unanswered_for silence now None = false
unanswered_for silence now (Some since) = nat_le silence (now - since)

abbrev pub is_silent : Upstream → ℕ → Bool
is_silent u now = unanswered_for u.silence (moment u now) u.enquired

-- unbind goes out in Bound only
abbrev pub farewell : UpstreamState → Option Pdu
farewell Binding = None
farewell Bound = Some (header_only UNBIND ESME_ROK unbind_number)
farewell Unbinding = None
farewell Ended = None

-- and then its answer is waited for
abbrev pub state_after_stop : UpstreamState → UpstreamState
state_after_stop Binding = Binding
state_after_stop Bound = Unbinding
state_after_stop Unbinding = Unbinding
state_after_stop Ended = Ended
