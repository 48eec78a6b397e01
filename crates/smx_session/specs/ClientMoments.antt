-- A client's session and its moments in milliseconds (SMPP 3.4, sections 4.11 and 7.2).
use Rattle.std.specs.Prelude.{ℕ, ◌-◌, ◌==◌, Option, Some, None, Bool, false, not, ◌&&◌, ◌||◌, max, nat_le, if◌then◌else◌}
use Rattle.smx_pdu.specs.declared.pdu.Pdu.{Pdu}
use Rattle.smx_pdu.specs.declared.command.TheConstants.{ENQUIRE_LINK, UNBIND}
use Rattle.smx_pdu.specs.declared.status.TheConstants.{ESME_ROK}
use Rattle.smx_pdu.specs.Answers.{header_only}
use Rattle.smx_session.specs.declared.client_state.ClientState.{ClientState}
use Rattle.smx_session.specs.declared.client_state.ClientState.TheVariants.{Opened, BoundTx, BoundRx, BoundTrx, Unbinding, Ended}
use Rattle.smx_session.specs.declared.enquiry.Enquiry.{Enquiry}
use Rattle.smx_session.specs.declared.enquiry.Enquiry.TheVariants.{NotDue, Due, Unanswered}
use Rattle.smx_session.specs.ClientTable.{is_enquired, client_enquiry_number, client_unbind_number}
use Rattle.smx_session.specs.Moments.{none_waits, unanswered_for}

-- what a session keeps: its state, the account that it is bound by, the silence before an enquiry (0: none is sent), the last moment
-- that was handed in, that of the last octets (at first that of the start), since when an enquiry is
-- unanswered, and whether the session ended for that
pub record Client : Type 0 where
  pub state : ClientState
  pub account : Option ℕ
  pub silence : ℕ
  pub latest : ℕ
  pub heard : ℕ
  pub enquired : Option ℕ
  pub silent : Bool

-- a session in this state that begins at a moment, and is bound by no account
abbrev pub client_at : ClientState → ℕ → ℕ → Client
client_at state silence now = record { state = state; account = None; silence = silence; latest = now; heard = now; enquired = None; silent = false }

-- a moment that is handed in: below the last one it counts as the last one
abbrev pub client_moment : Client → ℕ → ℕ
client_moment c now = max c.latest now

-- any octet counts as life
abbrev pub after_octets : Client → ℕ → Client
after_octets c now = record c { latest = client_moment c now; heard = client_moment c now; enquired = None }

-- whether an enquiry is to be sent: no octet came for at least the silence, and none is unanswered
abbrev pub is_enquiry_due : Client → ℕ → Bool
is_enquiry_due c now = is_enquired c.state && (not (c.silence == 0) && (none_waits c.enquired && nat_le c.silence (client_moment c now - c.heard)))

-- whether one is unanswered for at least the silence
abbrev pub is_unanswered : Client → ℕ → Bool
is_unanswered c now = is_enquired c.state && unanswered_for c.silence (client_moment c now) c.enquired

abbrev pub client_enquiry : Client → ℕ → Enquiry
client_enquiry c now =
    if is_enquiry_due c now then Due (header_only ENQUIRE_LINK ESME_ROK client_enquiry_number)
    else if is_unanswered c now then Unanswered
    else NotDue

-- it is unanswered from that moment on, and the session ends where it stays so
abbrev pub after_client_moment : Client → ℕ → Client
after_client_moment c now = record c {
  state = if is_unanswered c now then Ended else c.state;
  latest = client_moment c now;
  enquired = if is_enquiry_due c now then Some (client_moment c now) else c.enquired;
  silent = is_unanswered c now || c.silent;
}

-- the proxy's unbind goes to a client that is bound only
abbrev pub client_farewell : ClientState → Option Pdu
client_farewell Opened = None
client_farewell BoundTx = Some (header_only UNBIND ESME_ROK client_unbind_number)
client_farewell BoundRx = Some (header_only UNBIND ESME_ROK client_unbind_number)
client_farewell BoundTrx = Some (header_only UNBIND ESME_ROK client_unbind_number)
client_farewell Unbinding = None
client_farewell Ended = None

-- and then its answer is waited for
abbrev pub client_state_after_stop : ClientState → ClientState
client_state_after_stop Opened = Opened
client_state_after_stop BoundTx = Unbinding
client_state_after_stop BoundRx = Unbinding
client_state_after_stop BoundTrx = Unbinding
client_state_after_stop Unbinding = Unbinding
client_state_after_stop Ended = Ended
