-- The links of the engine, and what comes on them.
use Rattle.std.specs.Prelude.{◌≡◌, ℕ, ◌++◌, List, [], codes, Bool, true, false, Option, Some, None, is_some}
use Rattle.smx_pdu.specs.declared.pdu.Pdu.{Pdu}
use Rattle.smx_frame.specs.Stream.{Stream, Cuts, fault_at}
use Rattle.smx_session.specs.declared.kind.Kind.{Kind}
use Rattle.smx_session.specs.declared.client_state.ClientState.{ClientState}
use Rattle.smx_session.specs.declared.client_state.ClientState.TheVariants.{Opened, BoundRx, BoundTrx}
use Rattle.smx_session.specs.declared.client_state.ClientState.TheVariants as client
use Rattle.smx_session.specs.declared.upstream_state.UpstreamState.{UpstreamState}
use Rattle.smx_session.specs.declared.upstream_state.UpstreamState.TheVariants.{Binding, Bound, Unbinding, Ended}
use Rattle.smx_session.specs.Binds.{transceiver_bind}
use Rattle.smx_session.specs.ClientTable.{bound_state}
use Rattle.smx_session.specs.Moments.{Upstream}
use Rattle.smx_mailbox.specs.Mailbox.{Mailbox, new_mailbox}

-- a client's session: its state, and the account that it is bound by; no script has moments
pub record Session : Type 0 where
  pub state : ClientState
  pub account : Option ℕ

-- a client's link: its session, the stream of its octets, and its messages
pub record ClientLink : Type 0 where
  pub session : Session
  pub stream : Stream
  pub mailbox : Mailbox

-- a lane's link to the centre
pub record CentreLink : Type 0 where
  pub session : Upstream
  pub stream : Stream

-- no octet has come, and no PDU is to have more than 65,536
abbrev pub new_stream : Stream
new_stream = record { max = 65536; rest = []; failed = None }

-- the octets complete these PDUs, and leave a rest that begins with none; at a bad length the stream has failed
pub record Receives (old : Stream) (octets : List ℕ) (ps : List Pdu) (new : Stream) : Type 0 where
  pub cuts : Cuts old.max (old.rest ++ octets) ps new.rest
  pub left : new ≡ record { max = old.max; rest = new.rest; failed = fault_at old.max new.rest }

abbrev pub has_failed : Stream → Bool
has_failed stream = is_some stream.failed

-- a client binds before it sends, or is bound so from the start
abbrev pub opening : Option Kind → ClientState
opening None = Opened
opening (Some kind) = bound_state kind

abbrev pub new_link : ℕ → Option Kind → ClientLink
new_link places kind = record { session = record { state = opening kind; account = None }; stream = new_stream; mailbox = new_mailbox places }

-- its session has ended
abbrev pub at_end : ClientLink → ClientLink
at_end k = record k { session = record k.session { state = client.Ended } }

-- a client that is bound to receive
abbrev pub may_receive : ClientState → Bool
may_receive BoundRx = true
may_receive BoundTrx = true
may_receive _ = false

-- a lane is bound before the first line that is no setting
abbrev pub bound_centre : CentreLink
bound_centre = record {
  session = record { bind = transceiver_bind (codes "smx") []; silence = 0; state = Bound; latest = 0; heard = 0; enquired = None };
  stream = new_stream;
}

abbrev pub is_ended : UpstreamState → Bool
is_ended Binding = false
is_ended Bound = false
is_ended Unbinding = false
is_ended Ended = true

-- the centre has unbound
abbrev pub has_left : CentreLink → Bool
has_left k = is_ended k.session.state
