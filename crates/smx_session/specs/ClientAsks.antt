-- What leave is asked for before a client's PDU is decided, and what it is answered where none is given.
use Rattle.std.specs.Prelude.{ℕ, List, [], Option, Some, None}
use Rattle.smx_pdu.specs.declared.pdu.Pdu.{Pdu}
use Rattle.smx_pdu.specs.declared.status.TheConstants.{ESME_RBINDFAIL, ESME_RMSGQFUL}
use Rattle.smx_pdu.specs.Answers.{response}
use Rattle.smx_session.specs.Login.{Login}
use Rattle.smx_session.specs.declared.act.Act.{Act}
use Rattle.smx_session.specs.declared.act.Act.TheVariants as act
use Rattle.smx_session.specs.declared.ask.Ask.{Ask}
use Rattle.smx_session.specs.declared.ask.Ask.TheVariants.{Bind, RefusedBind, Request}
use Rattle.smx_session.specs.declared.bind_check.Checked.{Checked}
use Rattle.smx_session.specs.declared.bind_check.Checked.TheVariants.{Refused, Granted}
use Rattle.smx_session.specs.declared.client_state.ClientState.{ClientState}
use Rattle.smx_session.specs.Binds.{check_bind}
use Rattle.smx_session.specs.Rules.{rules_of, ruled_out}
use Rattle.smx_session.specs.ClientTable.{ClientCell, client_cell, client_row}
use Rattle.smx_session.specs.ClientTable.ClientCell.{checks, answer, nack, forward, message_answer, leave, closed, ignore}

-- a bind asks by what its checks say
abbrev pub bind_asks : Checked → Ask
bind_asks (Refused status) = RefusedBind
bind_asks (Granted i version) = Bind i

-- and a request only where the account's rules let it go to a lane
abbrev pub request_asks : Option ℕ → Option Ask
request_asks None = Some Request
request_asks (Some status) = None

abbrev pub cell_asks : ClientCell → List Login → Option ℕ → Pdu → Option Ask
cell_asks (checks k) accounts account p = Some (bind_asks (check_bind accounts p.body))
cell_asks (answer status) accounts account p = None
cell_asks nack accounts account p = None
cell_asks forward accounts account p = request_asks (ruled_out (rules_of accounts account) p)
cell_asks message_answer accounts account p = None
cell_asks leave accounts account p = None
cell_asks closed accounts account p = None
cell_asks ignore accounts account p = None

-- what leave a session in a state asks for before it decides a PDU
abbrev pub client_asks : List Login → Option ℕ → ClientState → Pdu → Option Ask
client_asks accounts account s p = cell_asks (client_cell (client_row p.command) s) accounts account p

-- the answer where no leave was given (5.1.3): a bind fails, and the queue is full for a request. A
-- bind that is refused is never barred
abbrev pub client_bars : Ask → Pdu → Act
client_bars (Bind i) p = act.Answer (response p ESME_RBINDFAIL [])
client_bars RefusedBind p = act.Ignore
client_bars Request p = act.Answer (response p ESME_RMSGQFUL [])
