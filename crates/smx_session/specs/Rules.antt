-- What the account that a client is bound by may send.
use Rattle.std.specs.Prelude.{ℕ, List, Bool, true, false, Option, Some, None, slice_get, ◌==◌, if◌then◌else◌}
use Rattle.smx_pdu.specs.declared.pdu.Pdu.{Pdu}
use Rattle.smx_pdu.specs.declared.command.TheConstants.{QUERY_SM, SUBMIT_SM, REPLACE_SM, CANCEL_SM, SUBMIT_MULTI, DATA_SM}
use Rattle.smx_pdu.specs.declared.status.TheConstants.{ESME_RINVCMDID}
use Rattle.smx_bodies.specs.Reading.{body_status}
use Rattle.smx_session.specs.Login.{Login}
use Rattle.smx_session.specs.declared.rules.Bodies.{Bodies}
use Rattle.smx_session.specs.declared.rules.Bodies.TheVariants.{Any, Readable}
use Rattle.smx_session.specs.declared.rules.Commands.{Commands}
use Rattle.smx_session.specs.declared.rules.Rules.{Rules}

-- the six requests that go to the centre
abbrev pub all_commands : Commands
all_commands = record { submit_sm = true; submit_multi = true; data_sm = true; query_sm = true; cancel_sm = true; replace_sm = true }

-- whether a command is among them; no other command ever is
abbrev pub may_send : Commands → ℕ → Bool
may_send c command =
    if command == SUBMIT_SM then c.submit_sm
    else if command == SUBMIT_MULTI then c.submit_multi
    else if command == DATA_SM then c.data_sm
    else if command == QUERY_SM then c.query_sm
    else if command == CANCEL_SM then c.cancel_sm
    else if command == REPLACE_SM then c.replace_sm
    else false

abbrev pub no_rules : Rules
no_rules = record { commands = all_commands; bodies = Any }

-- those of an account, where there is one
abbrev pub rules_of_login : Option Login → Rules
rules_of_login None = no_rules
rules_of_login (Some a) = a.rules

abbrev pub rules_of : List Login → Option ℕ → Rules
rules_of accounts None = no_rules
rules_of accounts (Some i) = rules_of_login (slice_get accounts i)

-- second, its body can be read where it must be (ESME_RINVMSGLEN and ESME_RINVCMDLEN, 5.1.3)
abbrev pub unreadable_status : Bodies → Pdu → Option ℕ
unreadable_status Any p = None
unreadable_status Readable p = body_status p.command p.body

-- first, the command is among the account's (ESME_RINVCMDID): the status that answers a request which the rules bar
unfoldable pub ruled_out : Rules → Pdu → Option ℕ
ruled_out rules p = if may_send rules.commands p.command then unreadable_status rules.bodies p else Some ESME_RINVCMDID
