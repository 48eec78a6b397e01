-- What a centre answers, by the class of a command and by the centre's mode (SMPP 3.4, section 4).
use Rattle.std.specs.Prelude.{ℕ, ◌+◌, Bool, List, [], ◌∷◌, ◌++◌, codes, replicate, nat_lt, ◌==◌, Option, Some, None, if◌then◌else◌}
use Rattle.std.specs.List.{list_any}
use Rattle.std.specs.Fmt.{decimal}
use Rattle.smx_pdu.specs.declared.pdu.Pdu.{Pdu}
use Rattle.smx_pdu.specs.declared.command.TheConstants.{BIND_RECEIVER, BIND_TRANSMITTER, BIND_TRANSCEIVER, ENQUIRE_LINK, UNBIND, SUBMIT_SM, DATA_SM, SUBMIT_MULTI, QUERY_SM, CANCEL_SM, REPLACE_SM, DELIVER_SM, RESPONSE}
use Rattle.smx_pdu.specs.declared.status.TheConstants.{ESME_ROK, ESME_RSYSERR}
use Rattle.smx_pdu.specs.Answers.{response, unknown}
use Rattle.smx_centre.specs.declared.class.Class.{Class}
use Rattle.smx_centre.specs.declared.class.Class.TheVariants.{Bind, Session, Message, Forwarded, OtherRequest, Response}
use Rattle.smx_centre.specs.declared.mode.Mode.{Mode}
use Rattle.smx_centre.specs.declared.mode.Mode.TheVariants.{Plain, Reversed, Twice, Stranger, Silent}

-- the greatest message id and sequence_number
abbrev pub last : ℕ
last = 0x7FFF_FFFF

-- what comes after a number: after the greatest one it begins again at 1
abbrev pub next : ℕ → ℕ
next n = if n == last then 1 else n + 1

-- what a centre keeps: the last message id and the last number of its own that it gave, each 0 at
-- first, and the response that waits for the second of two
pub record Centring : Type 0 where
  pub mode : Mode
  pub messages : ℕ
  pub deliveries : ℕ
  pub held : Option Pdu

abbrev pub is_among : List ℕ → ℕ → Bool
is_among commands command = list_any (λ id. id == command) commands

abbrev pub class_of : ℕ → Class
class_of command =
    if is_among (BIND_RECEIVER ∷ BIND_TRANSMITTER ∷ BIND_TRANSCEIVER ∷ []) command then Bind
    else if is_among (ENQUIRE_LINK ∷ UNBIND ∷ []) command then Session
    else if is_among (SUBMIT_SM ∷ DATA_SM ∷ []) command then Message
    else if is_among (SUBMIT_MULTI ∷ QUERY_SM ∷ CANCEL_SM ∷ REPLACE_SM ∷ []) command then Forwarded
    else if nat_lt command RESPONSE then OtherRequest
    else Response

-- the response to a message with its message_id in decimal (4.4.2), and to another forwarded
-- command, which fails
abbrev pub forwarded_response : Option ℕ → Pdu → Pdu
forwarded_response (Some id) request = response request ESME_ROK (decimal id ++ 0 ∷ [])
forwarded_response None request = response request ESME_RSYSERR []

abbrev pub stranger : Pdu → Pdu
stranger r = record r { number = 0x7000_0000 }

-- the PDUs that a response to a forwarded command makes, by the mode and the response that waits
abbrev pub responses_sent : Mode → Option Pdu → Pdu → List Pdu
responses_sent Plain held r = r ∷ []
responses_sent Reversed None r = []
responses_sent Reversed (Some first) r = r ∷ first ∷ []
responses_sent Twice held r = r ∷ r ∷ []
responses_sent Stranger held r = r ∷ stranger r ∷ []
responses_sent Silent held r = []

-- the response that waits then
abbrev pub response_kept : Mode → Option Pdu → Pdu → Option Pdu
response_kept Plain held r = held
response_kept Reversed None r = Some r
response_kept Reversed (Some first) r = None
response_kept Twice held r = held
response_kept Stranger held r = held
response_kept Silent held r = held

-- the answers to a PDU
abbrev pub responses_to : Class → Centring → Pdu → List Pdu
responses_to Bind c p = response p ESME_ROK (codes "centre" ++ 0 ∷ []) ∷ []
responses_to Session c p = response p ESME_ROK [] ∷ []
responses_to Message c p = responses_sent c.mode c.held (forwarded_response (Some (next c.messages)) p)
responses_to Forwarded c p = responses_sent c.mode c.held (forwarded_response None p)
responses_to OtherRequest c p = unknown p.number ∷ []
responses_to Response c p = []

-- and what the centre keeps after it
abbrev pub centring_after : Class → Centring → Pdu → Centring
centring_after Bind c p = c
centring_after Session c p = c
centring_after Message c p = record c {
  messages = next c.messages;
  held = response_kept c.mode c.held (forwarded_response (Some (next c.messages)) p);
}
centring_after Forwarded c p = record c { held = response_kept c.mode c.held (forwarded_response None p) }
centring_after OtherRequest c p = c
centring_after Response c p = c

-- a message to a destination, all else in it empty (4.6.1)
abbrev pub delivery : ℕ → List ℕ → Pdu
delivery number destination = record {
  command = DELIVER_SM;
  status = ESME_ROK;
  number = number;
  body = replicate 6 0 ++ destination ++ replicate 11 0;
}
