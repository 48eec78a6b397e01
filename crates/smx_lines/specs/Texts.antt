-- The lines that a run prints.
use Rattle.std.specs.Prelude.{ℕ, List, [], ◌∷◌, ◌++◌, codes}
use Rattle.std.specs.Fmt.{decimal}
use Rattle.hex.specs.Hex.{encode_lower}
use Rattle.smx_pdu.specs.declared.pdu.Pdu.{Pdu}
use Rattle.smx_pdu.specs.Pdu.{spelling}
use Rattle.smx_history.specs.declared.entry.Kind.{Kind}
use Rattle.smx_history.specs.declared.entry.Kind.TheVariants.{Admit, Accept, Take, Answer, Late, Collect, Retire, Fail, Down, Up}
use Rattle.smx_history.specs.declared.entry.Entry.{Entry}
use Rattle.smx_history.specs.declared.request.Request.{Request}
use Rattle.smx_history.specs.declared.reply.Failed.{Failed}
use Rattle.smx_history.specs.declared.reply.Failed.TheVariants as failed

-- each line ends with a line feed
abbrev pub text_line : List ℕ → List ℕ
text_line text = text ++ 10 ∷ []

-- a PDU in hexadecimal digits, in lower case, behind what is said of it
abbrev pub pdu_line : List ℕ → Pdu → List ℕ
pdu_line head p = head ++ (encode_lower (spelling p) ++ 10 ∷ [])

abbrev pub to_client : ℕ → List ℕ
to_client c = codes "to " ++ (decimal c ++ codes " ")

abbrev pub up_lane : ℕ → List ℕ
up_lane lane = codes "up " ++ (decimal lane ++ codes " ")

unfoldable pub bad_line : ℕ → List ℕ
bad_line n = text_line (codes "bad line " ++ decimal n)

abbrev pub closed_line : ℕ → List ℕ
closed_line c = text_line (codes "closed " ++ decimal c)

abbrev pub down_line : ℕ → List ℕ
down_line lane = text_line (codes "down " ++ decimal lane)

-- a lane is bound to the centre
abbrev pub bound_line : ℕ → List ℕ
bound_line lane = text_line (codes "bound " ++ decimal lane)

-- it isn't, for want of room
abbrev pub unbound_line : ℕ → List ℕ
unbound_line lane = text_line (codes "full " ++ decimal lane)

-- a request failed: its client is told when it collects, or has left
abbrev pub failed_line : Failed → List ℕ
failed_line (failed.Queued c) = text_line (codes "failed " ++ decimal c)
failed_line (failed.Late c) = text_line (codes "late")

-- no request failed
abbrev pub kept_line : ℕ → List ℕ
kept_line lane = text_line (codes "kept " ++ decimal lane)

-- a lane goes on without so many entries
abbrev pub turned_line : ℕ → ℕ → List ℕ
turned_line lane count = text_line (codes "turned " ++ (decimal lane ++ (codes " " ++ decimal count)))

-- a request as it goes upstream
abbrev pub upstream_of : Request → ℕ → Pdu
upstream_of r u = record { command = r.command; status = 0; number = u; body = r.body }

abbrev pub kind_name : Kind → List ℕ
kind_name Admit = codes "admit"
kind_name Accept = codes "accept"
kind_name Take = codes "take"
kind_name Answer = codes "answer"
kind_name Late = codes "late"
kind_name Collect = codes "collect"
kind_name Retire = codes "retire"
kind_name Fail = codes "fail"
kind_name Down = codes "down"
kind_name Up = codes "up"

-- an entry's kind, client, ordinal and number
abbrev pub entry_line : Entry → List ℕ
entry_line e = text_line (kind_name e.kind ++ (codes " " ++ (decimal e.client ++ (codes " " ++ (decimal e.ordinal ++ (codes " " ++ decimal e.number))))))
