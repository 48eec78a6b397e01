-- The bind of a client that was refused last.
use Rattle.std.specs.Prelude.{List, Option, Some, None}
use Rattle.smx_pdu.specs.declared.pdu.Pdu.{Pdu}
use Rattle.smx_session.specs.declared.act.Act.{Act}
use Rattle.smx_session.specs.declared.act.Act.TheVariants as act
use Rattle.smx_turns.specs.Steps.{phase_from}
use Rattle.smx_client.specs.declared.ending.Refusal.{Refusal}
use Rattle.smx_client.specs.declared.event.Event.{Event}
use Rattle.smx_client.specs.declared.event.Event.TheVariants.{Decided}
use Rattle.smx_client.specs.declared.event.Fate.TheVariants.{Own}

-- a bind that the session refuses is the last one then
abbrev pub refused_by : Pdu → Act → Option Refusal → Option Refusal
refused_by p (act.Refuse answer) o = Some (record { status = answer.status; bind = p })
refused_by p _ o = o

abbrev pub refused_after : Option Refusal → Event → Option Refusal
refused_after o (Decided p a Own) = refused_by p.value a.value o
refused_after o _ = o

-- that of the last of these events that refused one
unfoldable pub last_refused : List Event → Option Refusal
last_refused es = phase_from refused_after None es
