-- How a lane comes up once its link is bound.
use Rattle.std.specs.Prelude.{◌≡◌, Bool, true, false, Result, Ok, Err}
use Rattle.std.specs.declared.vec.Vec.{Vec}
use Rattle.std.specs.declared.alloc.Global.{Global}
use Rattle.smx_lock.specs.Fronts.{Front}
use Rattle.smx_history.specs.declared.limits.Limits.{Limits}
use Rattle.smx_history.specs.declared.note.Note.{Note}
use Rattle.smx_history.specs.declared.entry.Entry.{Entry}
use Rattle.smx_history.specs.declared.reply.UpRefusal.TheVariants as refusal
use Rattle.smx_shared.specs.declared.fault.UpFault.{UpFault}
use Rattle.smx_shared.specs.declared.fault.UpFault.TheVariants as ups
use Rattle.smx_shared.specs.Serving.{ComesUp, Turns}
use Rattle.smx_upstream.specs.declared.event.Rise.{Rise}
use Rattle.smx_upstream.specs.declared.event.Rise.TheVariants as rise

-- the lane's history has no room
abbrev pub is_history_full : Result (Unit {0}) UpFault → Bool
is_history_full (Ok done) = false
is_history_full (Err ups.Spent) = false
is_history_full (Err (ups.Refused refusal.AlreadyUp)) = false
is_history_full (Err (ups.Refused refusal.WindowNotEmpty)) = false
is_history_full (Err (ups.Refused refusal.HistoryFull)) = true

-- a lane that is up already stays so
abbrev pub stays_down : Result (Unit {0}) UpFault → Bool
stays_down (Ok done) = false
stays_down (Err ups.Spent) = true
stays_down (Err (ups.Refused refusal.AlreadyUp)) = false
stays_down (Err (ups.Refused refusal.WindowNotEmpty)) = true
stays_down (Err (ups.Refused refusal.HistoryFull)) = true

-- what the lane said at last
abbrev pub said_last : Rise → Result (Unit {0}) UpFault
said_last (rise.Asked said) = said
said_last (rise.Renewed entries said) = said

-- one call served it; or its history was found full, a second call was to hand out the entries, and a third served it
abbrev pub Rises : Front Note Limits → Front Note Limits → Rise → Type 0
Rises f g (rise.Asked said) = ComesUp f g said × (is_history_full said ≡ false)
Rises f g (rise.Renewed entries said) =
    (full : Front Note Limits) × (mid : Front Note Limits) × ComesUp f full (Err (ups.Refused refusal.HistoryFull))
    × Turns (λ (es : Vec Entry Global). es.items) full mid 1 entries × ComesUp mid g said
