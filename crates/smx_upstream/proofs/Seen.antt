-- What the calls of a tap add to its own notes and to what it has seen.
use Rattle.std.proofs.Common.{◌≡◌, ℕ, List, [], ◌++◌, sym, ap, ◌∙◌, append_assoc, Option, Some, None, Result, Ok, Err, ⊎_elim}
use mathlib.Core.List.{IsPrefix}
use Rattle.std.proofs.lemmas.List.{append-nil}
use Rattle.smx_lock.specs.Fronts.{Front, Serves, IsSpent}
use Rattle.smx_history.specs.declared.limits.Limits.{Limits}
use Rattle.smx_history.specs.declared.note.Note.{Note}
use Rattle.smx_lane.specs.Kept.{writer}
use Rattle.smx_pdu.specs.declared.pdu.Pdu.{Pdu}
use Rattle.smx_lane.specs.declared.sent.Sent.{Sent}
use Rattle.smx_lane.specs.declared.settled.Settled.{Settled}
use Rattle.smx_shared.specs.declared.fault.TakeFault.{TakeFault}
use Rattle.smx_shared.specs.declared.fault.TakeFault.TheVariants as takes
use Rattle.std.specs.declared.vec.Vec.{Vec}
use Rattle.std.specs.declared.alloc.Global.{Global}
use Rattle.smx_history.specs.declared.entry.Entry.{Entry}
use Rattle.smx_shared.specs.declared.fault.TurnFault.{TurnFault}
use Rattle.smx_shared.specs.declared.fault.TurnFault.TheVariants as turns
use Rattle.smx_shared.specs.declared.fault.UpFault.{UpFault}
use Rattle.smx_history.specs.declared.reply.UpRefusal.TheVariants as refusal
use Rattle.smx_shared.specs.declared.fault.UpFault.TheVariants as ups
use Rattle.smx_lock.specs.declared.faults.Spent.{Spent}
use Rattle.smx_shared.specs.declared.batch.Takings.{Takings}
use Rattle.smx_shared.specs.Batches.{TakesAll, BringsAll}
use Rattle.smx_shared.specs.Serving.{Takes, ComesUp, Turns}
use Rattle.smx_shared.specs.Taps.{known_of}
use Rattle.smx_shared.proofs.Knowing.{turn_known, up_known}
use Rattle.smx_upstream.specs.declared.event.Rise.{Rise}
use Rattle.smx_upstream.specs.declared.event.Rise.TheVariants as rise
use Rattle.smx_upstream.specs.Rising.{Rises}
use Rattle.smx_upstream.specs.Standing.{Shifts}

pub nothing : {A : Type 0} (xs ys : List A) → ys ≡ xs → ys ≡ xs ++ []
nothing xs ys e = e ∙ sym (append-nil xs)

pub rise_note : (f g : Front Note Limits) (x : Rise) → Rises f g x → known_of g.mine ≡ known_of f.mine
rise_note f g (rise.Asked said) h = up_known f g said h.0
rise_note f g (rise.Renewed es said) h = up_known h.1 g said h.4 ∙ turn_known h.0 h.1 1 es h.3 ∙ up_known f h.0 (Err (ups.Refused refusal.HistoryFull)) h.2

-- the tap's seen
pub self : {A : Type 0} (xs ys : List A) → ys ≡ xs → IsPrefix xs ys
self xs ys e = ([], append-nil xs ∙ sym e)

pub longer : {A : Type 0} (xs ys zs : List A) → IsPrefix xs ys → IsPrefix ys zs → IsPrefix xs zs
longer xs ys zs p q = (p.0 ++ q.0, sym (append_assoc xs p.0 q.0) ∙ ap (λ w. w ++ q.0) p.1 ∙ q.1)

pub served_seen : (f g : Front Note Limits) (found new : List Note) → Serves writer f g found new → IsPrefix f.seen g.seen
served_seen f g found new h = longer f.seen found g.seen h.begins (new, sym h.seen)

pub spent_seen : (f g : Front Note Limits) → IsSpent f g → IsPrefix f.seen g.seen
spent_seen f g h = self _ _ (⊎_elim (λ e. ap (λ x. x.seen) e) (λ e. ap (λ x. x.seen) e) h)

pub take_seen : (f g : Front Note Limits) (now : ℕ) (r : Result Sent TakeFault) → Takes f g now r → IsPrefix f.seen g.seen
take_seen f g now (Ok sent) h = served_seen f g h.found h.own h.hold.serves
take_seen f g now (Err (takes.Refused e)) h = served_seen f g h.found h.own h.hold.serves
take_seen f g now (Err takes.Spent) h = spent_seen f g h

pub list_seen : (f g : Front Note Limits) (now : ℕ) (r : Result Takings Spent) → TakesAll f g now r → IsPrefix f.seen g.seen
list_seen f g now (Ok b) h = served_seen f g h.serves.found h.serves.own h.serves.hold.serves
list_seen f g now (Err e) h = spent_seen f g h

pub brought_seen : (f g : Front Note Limits) (ps : List Pdu) (r : Result (Vec Settled Global) (Vec Pdu Global × Spent)) → BringsAll f g ps r → IsPrefix f.seen g.seen
brought_seen f g ps (Ok ss) h = served_seen f g h.serves.found h.serves.own h.serves.hold.serves
brought_seen f g ps (Err e) h = spent_seen f g h.1

pub shift_seen : (f g : Front Note Limits) (least : ℕ) (r : Result (Option (Vec Entry Global)) TurnFault)
    → Shifts f g least r → IsPrefix f.seen g.seen
shift_seen f g least (Ok None) h = served_seen f g _ _ h.2.serves
shift_seen f g least (Ok (Some es)) h = served_seen f g _ _ h.2.serves
shift_seen f g least (Err turns.Spent) h = spent_seen f g h
shift_seen f g least (Err turns.NoMemory) h = served_seen f g _ _ h.2.serves

up_seen : (f g : Front Note Limits) (r : Result (Unit {0}) UpFault) → ComesUp f g r → IsPrefix f.seen g.seen
up_seen f g (Ok done) h = served_seen f g h.found h.own h.hold.serves
up_seen f g (Err (ups.Refused e)) h = served_seen f g h.found h.own h.hold.serves
up_seen f g (Err ups.Spent) h = spent_seen f g h

turned_seen : (f g : Front Note Limits) (least : ℕ) (r : Result (Option (Vec Entry Global)) TurnFault) → Turns (λ (es : Vec Entry Global). es.items) f g least r → IsPrefix f.seen g.seen
turned_seen f g least (Ok o) h = shift_seen f g least (Ok o) h
turned_seen f g least (Err e) h = shift_seen f g least (Err e) h

pub rise_seen : (f g : Front Note Limits) (x : Rise) → Rises f g x → IsPrefix f.seen g.seen
rise_seen f g (rise.Asked said) h = up_seen f g said h.0
rise_seen f g (rise.Renewed es said) h = longer _ _ _ (up_seen f h.0 (Err (ups.Refused refusal.HistoryFull)) h.2) (longer _ _ _ (turned_seen h.0 h.1 1 es h.3) (up_seen h.1 g said h.4))
