-- What the calls of a tap let its caller know.
use Rattle.std.proofs.Common.{◌≡◌, ℕ, Bool, true, false, Option, Some, None, List, [], ◌∷◌, ◌++◌, Result, Ok, Err, refl, sym, ◌∙◌, ap, subst, inl, inr}
use Rattle.std.proofs.lemmas.List.{append-nil}
use Rattle.std.proofs.lemmas.List.Elements.{filter_map-append}
use Rattle.smx_pdu.specs.declared.pdu.Pdu.{Pdu}
use Rattle.smx_lock.specs.Fronts.{Front, IsSpent}
use Rattle.smx_lock.specs.declared.faults.Spent as spent
use Rattle.smx_history.specs.declared.limits.Limits.{Limits}
use Rattle.smx_history.specs.declared.note.Note.{Note}
use Rattle.smx_history.specs.declared.reply.Answered.{Answered}
use Rattle.smx_history.specs.declared.reply.Answered.TheVariants as answered
use Rattle.smx_lane.specs.declared.sent.Sent.{Sent}
use Rattle.smx_shared.specs.declared.fault.TakeFault as take_fault
use Rattle.smx_shared.specs.declared.fault.TakeFault.TheVariants as takes
use Rattle.smx_shared.specs.declared.fault.TryTakeFault as try_fault
use Rattle.smx_shared.specs.declared.fault.TryTakeFault.TheVariants as tries
use Rattle.smx_lane.specs.declared.call.Call.{Call}
use Rattle.smx_lane.specs.declared.call.Call.TheVariants as call
use Rattle.smx_lane.specs.declared.call.Reply.{Reply}
use Rattle.smx_lane.specs.declared.call.Reply.TheVariants as reply
use Rattle.std.specs.Global.{Vec}
use Rattle.smx_shared.specs.declared.fault.TurnFault as turn_fault
use Rattle.smx_shared.specs.declared.fault.TurnFault.TheVariants as turns
use Rattle.smx_history.specs.declared.reply.Failed.{Failed}
use Rattle.smx_shared.specs.declared.fault.DownFault as down_fault
use Rattle.smx_shared.specs.declared.fault.DownFault.TheVariants as downs
use Rattle.smx_shared.specs.declared.fault.FailFault as fail_fault
use Rattle.smx_shared.specs.declared.fault.FailFault.TheVariants as fails
use Rattle.smx_shared.specs.declared.fault.ExpiryFault as expiry_fault
use Rattle.smx_shared.specs.declared.fault.ExpiryFault.TheVariants as expires
use Rattle.smx_shared.specs.declared.fault.UpFault as up_fault
use Rattle.smx_shared.specs.declared.fault.UpFault.TheVariants as ups
use Rattle.smx_shared.specs.Roomy.{finds_full, shifts_where}
use Rattle.smx_shared.specs.Serving.{OneHold, CallServes, Takes, TriesTake, Brings, Turns, TurnServes, StaysServes, GoesDown, Fails, Expires, ComesUp}
use Rattle.std.specs.Option.{option_map}
use Rattle.smx_history.specs.declared.entry.Entry.{Entry}
use Rattle.smx_shared.specs.Taps.{CameLate, Queued, known_from, known_of, known_by_take, known_by_answer}

more : (f g : Front Note Limits) (ns : List Note) → g.mine ≡ f.mine ++ ns → known_of g.mine ≡ known_of f.mine ++ known_of ns
more f g ns mine = ap known_of mine ∙ filter_map-append (λ n. known_from n.event) f.mine ns

same : (f g : Front Note Limits) → g.mine ≡ f.mine → known_of g.mine ≡ known_of f.mine ++ []
same f g mine = ap known_of mine ∙ sym (append-nil (known_of f.mine))

spent_same : (f g : Front Note Limits) → IsSpent f g → known_of g.mine ≡ known_of f.mine ++ []
spent_same f g s = elim s [
  | inl e ↦ same f g (ap (λ z. z.mine) e)
  | inr e ↦ same f g (ap (λ z. z.mine) e)
]

-- a shift is no note of a request
shifts_known : (b : Bool) (by : ℕ) (ns : List Note) → known_of (shifts_where b by ++ ns) ≡ known_of ns
shifts_known true by ns = refl
shifts_known false by ns = refl

-- what a call noted is known
called : (f g : Front Note Limits) (c : Call) (r : Reply) (ns : List Note) → (h : CallServes f g c r) → h.own ≡ ns → known_of g.mine ≡ known_of f.mine ++ known_of ns
called f g c r ns h is =
    let full = finds_full h.old c in
    more f g (shifts_where full f.number ++ ns) (h.hold.serves.mine ∙ ap (λ own. f.mine ++ (shifts_where full f.number ++ own)) is) ∙ ap (λ k. known_of f.mine ++ k) (shifts_known full f.number ns)

pub takes_known : (f g : Front Note Limits) (now : ℕ) (r : Result Sent take_fault.TakeFault) → Takes f g now r → known_of g.mine ≡ known_of f.mine ++ known_by_take r
takes_known f g now (Ok sent) h = called f g _ _ _ h h.told.2
takes_known f g now (Err (takes.Refused e)) h = called f g _ _ [] h h.told.1.0
takes_known f g now (Err takes.Spent) h = spent_same f g h

pub tries_known : (f g : Front Note Limits) (now : ℕ) (r : Result Sent try_fault.TryTakeFault) → TriesTake f g now r → known_of g.mine ≡ known_of f.mine ++ known_by_take r
tries_known f g now (Ok sent) h = called f g _ _ _ h h.told.2
tries_known f g now (Err (tries.Refused e)) h = called f g _ _ [] h h.told.1.0
tries_known f g now (Err tries.Spent) h = spent_same f g h
tries_known f g now (Err tries.Busy) h = same f g (ap (λ z. z.mine) h.0)

pub answers_known : (f g : Front Note Limits) (p : Pdu) (r : Result Answered (Pdu × spent.Spent)) → Brings f g p r
    → known_of g.mine ≡ known_of f.mine ++ known_by_answer p r
answers_known f g p (Ok (answered.Queued c)) h = called f g _ _ _ h h.told.4 ∙ ap (λ x. known_of f.mine ++ Queued x p ∷ []) h.told.2
answers_known f g p (Ok (answered.Late c)) h = called f g _ _ _ h h.told.4 ∙ ap (λ x. known_of f.mine ++ CameLate x p.number p.command ∷ []) h.told.2
answers_known f g p (Ok (answered.Unknown back)) h = called f g _ _ [] h h.told.2.0
answers_known f g p (Err e) h = spent_same f g h.1

-- what is noted of the link, and of a request that is given up, is none of these
told_nothing : (f g : Front Note Limits) (c : Call) (r : Reply) (ns : List Note) → known_of ns ≡ [] → (h : CallServes f g c r) → h.own ≡ ns → known_of g.mine ≡ known_of f.mine
told_nothing f g c r ns none h is = called f g c r ns h is ∙ ap (λ k. known_of f.mine ++ k) none ∙ append-nil (known_of f.mine)

spent_nothing : (f g : Front Note Limits) → IsSpent f g → known_of g.mine ≡ known_of f.mine
spent_nothing f g s = spent_same f g s ∙ append-nil (known_of f.mine)

pub down_known : (f g : Front Note Limits) (r : Result (Unit {0}) down_fault.DownFault) → GoesDown f g r → known_of g.mine ≡ known_of f.mine
down_known f g (Ok done) h = told_nothing f g _ _ _ refl h h.told.1
down_known f g (Err (downs.Refused e)) h = told_nothing f g _ _ [] refl h h.told.1.0
down_known f g (Err downs.Spent) h = spent_nothing f g h

pub fail_known : (f g : Front Note Limits) (r : Result Failed fail_fault.FailFault) → Fails f g r → known_of g.mine ≡ known_of f.mine
fail_known f g (Ok r) h = told_nothing f g _ _ _ refl h h.told.4
fail_known f g (Err (fails.Refused e)) h = told_nothing f g _ _ [] refl h h.told.1.0
fail_known f g (Err fails.Spent) h = spent_nothing f g h

pub expiry_known : (f g : Front Note Limits) (now age : ℕ) (r : Result Failed expiry_fault.ExpiryFault) → Expires f g now age r → known_of g.mine ≡ known_of f.mine
expiry_known f g now age (Ok r) h = told_nothing f g _ _ _ refl h h.told.3
expiry_known f g now age (Err (expires.Refused e)) h = told_nothing f g _ _ [] refl h h.told.1.0
expiry_known f g now age (Err expires.Spent) h = spent_nothing f g h

pub up_known : (f g : Front Note Limits) (r : Result (Unit {0}) up_fault.UpFault) → ComesUp f g r → known_of g.mine ≡ known_of f.mine
up_known f g (Ok done) h = told_nothing f g _ _ _ refl h h.told.1
up_known f g (Err (ups.Refused e)) h = told_nothing f g _ _ [] refl h h.told.1.0
up_known f g (Err ups.Spent) h = spent_nothing f g h

-- a shift is no note of a request
turned_known : (f g : Front Note Limits) (least : ℕ) (list : Option (List Entry)) → TurnServes f g least list → known_of g.mine ≡ known_of f.mine
turned_known f g least (Some es) h = more f g _ h.2.serves.mine ∙ append-nil (known_of f.mine)
turned_known f g least None h = more f g [] h.2.serves.mine ∙ append-nil (known_of f.mine)

pub turn_known : (f g : Front Note Limits) (least : ℕ) (r : Result (Option (Vec Entry)) turn_fault.TurnFault) → Turns (λ es. es.items) f g least r → known_of g.mine ≡ known_of f.mine
turn_known f g least (Ok list) h = turned_known f g least (option_map (λ es. es.items) list) h
turn_known f g least (Err turns.NoMemory) h = more f g [] h.2.serves.mine ∙ append-nil (known_of f.mine)
turn_known f g least (Err turns.Spent) h = spent_same f g h ∙ append-nil (known_of f.mine)

-- what a turn over of the lane says of what is stored
pub turns_of : (f g : Front Note Limits) (least : ℕ) (list : Option (Vec Entry)) → CallServes f g (call.TurnOver f.number least) (reply.TurnedOver (Ok list))
    → TurnServes f g least (option_map (λ es. es.items) list)
turns_of f g least (Some es) h = (h.found, h.old, subst (λ own. OneHold f g h.found own h.old) h.told.1 h.hold, h.told.0.0, h.told.0.1 ∙ h.hold.agrees.after.entries)
turns_of f g least None h = (h.found, h.old, subst (λ own. OneHold f g h.found own h.old) h.told.1 h.hold, h.told.0.0)

pub stays_of : (f g : Front Note Limits) (least : ℕ) (e : _) → CallServes f g (call.TurnOver f.number least) (reply.TurnedOver (Err e)) → StaysServes f g
stays_of f g least e h = (h.found, h.old, subst (λ own. OneHold f g h.found own h.old) h.told.0 h.hold)
