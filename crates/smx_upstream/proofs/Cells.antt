-- The turn's table, cell by cell.
use Rattle.std.proofs.Common.{◌≡◌, ◌≢◌, ◌↔◌, ℕ, List, [], ◌∷◌, ◌++◌, Bool, true, false, not, Option, Some, None, is_some, Result, Ok, Err, IsErr, IsErrAnd, IsTrue, if◌then◌else◌, sym, ◌∙◌, ap, refl, subst, true≢false}
use Rattle.std.proofs.lemmas.Bool.{eq-eqb}
use Rattle.std.specs.Result.{is_err}
use Rattle.smx_pdu.specs.declared.pdu.Pdu.{Pdu}
use Rattle.smx_link.specs.declared.link.Polled.{Polled}
use Rattle.smx_link.specs.declared.link.Polled.TheVariants.{Octets, Nothing, End}
use Rattle.smx_link.specs.declared.link.LinkFault.{LinkFault}
use Rattle.smx_turns.specs.declared.gate.Point.TheVariants.{Reading, Taking}
use Rattle.smx_turns.specs.declared.end.TurnEnd.{TurnEnd}
use Rattle.smx_turns.specs.declared.end.TurnEnd.TheVariants.{Worked, Idle, Done}
use Rattle.smx_turns.specs.declared.end.Fault.{Fault}
use Rattle.smx_turns.specs.declared.end.Fault.TheVariants as fault
use Rattle.smx_turns.specs.declared.step.Step.{Step}
use Rattle.smx_turns.specs.declared.step.Step.TheVariants.{Asked, Read, Marked, Did}
use Rattle.smx_turns.specs.Rounds.{last_end}
use Rattle.smx_turns.specs.Wires.{some_wait}
use Rattle.smx_turns.proofs.Logged.{phase_push}
use Rattle.smx_turns.proofs.Wires.{clear_so}
use Rattle.smx_turns.specs.declared.mark.Mark.TheVariants.{Offered, WriteFailed, Full, Part}
use Rattle.smx_upstream.specs.declared.event.Event.{Event}
use Rattle.smx_upstream.specs.declared.event.Event.TheVariants.{Opened, Looked, Judged, Expired, Shifted, Sought, Decided, Brought, Took, Broke, LinkEnded}
use Rattle.smx_upstream.specs.declared.event.Span.{Span}
use Rattle.smx_upstream.specs.declared.event.Span.TheVariants.{Once, Twice}
use Rattle.smx_upstream.specs.declared.event.Fate.{Fate}
use Rattle.smx_upstream.specs.Events.{kept_by, fate_worth, event_ends, fills, is_spent_expiry, is_spent_shift, may_give_more}
use Rattle.smx_upstream.specs.Phases.{Phase, Before, Opening, Ready, Written, Clogged, Watched, Clear, CaughtUp, Sweeping, Brimming, MayRead, Failed, Deciding, Closing, Settled, MayTake, HasTried, Stopped, Refrained, Gone, Drained, Wrong, go, from_opening, from_ready, from_written, from_watched, from_sweeping, from_caught_up, from_clear, from_may_read, from_deciding, from_closing, from_settled, from_may_take, phase_of, unless_spent, at_moment, if_so, after_offer, unless_left, when_looked, when_kept, when_judged, when_decided, when_part, when_full, when_read, when_may_read, when_may_take, when_taken, quiet_end, Waits, IsOver, IsTurnEnd, IsTurn, EndsEarly, IsPart, LeadsTo, Faulted, MayWant, Source, Emptied, Ebbed, from_emptied, from_ebbed, going_on, when_filled, source_of, has_end, when_progress, when_halted, filled_or, IsCourse, is_all_decided}
use Rattle.smx_upstream.specs.Phases.Source.{Earlier}
use Rattle.smx_upstream.specs.declared.turning.Course.{Course}
use Rattle.smx_upstream.specs.declared.deciding.Progress.{Progress}
use Rattle.smx_upstream.specs.declared.deciding.Progress.TheVariants as progress

pub phase_none : (t : Before) (ss : List (Step Event)) → ss ≡ [] → phase_of t ss ≡ t.start
unfolding phase_of
phase_none t ss none = ap (phase_of t) none

-- one step more leads from one phase to the next
pub stepped : (t : Before) (ss ss' : List (Step Event)) (s : Step Event) (p q : Phase) → ss' ≡ ss ++ s ∷ [] → go t p s ≡ q → phase_of t ss ≡ p → phase_of t ss' ≡ q
unfolding phase_of
stepped t ss ss' s p q grown cell was = phase_push (go t) t.start ss ss' s p q grown cell was

itself : (b : Bool) (p : Phase) → if_so b b p ≡ p
itself true p = refl
itself false p = refl

-- whether octets wait is said so
pub said_so : (b clear : Bool) (unsent : List ℕ) (p : Phase) → b ≡ some_wait unsent → (IsTrue clear ↔ (unsent ≡ [])) → if_so (not clear) b p ≡ p
said_so b clear unsent p is tells = ap (λ x. if_so (not clear) x p) (is ∙ sym (clear_so clear unsent tells)) ∙ itself (not clear) p

pub at_its_moment : (t : Before) (now : ℕ) (p : Phase) → t.now ≡ now → at_moment t now p ≡ p
at_its_moment t now p same = ap (λ b. if b then p else Wrong) (eq-eqb now t.now (sym same))

pub cell_offered : (t : Before) (waited wrote left : Bool) → go t Ready (Marked (Offered waited wrote left)) ≡ if_so waited t.waited (after_offer t.ending left)
unfolding go from_ready
cell_offered t waited wrote left = refl

pub cell_closed : (t : Before) (waited wrote left : Bool) → go t Closing (Marked (Offered waited wrote left)) ≡ unless_left left
unfolding go from_closing
cell_closed t waited wrote left = refl

pub cell_unwritten : (t : Before) → go t Ready (Marked WriteFailed) ≡ Failed
unfolding go from_ready
cell_unwritten t = refl

pub cell_unclosed : (t : Before) → go t Closing (Marked WriteFailed) ≡ Failed
unfolding go from_closing
cell_unclosed t = refl

pub cell_looked : (t : Before) (left : Bool) (now : _) (due : _) (silent : Bool) → go t (Written left) (Did (Looked now due left silent)) ≡ at_moment t now (when_looked left silent)
unfolding go from_written
cell_looked t left now due silent = ap (at_moment t now) (itself left (when_looked left silent))

pub cell_opened : (t : Before) (n : _) → go t Opening (Did (Opened n)) ≡ Ready
unfolding go from_opening
cell_opened t n = refl

pub cell_expired : (t : Before) (span : Span) (p : Phase) (lane : _) (r : _) → go t (Sweeping span p) (Did (Expired lane span r)) ≡ unless_spent (is_spent_expiry r.value) p
unfolding go from_sweeping
cell_expired t Once p lane r = refl
cell_expired t Twice p lane r = refl

pub cell_judged : (t : Before) (silent : Bool) → go t CaughtUp (Did (Judged silent)) ≡ when_judged silent
unfolding go from_caught_up
cell_judged t silent = refl

-- where too many octets wait, and the link goes on
pub full_of : (o : Option Polled) → has_end o ≡ false → when_full (source_of o) ≡ Sweeping Twice Brimming
full_of None h = refl
full_of (Some End) h = absurd (true≢false h)
full_of (Some Nothing) h = refl
full_of (Some (Octets n)) h = refl

-- where a message filled a box
pub filled_of : (o : Option Polled) → has_end o ≡ false → when_filled (source_of o) ≡ Sweeping Twice (Settled true)
filled_of None h = refl
filled_of (Some End) h = absurd (true≢false h)
filled_of (Some Nothing) h = refl
filled_of (Some (Octets n)) h = refl

-- what is left of an ended link is decided whole
pub ended_of : (o : Option Polled) → has_end o ≡ true → when_filled (source_of o) ≡ Deciding (source_of o)
ended_of None h = absurd (true≢false (sym h))
ended_of (Some End) h = refl
ended_of (Some Nothing) h = absurd (true≢false (sym h))
ended_of (Some (Octets n)) h = absurd (true≢false (sym h))

pub more_of : (o : Option Polled) → going_on (source_of o) ≡ source_of o
more_of None = refl
more_of (Some polled) = refl

-- behind a read as behind what an earlier turn left, but where no whole PDU is left
pub halts : (o : Option Polled) (p : Progress) → p ≢ progress.Part → (p ≡ progress.Filled → has_end o ≡ false) → (p ≡ progress.Brimming → has_end o ≡ false)
    → when_progress (source_of o) p ≡ when_progress (Earlier true) p
halts o progress.Part other f b = absurd (other refl)
halts o progress.Filled other f b = filled_of o (f refl)
halts o progress.Brimming other f b = full_of o (b refl)
halts o progress.Over other f b = refl

pub swept_as : (p : Progress) → p ≢ progress.Over → when_progress (Earlier true) p ≡ Sweeping Twice (when_halted p)
swept_as progress.Part other = refl
swept_as progress.Filled other = refl
swept_as progress.Brimming other = refl
swept_as progress.Over other = absurd (other refl)

pub cell_shifted : (t : Before) (left : Bool) (least : _) (r : _) → go t (Watched left) (Did (Shifted least r)) ≡ unless_spent (is_spent_shift r.value) (when_kept left)
unfolding go from_watched
cell_shifted t left least r = refl

pub cell_sought : (t : Before) (r : _) (under : _) → go t Clear (Did (Sought r under)) ≡ unless_spent (is_err r.value) (Deciding (Earlier false))
unfolding go from_clear
cell_sought t r under = refl

pub cell_reading : (t : Before) (answer : Bool) → go t Emptied (Asked Reading answer) ≡ when_may_read answer
unfolding go from_emptied
cell_reading t answer = refl

pub cell_read : (t : Before) (r : Result Polled LinkFault) → go t MayRead (Read r) ≡ when_read r
unfolding go from_may_read
cell_read t r = refl

pub cell_decided : (t : Before) (s : Source) (p : _) (now : _) (a : _) (f : _) → go t (Deciding s) (Did (Decided p now a f)) ≡ at_moment t now (unless_spent (fate_worth p.value f).spent (when_decided s (event_ends (Decided p now a f)) (fills f)))
unfolding go from_deciding
cell_decided t s p now a f = refl

pub cell_brought : (t : Before) (s : Source) (ps : _) (now lane : _) (r : _) → go t (Deciding s) (Did (Brought ps now lane r)) ≡ at_moment t now (unless_spent (is_err r.value) (Deciding (going_on s)))
unfolding go from_deciding
cell_brought t s ps now lane r = refl

pub cell_broke : (t : Before) (s : Source) → go t (Deciding s) (Did Broke) ≡ Closing
unfolding go from_deciding
cell_broke t s = refl

pub cell_part : (t : Before) (s : Source) → go t (Deciding s) (Marked Part) ≡ when_part s
unfolding go from_deciding
cell_part t s = refl

pub cell_brim : (t : Before) (s : Source) → go t (Deciding s) (Marked Full) ≡ when_full s
unfolding go from_deciding
cell_brim t s = refl

pub cell_ebbed : (t : Before) → go t Ebbed (Did LinkEnded) ≡ Drained
unfolding go from_ebbed
cell_ebbed t = refl

pub cell_taking : (t : Before) (full answer : Bool) → go t (Settled full) (Asked Taking answer) ≡ when_may_take full answer
unfolding go from_settled
cell_taking t full answer = refl

pub cell_took : (t : Before) (full more : Bool) (r : _) → go t (MayTake full more) (Did (Took r)) ≡ unless_spent (is_err r.value) (when_taken full (may_give_more r.value))
unfolding go from_may_take
cell_took t full more r = refl

-- a PDU waits just after an answer that is spent
pub kept_spent : (p : Pdu) (f : Fate) → (fate_worth p f).spent ≡ is_some (kept_by p f)
kept_spent p f = by_spent (fate_worth p f).spent
  where
    by_spent : (b : Bool) → b ≡ is_some (if b then Some p else None)
    by_spent true = refl
    by_spent false = refl

abbrev pub fault_or : {A : Type 0} → Result A Fault → Fault
fault_or (Ok x) = fault.NoMemory
fault_or (Err e) = e

-- where memory is wanted
pub wanted : {A : Type 0} (r : Result A Fault) (e : Fault) (p q : Phase) → r ≡ Err fault.NoMemory → fault_or r ≡ e → p ≡ q → MayWant q → Faulted e p
wanted r e p q is this same w = subst (λ (x : Fault). Faulted x p) (sym (ap fault_or is) ∙ this) (subst (λ (x : Phase). MayWant x) (sym same) w)

-- where a fault stands
pub faulted_as : (e : Fault) (p q : Phase) → p ≡ q → Faulted e q → Faulted e p
faulted_as e p q same f = subst (λ (x : Phase). Faulted e x) (sym same) f

-- where a part of a turn ends
pub early : (end : TurnEnd) (p q : Phase) → p ≡ q → EndsEarly end q → EndsEarly end p
early end p q same e = subst (λ (x : Phase). EndsEarly end x) (sym same) e

pub ends_clogged : EndsEarly Worked Clogged
ends_clogged = record { allowed = λ bound quiet. tt; early = refl }

pub ends_brimming : EndsEarly Worked Brimming
ends_brimming = record { allowed = λ bound quiet. tt; early = refl }

pub ends_stopped : EndsEarly Idle Stopped
ends_stopped = record { allowed = λ bound quiet. tt; early = refl }

pub ends_gone : EndsEarly Done Gone
ends_gone = record { allowed = λ bound quiet. tt; early = refl }

pub ends_drained : EndsEarly Done Drained
ends_drained = record { allowed = λ bound quiet. tt; early = refl }

pub ends_left : (left : Bool) → EndsEarly (last_end left) (unless_left left)
ends_left true = record { allowed = λ bound quiet. tt; early = refl }
ends_left false = record { allowed = λ bound quiet. tt; early = refl }

pub part_err : (q : Phase) (r : Result (Option TurnEnd) Fault) (e : Fault) (p : Phase) → IsErr r → IsErrAnd r (λ (y : Fault). y ≡ e) → Faulted e p → IsPart q r p
part_err q (Ok end) e p is same f = absurd (true≢false (sym is))
part_err q (Err y) e p is same f = subst (λ (x : Fault). Faulted x p) (sym same) f

pub course_err : (r : Result Course Fault) (e : Fault) (p : Phase) → IsErr r → IsErrAnd r (λ (y : Fault). y ≡ e) → Faulted e p → IsCourse r p
course_err (Ok way) e p is same f = absurd (true≢false (sym is))
course_err (Err y) e p is same f = subst (λ (x : Fault). Faulted x p) (sym same) f

-- what was halted goes on in no other way
pub no_goes : (p : Progress) (full : Bool) → p ≡ progress.Brimming → p ≡ (if full then progress.Filled else progress.Part) → ⊥
no_goes p true brims goes = absurd (cc)
no_goes p false brims goes = absurd (cc)

pub no_goes_over : (p : Progress) (full : Bool) → p ≡ progress.Over → p ≡ (if full then progress.Filled else progress.Part) → ⊥
no_goes_over p true over goes = absurd (cc)
no_goes_over p false over goes = absurd (cc)

pub filled_few : (p : Progress) (full : Bool) (F : Type 0) → p ≢ progress.Part → (p ≡ progress.Filled → F) → p ≡ (if full then progress.Filled else progress.Part) → F
filled_few p true F other so goes = so goes
filled_few p false F other so goes = absurd (other goes)

pub leads_err : {A : Type 0} (next : A → Phase) (r : Result A Fault) (e : Fault) (p : Phase) → IsErr r → IsErrAnd r (λ (y : Fault). y ≡ e) → Faulted e p → LeadsTo r next p
leads_err next (Ok x) e p is same f = absurd (true≢false (sym is))
leads_err next (Err y) e p is same f = subst (λ (x : Fault). Faulted x p) (sym same) f

pub over_at : (bound quiet : Bool) (e : TurnEnd) (p : Phase) → e ≡ Done → IsTurnEnd bound quiet e p → IsOver p
over_at bound quiet e p same h = subst (λ (x : TurnEnd). IsTurnEnd bound quiet x p) same h

pub turn_err : (bound quiet : Bool) (r : Result TurnEnd Fault) (e : Fault) (p : Phase) → IsErr r → IsErrAnd r (λ (y : Fault). y ≡ e) → Faulted e p → IsTurn bound quiet r p
turn_err bound quiet (Ok end) e p is same f = absurd (true≢false (sym is))
turn_err bound quiet (Err y) e p is same f = subst (λ (x : Fault). Faulted x p) (sym same) f

pub waits_as : (p q : Phase) (unsent rest : List ℕ) → p ≡ q → Waits q unsent rest → Waits p unsent rest
waits_as p q unsent rest same w = subst (λ (x : Phase). Waits x unsent rest) (sym same) w

-- no more is left undecided than a message that filled a box left
pub decided_so : (full : Bool) (p q : Phase) → p ≡ q → is_all_decided q ≡ not full → is_all_decided p ≡ true → full ≡ false
decided_so true p q same is all = absurd (true≢false (sym all ∙ ap is_all_decided same ∙ is))
decided_so false p q same is all = refl

-- the ends of a turn that asked for leave to take
refrained_end : (bound quiet full : Bool) → IsTurnEnd bound quiet (filled_or full Idle) (Refrained full)
refrained_end bound quiet true = tt
refrained_end bound quiet false = tt

pub refrained : (bound quiet full : Bool) (end : TurnEnd) (p : Phase) → p ≡ Refrained full → end ≡ filled_or full Idle → IsTurnEnd bound quiet end p
refrained bound quiet full end p same e = subst (λ (x : Phase). IsTurnEnd bound quiet end x) (sym same) (subst (λ (x : TurnEnd). IsTurnEnd bound quiet x (Refrained full)) (sym e) (refrained_end bound quiet full))

unbound_end : (quiet full : Bool) → IsTurnEnd false quiet (filled_or full (quiet_end quiet)) (MayTake full false)
unbound_end quiet true = refl
unbound_end true false = (refl, refl)
unbound_end false false = (refl, refl)

tried_end : (quiet full : Bool) → IsTurnEnd true quiet (filled_or full (quiet_end quiet)) (HasTried full)
tried_end quiet true = refl
tried_end true false = (refl, refl)
tried_end false false = (refl, refl)

pub ends_unbound : (bound quiet full : Bool) (end : TurnEnd) (p : Phase) → p ≡ MayTake full false → bound ≡ false → end ≡ filled_or full (quiet_end quiet) → IsTurnEnd bound quiet end p
ends_unbound bound quiet full end p same b e = subst (λ (x : Phase). IsTurnEnd bound quiet end x) (sym same)
    (subst (λ (x : Bool). IsTurnEnd x quiet end (MayTake full false)) (sym b) (subst (λ (x : TurnEnd). IsTurnEnd false quiet x (MayTake full false)) (sym e) (unbound_end quiet full)))

taken_end : (quiet full : Bool) → IsTurnEnd true quiet (filled_or full Worked) (MayTake full true)
taken_end quiet true = refl
taken_end quiet false = refl

-- the turn ends though the lane may have more to give
pub ends_taken : (bound quiet full : Bool) (end : TurnEnd) (p : Phase) → p ≡ MayTake full true → bound ≡ true → end ≡ filled_or full Worked → IsTurnEnd bound quiet end p
ends_taken bound quiet full end p same b e = subst (λ (x : Phase). IsTurnEnd bound quiet end x) (sym same)
    (subst (λ (x : Bool). IsTurnEnd x quiet end (MayTake full true)) (sym b) (subst (λ (x : TurnEnd). IsTurnEnd true quiet x (MayTake full true)) (sym e) (taken_end quiet full)))

pub ends_tried : (bound quiet full : Bool) (end : TurnEnd) (p : Phase) → p ≡ HasTried full → bound ≡ true → end ≡ filled_or full (quiet_end quiet) → IsTurnEnd bound quiet end p
ends_tried bound quiet full end p same b e = subst (λ (x : Phase). IsTurnEnd bound quiet end x) (sym same)
    (subst (λ (x : Bool). IsTurnEnd x quiet end (HasTried full)) (sym b) (subst (λ (x : TurnEnd). IsTurnEnd true quiet x (HasTried full)) (sym e) (tried_end quiet full)))
