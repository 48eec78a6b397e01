-- How a turn of a client's worker begins and ends.
use Rattle.std.proofs.Common.{◌≡◌, ◌≢◌, ℕ, Bool, List, [], ◌∷◌, ◌++◌, sym, ◌∙◌, ap, refl, subst, Result, Ok, Err, Option, OnOk}
use Rattle.smx_pdu.specs.declared.pdu.Pdu.{Pdu}
use Rattle.smx_turns.specs.declared.end.Fault.{Fault}
use Rattle.smx_turns.specs.declared.end.Fault.TheVariants as fault
use Rattle.smx_turns.specs.declared.end.TurnEnd.{TurnEnd}
use Rattle.smx_turns.specs.declared.end.TurnEnd.TheVariants.{Worked, Filled, Idle, Done}
use Rattle.smx_turns.specs.declared.mark.Mark.{Mark}
use Rattle.smx_turns.specs.declared.mark.Mark.TheVariants.{Offered, WriteFailed, Waited, NoRoom, Part, Entered, Full as Clogs}
use Rattle.smx_turns.specs.declared.step.Step.TheVariants.{Asked, Read, Marked, Did}
use Rattle.smx_turns.specs.Runs.{Runs}
use Rattle.smx_turns.specs.Scenes.{Scene, Marks}
use Rattle.smx_turns.specs.Steps.{are_quiet, phase_from}
use Rattle.smx_turns.proofs.Filters.{all_offers}
use Rattle.smx_client.specs.declared.stage.Stage.{Stage}
use Rattle.smx_client.specs.declared.event.Event.{Event}
use Rattle.smx_client.specs.declared.reply.Parked.{Parked}
use Rattle.smx_client.specs.Events.{worth, is_quiet_event}
use Rattle.smx_client.specs.Parts.{Parts, Does}
use Rattle.smx_client.specs.Table.{Before, Phase, Opening, Wrong, step_of, go, from_opening, phase_of, IsTurn, Stands}
use Rattle.smx_client.specs.Turns.{May, Changes}

pub stays_wrong : (t : Before) (ss : List step_of) → phase_from (go t) Wrong ss ≡ Wrong
unfolding go
stays_wrong t [] = refl
stays_wrong t (s ∷ ss) = stays_wrong t ss

module _ (n : ℕ) where
  offers_first : (t : Before) (a b : Scene Parts Event) (m : Mark) (c : Scene Parts Event) (ss : List step_of) → phase_from (go t) (go t Opening (Marked m)) ss ≢ Wrong → Marks a m c → Changes n c ss b
      → (more : List ℕ) × (b.offered ≡ a.offered ++ a.unsent ++ more)
  unfolding go from_opening
  offers_first t a b (Offered waited wrote left) c ss right h r =
      let rest = all_offers Does worth May n c b ss r in (rest.0, rest.1 ∙ ap (λ l. l ++ rest.0) (ap (λ o. o.offered) h.same))
  offers_first t a b WriteFailed c ss right h r =
      let rest = all_offers Does worth May n c b ss r in (rest.0, rest.1 ∙ ap (λ l. l ++ rest.0) (ap (λ o. o.offered) h))
  offers_first t a b Waited c ss right h r = absurd (right (stays_wrong t ss))
  offers_first t a b Clogs c ss right h r = absurd (right (stays_wrong t ss))
  offers_first t a b NoRoom c ss right h r = absurd (right (stays_wrong t ss))
  offers_first t a b Part c ss right h r = absurd (right (stays_wrong t ss))
  offers_first t a b (Entered account whole) c ss right h r = absurd (right (stays_wrong t ss))

  -- what waits is offered before anything else
  pub offered_first : (t : Before) (a b : Scene Parts Event) (ss : List step_of) → phase_of t ss ≢ Opening → phase_of t ss ≢ Wrong → Changes n a ss b
      → (more : List ℕ) × (b.offered ≡ a.offered ++ a.unsent ++ more)
  unfolding phase_of go from_opening Runs
  offered_first t a b [] begun right r = absurd (begun refl)
  offered_first t a b (Marked m ∷ ss) begun right r = offers_first t a b m r.0 ss right r.1.1 r.2
  offered_first t a b (Asked p x ∷ ss) begun right r = absurd (right (stays_wrong t ss))
  offered_first t a b (Read answer ∷ ss) begun right r = absurd (right (stays_wrong t ss))
  offered_first t a b (Did e ∷ ss) begun right r = absurd (right (stays_wrong t ss))

ends_past : (r : Result TurnEnd Fault) (quiet : Bool) → (IsTurn r quiet Opening → ⊥) × (IsTurn r quiet Wrong → ⊥)
ends_past (Ok Done) quiet = (λ e. e, λ e. e)
ends_past (Ok Filled) quiet = (λ e. e, λ e. e)
ends_past (Ok Idle) quiet = (λ e. e, λ e. e)
ends_past (Ok Worked) quiet = (λ e. e, λ e. e)
ends_past (Err fault.Link) quiet = (λ e. absurd (cc), λ e. absurd (cc))
ends_past (Err fault.Spent) quiet = (λ e. absurd (cc), λ e. absurd (cc))
ends_past (Err fault.NoMemory) quiet = (λ e. e, λ e. e)

pub is_begun : (r : Result TurnEnd Fault) (quiet : Bool) (p : Phase) → IsTurn r quiet p → p ≢ Opening
is_begun r quiet p h e = (ends_past r quiet).0 (subst (IsTurn r quiet) e h)

pub is_right : (r : Result TurnEnd Fault) (quiet : Bool) (p : Phase) → IsTurn r quiet p → p ≢ Wrong
is_right r quiet p h e = (ends_past r quiet).1 (subst (IsTurn r quiet) e h)

-- of the same steps
pub ends_as : (t : Before) (r : Result TurnEnd Fault) (ss ss' : List step_of) → ss' ≡ ss
    → IsTurn r (are_quiet is_quiet_event ss) (phase_of t ss) → IsTurn r (are_quiet is_quiet_event ss') (phase_of t ss')
ends_as t r ss ss' same h = subst (λ l. IsTurn r (are_quiet is_quiet_event l) (phase_of t l)) (sym same) h

pub stands_as : (t : Before) (r : Result TurnEnd Fault) (ss ss' : List step_of) (u rest : List ℕ) (held : Option Pdu) (parked : Option Parked) (settled : Bool) (stage : Stage) → ss' ≡ ss
    → OnOk r (Stands (phase_of t ss) u rest held parked settled stage) → OnOk r (Stands (phase_of t ss') u rest held parked settled stage)
stands_as t r ss ss' u rest held parked settled stage same h = subst (λ l. OnOk r (Stands (phase_of t l) u rest held parked settled stage)) (sym same) h
