-- What the steps of a turn come to by the turn's table: how often the link failed, and that what waited was offered first.
use Rattle.std.proofs.Common.{◌≡◌, ◌⊎◌, ⊎_elim, inl, inr, ℕ, ◌+◌, ◌==◌, List, [], ◌∷◌, ◌++◌, Bool, true, false, Result, Ok, Err, sym, ◌∙◌, ap, refl, subst, arith}
use mathlib.Core.List.{IsPrefix}
use Rattle.std.proofs.lemmas.List.{append-nil}
use Rattle.smx_link.specs.declared.link.Polled.TheVariants.{Octets, Nothing, End}
use Rattle.smx_link.specs.declared.link.LinkFault.{LinkFault}
use Rattle.smx_turns.specs.declared.end.TurnEnd.{TurnEnd}
use Rattle.smx_turns.specs.declared.end.TurnEnd.TheVariants.{Worked, Filled, Idle, Done}
use Rattle.smx_turns.specs.declared.end.Fault.{Fault}
use Rattle.smx_turns.specs.declared.end.Fault.TheVariants as fault
use Rattle.smx_turns.specs.declared.mark.Mark.TheVariants.{Offered, WriteFailed, Full, Part}
use Rattle.smx_turns.specs.declared.step.Step.{Step}
use Rattle.smx_turns.specs.declared.step.Step.TheVariants.{Read, Marked, Did}
use Rattle.smx_turns.specs.Runs.{Runs}
use Rattle.smx_turns.specs.Scenes.{fault_of, faults}
use Rattle.smx_turns.specs.Steps.{phase_from}
use Rattle.smx_turns.proofs.Filters.{all_offers, all_faults}
use Rattle.smx_upstream.specs.declared.event.Event.{Event}
use Rattle.smx_upstream.specs.declared.event.Event.TheVariants.{Opened, Judged, Expired, Decided, Brought, Broke}
use Rattle.smx_upstream.specs.declared.event.Span.{Span}
use Rattle.smx_upstream.specs.declared.event.Span.TheVariants.{Once, Twice}
use Rattle.smx_upstream.specs.Events.{worth, is_spent, event_ends, fills}
use Rattle.smx_upstream.specs.May.{Scene, May}
use Rattle.smx_upstream.specs.Phases.{Phase, Before, Opening, Ready, Written, Watched, Clear, MayRead, Failed, Deciding, Closing, CaughtUp, Sweeping, Settled, MayTake, Wrong, go, from_opening, from_ready, from_written, from_watched, from_sweeping, from_caught_up, from_clear, from_may_read, from_deciding, from_closing, from_settled, from_may_take, phase_of, when_decided, when_part, when_judged, IsTurn, IsTurnEnd, MayFail, MayWant, link_faults, Source, Emptied, Ebbed, from_emptied, from_ebbed}
use Rattle.smx_upstream.specs.Phases.Source.{Earlier, Behind}
use Rattle.smx_upstream.specs.Standing.{Does}
use Rattle.smx_upstream.specs.Working.{Changes}
use Rattle.smx_upstream.proofs.Judgements.{stays_wrong, never_wrong, fails, Calm, by_spent, by_if, by_so, plain_left, plain_offer, plain_filled, plain_full, plain_opening, plain_written, plain_watched, plain_clear, plain_emptied, plain_ebbed, plain_settled, plain_may_take_from}

-- a step at which the link didn't fail leads nowhere where it did
calm_decided : (s : Source) (b full : Bool) → Calm (when_decided s b full)
calm_decided s true full = refl
calm_decided s false true = (plain_filled s).1
calm_decided s false false = refl

calm_part : (s : Source) → Calm (when_part s)
calm_part (Earlier true) = refl
calm_part (Earlier false) = refl
calm_part (Behind End) = refl
calm_part (Behind Nothing) = refl
calm_part (Behind (Octets n)) = refl

calm_judged : (silent : Bool) → Calm (when_judged silent)
calm_judged true = refl
calm_judged false = refl

calm_ready : (t : Before) (s : Step Event) → fault_of s ≡ 0 → Calm (from_ready t s)
unfolding from_ready
calm_ready t (Marked (Offered waited wrote left)) well = by_so Calm waited t.waited _ refl (plain_offer t.ending left).1
calm_ready t (Marked WriteFailed) well = well
calm_ready t _ well = refl

calm_closing : (s : Step Event) → fault_of s ≡ 0 → Calm (from_closing s)
unfolding from_closing
calm_closing (Marked (Offered waited wrote left)) well = (plain_left left).1
calm_closing (Marked WriteFailed) well = well
calm_closing _ well = refl

calm_may_read : (s : Step Event) → fault_of s ≡ 0 → Calm (from_may_read s)
unfolding from_may_read
calm_may_read (Read (Ok polled)) well = refl
calm_may_read (Read (Err e)) well = well
calm_may_read _ well = refl

calm_deciding : (t : Before) (source : Source) (s : Step Event) → Calm (from_deciding t source s)
unfolding from_deciding
calm_deciding t source (Did (Decided p now a f)) = by_if Calm (now == t.now) _ refl (by_spent Calm (is_spent (Decided p now a f)) _ refl (calm_decided source (event_ends (Decided p now a f)) (fills f)))
calm_deciding t source (Did (Brought ps now lane r)) = by_if Calm (now == t.now) _ refl (by_spent Calm (is_spent (Brought ps now lane r)) _ refl refl)
calm_deciding t source (Did Broke) = refl
calm_deciding t source (Marked Part) = calm_part source
calm_deciding t source (Marked Full) = (plain_full source).1
calm_deciding t source _ = refl

calm_caught_up : (s : Step Event) → Calm (from_caught_up s)
unfolding from_caught_up
calm_caught_up (Did (Judged silent)) = calm_judged silent
calm_caught_up _ = refl

calm_sweeping : (span : Span) (p : Phase) (s : Step Event) → Calm p → Calm (from_sweeping span p s)
unfolding from_sweeping
calm_sweeping Once p (Did (Expired lane Once r)) h = by_spent Calm (is_spent (Expired lane Once r)) p refl h
calm_sweeping Twice p (Did (Expired lane Twice r)) h = by_spent Calm (is_spent (Expired lane Twice r)) p refl h
calm_sweeping span p _ h = refl

calm_next : (t : Before) (p : Phase) (s : Step Event) → Calm p → fault_of s ≡ 0 → Calm (go t p s)
unfolding go
calm_next t Opening s h well = (plain_opening s).1
calm_next t Ready s h well = calm_ready t s well
calm_next t (Written left) s h well = (plain_written t left s).1
calm_next t (Watched left) s h well = (plain_watched left s).1
calm_next t Clear s h well = (plain_clear s).1
calm_next t Emptied s h well = (plain_emptied s).1
calm_next t MayRead s h well = calm_may_read s well
calm_next t (Deciding source) s h well = calm_deciding t source s
calm_next t Ebbed s h well = (plain_ebbed s).1
calm_next t Closing s h well = calm_closing s well
calm_next t CaughtUp s h well = calm_caught_up s
calm_next t (Sweeping span p) s h well = calm_sweeping span p s h
calm_next t (Settled full) s h well = (plain_settled full s).1
calm_next t (MayTake full gave) s h well = (plain_may_take_from full s).1
calm_next t _ s h well = refl

-- and one at which it failed leads there, or goes wrong
failed_write : (t : Before) (p : Phase) → (go t p (Marked WriteFailed) ≡ Failed) ⊎ (go t p (Marked WriteFailed) ≡ Wrong)
unfolding go from_opening from_ready from_written from_watched from_sweeping from_caught_up from_clear from_emptied from_may_read from_deciding from_ebbed from_closing from_settled from_may_take
failed_write t Ready = inl refl
failed_write t Closing = inl refl
failed_write t (Sweeping Once p) = inr refl
failed_write t (Sweeping Twice p) = inr refl
failed_write t _ = inr refl

failed_read : (t : Before) (p : Phase) (e : LinkFault) → (go t p (Read (Err e)) ≡ Failed) ⊎ (go t p (Read (Err e)) ≡ Wrong)
unfolding go from_opening from_ready from_written from_watched from_sweeping from_caught_up from_clear from_emptied from_may_read from_deciding from_ebbed from_closing from_settled from_may_take
failed_read t MayRead e = inl refl
failed_read t (Sweeping Once p) e = inr refl
failed_read t (Sweeping Twice p) e = inr refl
failed_read t _ e = inr refl

failed_or : (s : Step Event) (q : Phase) → fault_of s ≡ 1 → (q ≡ Failed) ⊎ (q ≡ Wrong) → (q ≡ Wrong → ⊥) → (fault_of s ≡ 1) × (q ≡ Failed)
failed_or s q one led right = (one, ⊎_elim (λ is. is) (λ wrong. absurd (right wrong)) led)

tells : (t : Before) (p : Phase) (s : Step Event) → Calm p → (go t p s ≡ Wrong → ⊥) → ((fault_of s ≡ 0) × Calm (go t p s)) ⊎ ((fault_of s ≡ 1) × (go t p s ≡ Failed))
tells t p (Marked WriteFailed) h right = inr (failed_or (Marked WriteFailed) _ refl (failed_write t p) right)
tells t p (Read (Err e)) h right = inr (failed_or (Read (Err e)) _ refl (failed_read t p e) right)
tells t p s h right = inl (refl, calm_next t p s h refl)

-- no step follows where the link failed
none_behind : (t : Before) (q : Phase) (ss : List (Step Event)) → q ≡ Failed → (phase_from (go t) q ss ≡ Wrong → ⊥) → (faults ss ≡ 0) × (fails (phase_from (go t) q ss) ≡ 1)
unfolding faults go
none_behind t q [] failed right = (refl, ap fails failed)
none_behind t q (s ∷ ss) failed right = absurd (right (ap (λ p. phase_from (go t) (go t p s) ss) failed ∙ stays_wrong t ss))

counted_from : (t : Before) (p : Phase) (ss : List (Step Event)) → fails p ≡ 0 → (phase_from (go t) p ss ≡ Wrong → ⊥) → faults ss ≡ fails (phase_from (go t) p ss)
unfolding faults
counted_from t p [] calm right = sym calm
counted_from t p (s ∷ ss) calm right =
    ⊎_elim (λ well. let k = well.0 in let h = counted_from t (go t p s) ss well.1 right in omega (arith, k, h))
    (λ failed. let k = failed.0 in let h = none_behind t (go t p s) ss failed.1 right in omega (arith, k, h.0, h.1))
    (tells t p s calm (λ wrong. right (ap (λ q. phase_from (go t) q ss) wrong ∙ stays_wrong t ss)))

calm_end : (bound quiet : Bool) (end : TurnEnd) (p : Phase) → IsTurnEnd bound quiet end p → fails p ≡ 0
calm_end bound quiet Done Failed h = absurd h
calm_end bound quiet Filled Failed h = absurd h
calm_end bound quiet Idle Failed h = absurd h
calm_end bound quiet Worked Failed h = absurd h
calm_end bound quiet Done (Sweeping span p) h = absurd h
calm_end bound quiet Filled (Sweeping span p) h = absurd h
calm_end bound quiet Idle (Sweeping span p) h = absurd h
calm_end bound quiet Worked (Sweeping span p) h = absurd h
calm_end bound quiet end _ h = refl

failed_there : (p : Phase) → MayFail p → fails p ≡ 1
failed_there Failed h = refl
failed_there _ h = absurd h

calm_want : (p : Phase) → MayWant p → fails p ≡ 0
calm_want Failed h = absurd h
calm_want (Sweeping span p) h = absurd h
calm_want _ h = refl

turn_fails : (bound quiet : Bool) (r : Result TurnEnd Fault) (p : Phase) → IsTurn bound quiet r p → fails p ≡ link_faults r
turn_fails bound quiet (Ok end) p h = calm_end bound quiet end p h
turn_fails bound quiet (Err fault.Link) p h = failed_there p h
turn_fails bound quiet (Err fault.Spent) p h = ap fails h
turn_fails bound quiet (Err fault.NoMemory) p h = calm_want p h

-- a turn answers that its link failed just where a step of it did
pub counted : (t : Before) (bound quiet : Bool) (r : Result TurnEnd Fault) (n : ℕ) (a b : Scene) (ss : List (Step Event)) → fails t.start ≡ 0 → IsTurn bound quiet r (phase_of t ss) → Changes n a ss b → b.failures ≡ a.failures + link_faults r
unfolding phase_of
counted t bound quiet r n a b ss calm order changes =
    let k = all_faults Does worth May n a b ss changes in
    let h = counted_from t t.start ss calm (never_wrong bound quiet r _ order) in
    let e = turn_fails bound quiet r _ order in
    omega (arith, k, h, e)

not_begun : (bound quiet : Bool) (r : Result TurnEnd Fault) → (IsTurn bound quiet r Opening → ⊥) × (IsTurn bound quiet r Ready → ⊥)
not_begun bound quiet (Ok Done) = (λ h. h, λ h. h)
not_begun bound quiet (Ok Filled) = (λ h. h, λ h. h)
not_begun bound quiet (Ok Idle) = (λ h. h, λ h. h)
not_begun bound quiet (Ok Worked) = (λ h. h, λ h. h)
not_begun bound quiet (Err fault.Link) = (λ h. h, λ h. h)
not_begun bound quiet (Err fault.Spent) = (λ h. absurd (cc h), λ h. absurd (cc h))
not_begun bound quiet (Err fault.NoMemory) = (λ h. h, λ h. h)

module _ (t : Before) (n : ℕ) where
  offers_then : (a b : Scene) (s : Step Event) (ss : List (Step Event)) → (phase_from (go t) (go t Ready s) ss ≡ Wrong → ⊥) → Changes n a (s ∷ ss) b → IsPrefix (a.offered ++ a.unsent) b.offered
  unfolding go from_ready Runs
  offers_then a b (Marked (Offered waited wrote left)) ss right r =
      let rest = all_offers Does worth May n r.0 b ss r.2 in
      (rest.0, ap (λ l. l ++ rest.0) (sym (ap (λ (o : Scene). o.offered) r.1.1.same)) ∙ sym rest.1)
  offers_then a b (Marked WriteFailed) ss right r =
      let rest = all_offers Does worth May n r.0 b ss r.2 in
      (rest.0, ap (λ l. l ++ rest.0) (sym (ap (λ (o : Scene). o.offered) r.1.1)) ∙ sym rest.1)
  offers_then a b _ ss right r = absurd (right (stays_wrong t ss))

  offers_from : (a b : Scene) (ss : List (Step Event)) → (phase_from (go t) Ready ss ≡ Wrong → ⊥) → (phase_from (go t) Ready ss ≡ Ready → ⊥) → Changes n a ss b → IsPrefix (a.offered ++ a.unsent) b.offered
  offers_from a b [] right begun r = absurd (begun refl)
  offers_from a b (s ∷ ss) right begun r = offers_then a b s ss right r

  offered_opening : (bound quiet : Bool) (r : Result TurnEnd Fault) (a b : Scene) (ss : List (Step Event)) → IsTurn bound quiet r (phase_from (go t) Opening ss) → Changes n a ss b → IsPrefix (a.offered ++ a.unsent) b.offered
  unfolding go from_opening Runs
  offered_opening bound quiet r a b [] order h = absurd ((not_begun bound quiet r).0 order)
  offered_opening bound quiet r a b (Did (Opened k) ∷ ss) order h =
      let same = h.1.1.same in
      subst (λ l. IsPrefix l b.offered) (ap (λ (o : Scene). o.offered ++ o.unsent) same ∙ ap (λ l. a.offered ++ l) (append-nil a.unsent))
      (offers_from h.0 b ss (never_wrong bound quiet r _ order) (λ is. (not_begun bound quiet r).1 (subst (IsTurn bound quiet r) is order)) h.2)
  offered_opening bound quiet r a b (_ ∷ ss) order h = absurd (never_wrong bound quiet r _ order (stays_wrong t ss))

  -- what waits is offered before anything else is done
  pub offered_first : t.start ≡ Opening → (bound quiet : Bool) (r : Result TurnEnd Fault) (a b : Scene) (ss : List (Step Event)) → IsTurn bound quiet r (phase_of t ss) → Changes n a ss b → IsPrefix (a.offered ++ a.unsent) b.offered
  unfolding phase_of
  offered_first first bound quiet r a b ss order h =
      offered_opening bound quiet r a b ss (subst (λ (p : Phase). IsTurn bound quiet r (phase_from (go t) p ss)) first order) h
