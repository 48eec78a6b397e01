-- A timer is judged only behind a read that found that nothing more had come: by the turn's table.
use Rattle.std.proofs.Common.{◌≡◌, List, [], ◌∷◌, ◌++◌, Bool, true, false, ℕ, ◌||◌, ◌&&◌, ◌==◌, Result, Ok, Err, if◌then◌else◌, sym, ◌∙◌, ap, refl, subst, true≢false}
use Rattle.std.specs.List.{list_any}
use Rattle.smx_link.specs.declared.link.Polled.TheVariants.{Octets, Nothing, End}
use Rattle.smx_turns.specs.declared.gate.Point.TheVariants.{Reading, Taking}
use Rattle.smx_turns.specs.declared.end.TurnEnd.{TurnEnd}
use Rattle.smx_turns.specs.declared.end.TurnEnd.TheVariants.{Worked, Filled, Idle, Done}
use Rattle.smx_turns.specs.declared.end.Fault.{Fault}
use Rattle.smx_turns.specs.declared.end.Fault.TheVariants as fault
use Rattle.smx_turns.specs.declared.step.Step.{Step}
use Rattle.smx_turns.specs.declared.step.Step.TheVariants.{Asked, Read, Marked, Did}
use Rattle.smx_turns.specs.Steps.{phase_from}
use Rattle.smx_turns.specs.declared.mark.Mark.TheVariants.{Offered, WriteFailed, Full, Part}
use Rattle.smx_upstream.specs.declared.event.Event.{Event}
use Rattle.smx_upstream.specs.declared.event.Event.TheVariants.{Opened, Looked, Judged, Expired, Shifted, Sought, Decided, Brought, Took, Broke, LinkEnded}
use Rattle.smx_upstream.specs.declared.event.Span.TheVariants.{Once, Twice}
use Rattle.smx_upstream.specs.Events.{is_spent, event_ends, fills, may_give_more}
use Rattle.smx_upstream.specs.Judging.{finds_no_more, judges, AreJudged}
use Rattle.smx_upstream.specs.Phases.{Phase, Before, Opening, Ready, Written, Watched, Clear, MayRead, Failed, Deciding, Closing, CaughtUp, Sweeping, Settled, MayTake, Exhausted, Wrong, go, from_opening, from_ready, from_written, from_watched, from_sweeping, from_caught_up, from_clear, from_may_read, from_deciding, from_closing, from_settled, from_may_take, phase_of, unless_spent, if_so, after_offer, unless_left, when_gone, when_kept, when_decided, when_part, when_full, when_may_read, when_may_take, when_taken, IsTurn, Source, Emptied, Ebbed, from_emptied, from_ebbed, going_on, when_filled}
use Rattle.smx_upstream.specs.Phases.Source.{Earlier, Behind}

-- a turn stands so only behind a read that found that nothing more had come
abbrev pub needs : Phase → Bool
needs (Deciding (Behind Nothing)) = true
needs CaughtUp = true
needs (Sweeping Once p) = true
needs (Sweeping Twice p) = needs p
needs _ = false

-- how often the link failed where a turn stands so
abbrev pub fails : Phase → ℕ
fails Failed = 1
fails (Sweeping span p) = fails p
fails _ = 0

abbrev Needless : Phase → Type 0
Needless p = needs p ≡ false

abbrev pub Calm : Phase → Type 0
Calm p = fails p ≡ 0

-- neither
abbrev pub IsPlain : Phase → Type 0
IsPlain p = Needless p × Calm p

module _ (F : Phase → Type 0) where
  pub by_spent : (b : Bool) (p : Phase) → F Exhausted → F p → F (unless_spent b p)
  by_spent true p e h = e
  by_spent false p e h = h

  pub by_if : (b : Bool) (p : Phase) → F Wrong → F p → F (if b then p else Wrong)
  by_if true p w h = h
  by_if false p w h = w

  pub by_so : (a b : Bool) (p : Phase) → F Wrong → F p → F (if_so a b p)
  by_so true true p w h = h
  by_so true false p w h = w
  by_so false true p w h = w
  by_so false false p w h = h

pub plain_left : (left : Bool) → IsPlain (unless_left left)
plain_left true = (refl, refl)
plain_left false = (refl, refl)

pub plain_offer : (ending left : Bool) → IsPlain (after_offer ending left)
plain_offer true left = plain_left left
plain_offer false left = (refl, refl)

plain_gone : (left gone : Bool) → IsPlain (when_gone left gone)
plain_gone left true = (refl, refl)
plain_gone left false = (refl, refl)

plain_kept : (left : Bool) → IsPlain (when_kept left)
plain_kept true = (refl, refl)
plain_kept false = (refl, refl)

plain_may_read : (b : Bool) → IsPlain (when_may_read b)
plain_may_read true = (refl, refl)
plain_may_read false = (refl, refl)

plain_may_take : (full b : Bool) → IsPlain (when_may_take full b)
plain_may_take full true = (refl, refl)
plain_may_take full false = (refl, refl)

plain_taken : (full more : Bool) → IsPlain (when_taken full more)
plain_taken full true = (refl, refl)
plain_taken full false = (refl, refl)

pub plain_filled : (s : Source) → IsPlain (when_filled s)
plain_filled (Earlier some) = (refl, refl)
plain_filled (Behind End) = (refl, refl)
plain_filled (Behind Nothing) = (refl, refl)
plain_filled (Behind (Octets n)) = (refl, refl)

pub plain_full : (s : Source) → IsPlain (when_full s)
plain_full (Earlier some) = (refl, refl)
plain_full (Behind End) = (refl, refl)
plain_full (Behind Nothing) = (refl, refl)
plain_full (Behind (Octets n)) = (refl, refl)

no_more : (s : Source) → Needless (Deciding s) → Needless (Deciding (going_on s))
no_more (Earlier some) h = refl
no_more (Behind polled) h = h

no_decided : (s : Source) (b full : Bool) → Needless (Deciding s) → Needless (when_decided s b full)
no_decided s true full h = refl
no_decided s false true h = (plain_filled s).0
no_decided s false false h = no_more s h

no_part : (s : Source) → Needless (Deciding s) → Needless (when_part s)
no_part (Earlier true) h = refl
no_part (Earlier false) h = refl
no_part (Behind End) h = refl
no_part (Behind Nothing) h = h
no_part (Behind (Octets n)) h = refl

-- what each phase but one leads to needs no such read, where it needs none itself
pub plain_opening : (s : Step Event) → IsPlain (from_opening s)
unfolding from_opening
plain_opening (Did (Opened n)) = (refl, refl)
plain_opening _ = (refl, refl)

ready_none : (t : Before) (s : Step Event) → Needless (from_ready t s)
unfolding from_ready
ready_none t (Marked (Offered waited wrote left)) = by_so Needless waited t.waited _ refl (plain_offer t.ending left).0
ready_none t (Marked WriteFailed) = refl
ready_none t _ = refl

pub plain_written : (t : Before) (left : Bool) (s : Step Event) → IsPlain (from_written t left s)
unfolding from_written
plain_written t left (Did (Looked now due some_left silent)) = by_if IsPlain (now == t.now) _ (refl, refl) (by_so IsPlain some_left left _ (refl, refl) (plain_gone left (left && silent)))
plain_written t left _ = (refl, refl)

pub plain_watched : (left : Bool) (s : Step Event) → IsPlain (from_watched left s)
unfolding from_watched
plain_watched left (Did (Shifted least r)) = by_spent IsPlain (is_spent (Shifted least r)) _ (refl, refl) (plain_kept left)
plain_watched left _ = (refl, refl)

pub plain_clear : (s : Step Event) → IsPlain (from_clear s)
unfolding from_clear
plain_clear (Did (Sought r under)) = by_spent IsPlain (is_spent (Sought r under)) _ (refl, refl) (refl, refl)
plain_clear _ = (refl, refl)

pub plain_emptied : (s : Step Event) → IsPlain (from_emptied s)
unfolding from_emptied
plain_emptied (Asked Reading answer) = plain_may_read answer
plain_emptied _ = (refl, refl)

deciding_none : (t : Before) (source : Source) (s : Step Event) → Needless (Deciding source) → Needless (from_deciding t source s)
unfolding from_deciding
deciding_none t source (Did (Decided p now a f)) h = by_if Needless (now == t.now) _ refl (by_spent Needless (is_spent (Decided p now a f)) _ refl (no_decided source (event_ends (Decided p now a f)) (fills f) h))
deciding_none t source (Did (Brought ps now lane r)) h = by_if Needless (now == t.now) _ refl (by_spent Needless (is_spent (Brought ps now lane r)) _ refl (no_more source h))
deciding_none t source (Did Broke) h = refl
deciding_none t source (Marked Part) h = no_part source h
deciding_none t source (Marked Full) h = (plain_full source).0
deciding_none t source _ h = refl

pub plain_ebbed : (s : Step Event) → IsPlain (from_ebbed s)
unfolding from_ebbed
plain_ebbed (Did LinkEnded) = (refl, refl)
plain_ebbed _ = (refl, refl)

closing_none : (s : Step Event) → Needless (from_closing s)
unfolding from_closing
closing_none (Marked (Offered waited wrote left)) = (plain_left left).0
closing_none (Marked WriteFailed) = refl
closing_none _ = refl

sweeping_none : (p : Phase) (s : Step Event) → Needless p → Needless (from_sweeping Twice p s)
unfolding from_sweeping
sweeping_none p (Did (Expired lane Twice r)) h = by_spent Needless (is_spent (Expired lane Twice r)) p refl h
sweeping_none p _ h = refl

pub plain_settled : (full : Bool) (s : Step Event) → IsPlain (from_settled full s)
unfolding from_settled
plain_settled full (Asked Taking answer) = plain_may_take full answer
plain_settled full _ = (refl, refl)

pub plain_may_take_from : (full : Bool) (s : Step Event) → IsPlain (from_may_take full s)
unfolding from_may_take
plain_may_take_from full (Did (Took r)) = by_spent IsPlain (is_spent (Took r)) _ (refl, refl) (plain_taken full (may_give_more r.value))
plain_may_take_from full _ = (refl, refl)

-- such a read is the one that leads there
read_needs : (r : _) → needs (from_may_read (Read r)) ≡ finds_no_more (Read r)
unfolding from_may_read
read_needs (Ok Nothing) = refl
read_needs (Ok End) = refl
read_needs (Ok (Octets n)) = refl
read_needs (Err e) = refl

may_read_needs : (s : Step Event) → needs (from_may_read s) ≡ true → finds_no_more s ≡ true
unfolding from_may_read
may_read_needs (Read r) h = sym (read_needs r) ∙ h
may_read_needs (Asked point answer) h = absurd (true≢false (sym h))
may_read_needs (Marked m) h = absurd (true≢false (sym h))
may_read_needs (Did e) h = absurd (true≢false (sym h))

-- one step more
next_needs : (t : Before) (p : Phase) (s : Step Event) → needs p ≡ false → needs (go t p s) ≡ true → finds_no_more s ≡ true
unfolding go
next_needs t Opening s n h = absurd (true≢false (sym h ∙ (plain_opening s).0))
next_needs t Ready s n h = absurd (true≢false (sym h ∙ ready_none t s))
next_needs t (Written left) s n h = absurd (true≢false (sym h ∙ (plain_written t left s).0))
next_needs t (Watched left) s n h = absurd (true≢false (sym h ∙ (plain_watched left s).0))
next_needs t Clear s n h = absurd (true≢false (sym h ∙ (plain_clear s).0))
next_needs t Emptied s n h = absurd (true≢false (sym h ∙ (plain_emptied s).0))
next_needs t MayRead s n h = may_read_needs s h
next_needs t (Deciding source) s n h = absurd (true≢false (sym h ∙ deciding_none t source s n))
next_needs t Ebbed s n h = absurd (true≢false (sym h ∙ (plain_ebbed s).0))
next_needs t Closing s n h = absurd (true≢false (sym h ∙ closing_none s))
next_needs t CaughtUp s n h = absurd (true≢false n)
next_needs t (Sweeping Once p) s n h = absurd (true≢false n)
next_needs t (Sweeping Twice p) s n h = absurd (true≢false (sym h ∙ sweeping_none p s n))
next_needs t (Settled full) s n h = absurd (true≢false (sym h ∙ (plain_settled full s).0))
next_needs t (MayTake full gave) s n h = absurd (true≢false (sym h ∙ (plain_may_take_from full s).0))
next_needs t _ s n h = absurd (true≢false (sym h))

-- and a timer is judged nowhere else
judged_wrong : (t : Before) (p : Phase) (silent : Bool) → needs p ≡ false → go t p (Did (Judged silent)) ≡ Wrong
unfolding go from_opening from_ready from_written from_watched from_sweeping from_caught_up from_clear from_emptied from_may_read from_deciding from_ebbed from_closing from_settled from_may_take
judged_wrong t CaughtUp silent n = absurd (true≢false n)
judged_wrong t (Sweeping Once p) silent n = refl
judged_wrong t (Sweeping Twice p) silent n = refl
judged_wrong t _ silent n = refl

expired_wrong : (t : Before) (p : Phase) (lane : _) (r : _) → needs p ≡ false → go t p (Did (Expired lane Once r)) ≡ Wrong
unfolding go from_opening from_ready from_written from_watched from_sweeping from_caught_up from_clear from_emptied from_may_read from_deciding from_ebbed from_closing from_settled from_may_take
expired_wrong t (Sweeping Once p) lane r n = absurd (true≢false n)
expired_wrong t (Sweeping Twice p) lane r n = refl
expired_wrong t _ lane r n = refl

judges_wrong : (t : Before) (p : Phase) (s : Step Event) → needs p ≡ false → judges s ≡ true → go t p s ≡ Wrong
judges_wrong t p (Did (Judged silent)) n j = judged_wrong t p silent n
judges_wrong t p (Did (Expired lane Once r)) n j = expired_wrong t p lane r n
judges_wrong t p _ n j = absurd (true≢false (sym j))

pub stays_wrong : (t : Before) (ss : List (Step Event)) → phase_from (go t) Wrong ss ≡ Wrong
unfolding go
stays_wrong t [] = refl
stays_wrong t (s ∷ ss) = stays_wrong t ss

-- where the turn stands so, or found no more
either : (b c : Bool) → (b ≡ false → c ≡ true) → (b || c) ≡ true
either true c h = refl
either false c h = h refl

judged_from : (t : Before) (p : Phase) (before after : List (Step Event)) (s : Step Event) → needs p ≡ false → judges s ≡ true → (phase_from (go t) p (before ++ s ∷ after) ≡ Wrong → ⊥) → list_any finds_no_more before ≡ true
judged_from t p [] after s n j right = absurd (right (ap (λ q. phase_from (go t) q after) (judges_wrong t p s n j) ∙ stays_wrong t after))
judged_from t p (x ∷ before) after s n j right = by (needs (go t p x)) refl (λ is. judged_from t (go t p x) before after s is j right)
  where
    by : (b : Bool) → needs (go t p x) ≡ b → (needs (go t p x) ≡ false → list_any finds_no_more before ≡ true) → (finds_no_more x || list_any finds_no_more before) ≡ true
    by true is later = ap (λ b. b || list_any finds_no_more before) (next_needs t p x n is)
    by false is later = either (finds_no_more x) (list_any finds_no_more before) (λ _. later is)

pub judged_of : (t : Before) (ss : List (Step Event)) → needs t.start ≡ false → (phase_of t ss ≡ Wrong → ⊥) → AreJudged ss
unfolding phase_of
judged_of t ss plain right before after s same j =
    judged_from t t.start before after s plain j (λ wrong. right (ap (phase_from (go t) t.start) (sym same) ∙ wrong))

-- no turn goes wrong
pub never_wrong : (bound quiet : Bool) (r : Result TurnEnd Fault) (p : Phase) → IsTurn bound quiet r p → p ≡ Wrong → ⊥
never_wrong bound quiet r p turn wrong = at r (subst (λ (q : Phase). IsTurn bound quiet r q) wrong turn)
  where
    at : (x : Result TurnEnd Fault) → IsTurn bound quiet x Wrong → ⊥
    at (Ok Done) h = h
    at (Ok Filled) h = h
    at (Ok Idle) h = h
    at (Ok Worked) h = h
    at (Err fault.Link) h = h
    at (Err fault.Spent) h = absurd (cc h)
    at (Err fault.NoMemory) h = h
