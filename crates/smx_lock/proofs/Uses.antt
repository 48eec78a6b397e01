-- The moves in the form in which the calls need them.
use Rattle.std.proofs.Common.{true, ◌≡◌, ◌≢◌, ℕ, ◌+◌, ◌<◌, ◌≤◌, ◌==◌, eqb, false, List, [], ◌∷◌, ◌++◌, refl, sym, ap, ◌∙◌, subst, Option, Some, None}
use Rattle.std.specs.Prelude.{All}
use mathlib.Core.Option.{none}
use mathlib.Core.List.{IsPrefix}
use Rattle.std.proofs.lemmas.List.Elements.{filter-append}
use prog.Atomic.{either}
use Rattle.atomic_table.specs.Table.{step, Allows, opening, rest}
use Rattle.atomic_table.specs.Seated.{TableId}
use Rattle.smx_ticket_core.specs.declared.callers.Caller.{Caller}
use Rattle.smx_ticket_core.specs.declared.callers.Caller.TheVariants.{Read, Waiting, Holding}
use Rattle.smx_ticket_core.specs.Machine.{most, ticket}
use Rattle.smx_lock.specs.declared.views.Case.{Case}
use Rattle.smx_lock.specs.declared.views.View.{View}
use Rattle.smx_lock.specs.Notes.{notes_of}
use Rattle.smx_lock.specs.Fronts.{front_of, hold_of, Front, Finds, IsLast}
use Rattle.smx_lock.specs.Rule.{Seated, Ruled}
use Rattle.smx_lock.specs.Steps.{turned, newcomer, drew, Takes, left, released, Found, guest}
use Rattle.smx_lock.specs.Invariants.{IsFree, IsHold}
use Rattle.smx_lock.proofs.OwnNotes.{own_all}
use Rattle.smx_lock.proofs.Moves.{opens, draws, leaves, Ended}

slot_value : {A : Type 0} → List (ℕ × Option A) → Option A
slot_value [] = None
slot_value (x ∷ xs) = x.1

slot_same : {A : Type 0} (l m n : List (ℕ × Option A)) (k : ℕ) (a b : Option A) → l ≡ (k, a) ∷ m → l ≡ (k, b) ∷ n → a ≡ b
unfolding slot_value
slot_same l m n k a b e f = sym (ap slot_value e) ∙ ap slot_value f

pub waiting_same : (a b : ℕ) → Waiting a ≡ Waiting b → a ≡ b
waiting_same a b e = cc

some_same : {A : Type 0} (a b : A) → Some a ≡ Some b → a ≡ b
some_same a b e = cc

some_none : {A : Type 0} (a : A) → Some a ≡ None → ⊥
some_none a e = absurd (cc)

module _ {S N F : Type 0} (writer : N → ℕ) (fixed_of : S → F) (suits : S → List N → Type 0) where
  pub makes : (first : ℕ) (fixed : F) (x : Case S) (slots : List (Option (Case S))) → slots ≡ Some x ∷ [] → first ≤ most → suits x.value.value [] → fixed_of x.value.value ≡ fixed → x.seats ≡ 1
      → Ruled writer fixed_of suits first fixed (opening (first ∷ first ∷ []) slots (newcomer fixed))
  makes first fixed x slots is low agrees made one = subst (λ l. Ruled writer fixed_of suits first fixed (opening (first ∷ first ∷ []) l (newcomer fixed))) (sym is)
      (opens writer fixed_of suits first fixed x low record { agrees = agrees; fixed_is = made; seats_is = one })

  pub draws_at : (first : ℕ) (fixed : F) (n id : ℕ) (me : Seated S N F) (v : View N F) (x : ℕ) → me ≡ (turned v (Read x), []) → x ≢ most
      → Allows (Ruled writer fixed_of suits first fixed) n id me 0 (λ y. either (eqb y x) (x + 1) y) (drew (step n 0 x (x + 1) none) me)
  draws_at first fixed n id me v x is left_over = draws writer fixed_of suits first fixed n id me x (ap (λ (m : Seated S N F). m.0.caller) is) left_over

  pub puts_back : (first : ℕ) (fixed : F) (n id : ℕ) (me : Seated S N F) (v : View N F) (t : ℕ) (x : Case S) (new : List N) → me ≡ (v, (0, Some x) ∷ []) → v.caller ≡ Holding t → All (λ k. writer k ≡ v.number) new
      → suits x.value.value (v.seen ++ new) → fixed_of x.value.value ≡ v.fixed → x.seats ≡ v.seats → Allows (Ruled writer fixed_of suits first fixed) n id me 1 (λ _. t + 1) (λ _. released new (step n 1 (t + 1) 0 none) me)
  puts_back first fixed n id me v t x new is holding all agrees made count = subst (λ (m : Seated S N F). Allows (Ruled writer fixed_of suits first fixed) n id m 1 (λ _. t + 1) (λ _. released new (step n 1 (t + 1) 0 none) m)) (sym is)
      (leaves writer fixed_of suits first fixed n id (v, (0, Some x) ∷ []) t x new holding refl all record { agrees = agrees; fixed_is = made; seats_is = count })

  pub free_after : (me : Seated S N F) (v : View N F) (new : List N) → me ≡ (left v new, []) → notes_of writer v.number v.seen ≡ v.mine → All (λ k. writer k ≡ v.number) new → v.is_seat ≡ true → (k : ℕ) → k ≡ v.number → IsFree writer me k false
  free_after me v new is own all stands k e = subst (λ (m : Seated S N F). IsFree writer m k false) (sym is)
      record { number_is = e; empty = refl; caller = refl; stands = stands; own = filter-append (λ k. writer k == v.number) v.seen new ∙ ap (λ l. notes_of writer v.number v.seen ++ l) (own_all writer v.number new all) ∙ ap (λ l. l ++ new) own }

  -- the value came out of the slot, and the hold stands
  pub record Out (m me : Seated S N F) (t : ℕ) (r : Case S) : Type 0 where
    pub none_left : rest me.1 ≡ []
    pub caller : me.0.caller ≡ Holding t
    pub below : t < most
    pub found : Found writer fixed_of suits m.0 me.0 r

  pub out : (m me : Seated S N F) (t : ℕ) (r : Case S) → m.1 ≡ [] → Takes writer fixed_of suits m t me → me.1 ≡ (0, Some r) ∷ rest me.1 → Out m me t r
  out m me t r empty took has = let x = took.1.0 in let same : x ≡ r = some_same x r (slot_same me.1 m.1 (rest me.1) 0 (Some x) (Some r) took.1.1 has) in record {
    none_left = ap rest took.1.1 ∙ empty;
    caller = took.0;
    below = took.2;
    found = subst (Found writer fixed_of suits m.0 me.0) same took.1.2;
  }

  pub never_empty : (m me : Seated S N F) (t : ℕ) → Takes writer fixed_of suits m t me → me.1 ≡ (0, None) ∷ rest me.1 → ⊥
  never_empty m me t took has = some_none took.1.0 (slot_same me.1 m.1 (rest me.1) 0 (Some took.1.0) None took.1.1 has)

  pub has_slot : (m me : Seated S N F) (t : ℕ) → Takes writer fixed_of suits m t me → (old : Option (Case S)) × (me.1 ≡ (0, old) ∷ rest me.1)
  has_slot m me t took = (Some took.1.0, took.1.1 ∙ ap (λ l. (0, Some took.1.0) ∷ l) (sym (ap rest took.1.1)))

  pub holds_on : (m me after : Seated S N F) (t : ℕ) (r : Case S) → Out m me t r → after ≡ (me.0, (0, None) ∷ rest me.1) → (k : ℕ) → k ≡ me.0.number → IsHold writer after k t r.seats
  holds_on m me after t r o is k e = subst (λ (z : Seated S N F). IsHold writer z k t r.seats) (sym (is ∙ ap (λ l. (me.0, (0, None) ∷ l)) o.none_left)) record {
    number_is = e;
    slot = refl;
    caller = o.caller;
    stands = o.found.stands;
    below = o.below;
    seats_is = o.found.value.seats_is;
    some_seat = subst (λ (k : ℕ). me.0.number < k) (sym o.found.value.seats_is) o.found.some_seat;
    few = subst (λ (j : ℕ). j ≤ most) (sym o.found.value.seats_is) o.found.few;
    no_others = λ k le. o.found.no_others k (subst (λ (j : ℕ). j ≤ k) o.found.value.seats_is le);
    own = o.found.own;
  }

  -- what a hold begins with, as the caller sees it
  pub finds : (id id' : TableId) (v : View N F) (m me after : Seated S N F) (t : ℕ) (r : Case S) → id' ≡ id → (c : Caller) → m.0 ≡ turned v c → Out m me t r → after ≡ (me.0, (0, None) ∷ rest me.1) → Finds writer fixed_of suits (front_of id v) (hold_of id' after.0 r.value.value)
  finds id id' v m me after t r same c from o is = let f = o.found in
      subst (λ (z : TableId × View N F). Finds writer fixed_of suits (front_of id v) (hold_of z.0 z.1 r.value.value)) (λ k. (sym same k, ap (λ (z : Seated S N F). z.0) (sym is) k)) record {
        lock = ap (λ x. record { table = id; fixed = x }) (f.made_with ∙ ap (λ (z : View N F). z.fixed) from);
        number = f.number ∙ ap (λ (z : View N F). z.number) from;
        one_seat = f.some_seat;
        begins = subst (λ (z : View N F). IsPrefix z.seen me.0.seen) from f.begins;
        mine = f.mine ∙ ap (λ (z : View N F). z.mine) from;
        own = f.own;
        rises = subst (λ (z : View N F). z.last < ticket me.0.caller) from f.rises;
        counts = subst (λ (z : View N F). z.seats ≤ me.0.seats) from f.counts;
        no_others = f.no_others;
        alone = subst (λ (z : View N F). z.seats ≡ 1 → me.0.seen ≡ z.mine) from f.alone;
        stays_alone = subst (λ (z : View N F). z.seats ≡ 1 → me.0.seats ≡ 1) from f.stays_alone;
        agrees = f.value.agrees;
        fixed = f.value.fixed_is;
      }

  pub free_guest : (me : Seated S N F) (v : View N F) → me ≡ (guest v, []) → notes_of writer v.seats v.seen ≡ [] → (k : ℕ) → k ≡ v.seats → IsFree writer me k false
  free_guest me v is own k e = subst (λ (m : Seated S N F). IsFree writer m k false) (sym is) record { number_is = e; empty = refl; caller = refl; stands = refl; own = own }

  pub last_one : (f : Front N F) (id : TableId) (v : View N F) (x : S) (first : ℕ) (fixed : F) → f ≡ front_of id v → Ended writer fixed_of suits first fixed v x → f.lock.fixed ≡ fixed → IsLast writer fixed_of suits f x
  last_one f id v x first fixed is h same =
      ((h.0, subst (λ (z : Front N F). IsPrefix z.seen h.0) (sym is) h.1, subst (λ (z : Front N F). notes_of writer z.number h.0 ≡ z.mine) (sym is) h.2, h.3), h.4 ∙ sym same)
