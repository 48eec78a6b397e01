-- What a layer above uses: a run goes on by one row, each state reached is sound, and a caller that did nothing may be added.
use Rattle.std.proofs.Common.{◌≢◌, eq-eqb, ne_eqb, Err, if◌then◌else◌, ◌≡◌, ℕ, zero, suc, ◌+◌, ◌≤◌, List, [], ◌∷◌, ◌++◌, length, set, refl, sym, ap, ◌∙◌, subst, arith, Ok, replicate, length-set, length-append}
use mathlib.Core.Option.{Option, some, some-ne-none}
use lib.ListN.{get_elem?}
use Rattle.smx_ticket_core.specs.declared.callers.Caller.{Caller}
use Rattle.smx_ticket_core.specs.declared.callers.Caller.TheVariants.{Idle, Read, Saw, Waiting, Holding}
use Rattle.smx_ticket_core.specs.declared.callers.Event.{Event}
use Rattle.smx_ticket_core.specs.declared.callers.Event.TheVariants.{Draw, Look, TryDraw}
use Rattle.smx_ticket_core.specs.declared.callers.Illegal.TheVariants.{Spent}
use Rattle.smx_ticket_core.specs.Machine.{Machine, most, who, Turn, draw, row, start, begins_between, Run, Reached, Sound}
use Rattle.smx_ticket_core.proofs.Changes.{ok}
use Rattle.smx_ticket_core.proofs.Lists.{set_here}
use Rattle.smx_ticket_core.proofs.Rows.{changed, row_after, after_row}
use Rattle.smx_ticket_core.proofs.Soundness.{run_sound}

pub reached_sound : (first : ℕ) (m : Machine) → first ≤ most → Reached first m → Sound m
reached_sound first m le r = run_sound (length m.callers) first r.0 m r.1 le r.2

pub reached_start : (callers first : ℕ) → length (replicate callers Idle) ≡ callers → Reached first (start callers first)
reached_start callers first e = ([], [], (ap (λ (k : ℕ). start k first) (sym e), refl))

pub runs_on : (first : ℕ) (m : Machine) (e : Event) (c : Caller) (t : Turn) → Reached first m → get_elem? m.callers (who e) ≡ some c → row m.next m.serving e c ≡ Ok t → Reached first (changed m (who e) t)
runs_on first m e c t r at is = (
  e ∷ r.0,
  r.1 ++ begins_between (get_elem? m.callers (who e)) (get_elem? (set m.callers (who e) t.1.1) (who e)),
  (
    m,
    r.1,
    subst (λ (k : ℕ). Run k first r.0 m r.1) (sym (length-set m.callers (who e) t.1.1)) r.2,
    row_after m e c t at is,
    refl,
  ),
)

-- one more caller, which has done nothing
abbrev pub more : Machine → Machine
more m = record m { callers = m.callers ++ Idle ∷ [] }

module _ {A : Type 0} where
  at_front : (l m : List A) (i : ℕ) (a : A) → get_elem? l i ≡ some a → get_elem? (l ++ m) i ≡ some a
  at_front [] m i a e = absurd (some-ne-none a (sym e))
  at_front (x ∷ xs) m zero a e = e
  at_front (x ∷ xs) m (suc i) a e = at_front xs m i a e

  set_front : (l m : List A) (i : ℕ) (a b : A) → get_elem? l i ≡ some b → set (l ++ m) i a ≡ set l i a ++ m
  set_front [] m i a b e = absurd (some-ne-none b (sym e))
  set_front (x ∷ xs) m zero a b e = refl
  set_front (x ∷ xs) m (suc i) a b e = ap (λ l. x ∷ l) (set_front xs m i a b e)

  copies_end : (n : ℕ) (x : A) → replicate n x ++ x ∷ [] ≡ replicate (suc n) x
  copies_end zero x = refl
  copies_end (suc n) x = ap (λ l. x ∷ l) (copies_end n x)

run_more : (n first : ℕ) (es : List Event) (m : Machine) (holds : List ℕ) → Run n first es m holds → Run (suc n) first es (more m) holds
run_more n first [] m holds r = (ap more r.0 ∙ ap (λ (l : List Caller). record { next = first; serving = first; callers = l }) (copies_end n Idle), r.1)
run_more n first (e ∷ es) m holds r = let b : Machine = r.0 in let w = after_row b e m r.3 in let i = who e in
    let now : get_elem? m.callers i ≡ some w.1.1.1 = ap (λ (z : Machine). get_elem? z.callers i) w.4 ∙ set_here b.callers i w.1.1.1 w.0 w.2 in
    let here = at_front b.callers (Idle ∷ []) i w.0 w.2 in let there = at_front m.callers (Idle ∷ []) i w.1.1.1 now in (
      more b,
      r.1,
      run_more n first es b r.1 r.2,
      row_after (more b) e w.0 w.1 here w.3 ∙ ap (λ (l : List Caller). Ok record { next = w.1.0; serving = w.1.1.0; callers = l }) (set_front b.callers (Idle ∷ []) i w.1.1.1 w.0 w.2) ∙ ap (λ (z : Machine). Ok (more z)) (sym w.4),
      r.4 ∙ ap (λ (z : Option Caller × Option Caller). r.1 ++ begins_between z.0 z.1) (λ k. ((w.2 ∙ sym here) k, (now ∙ sym there) k)),
    )

pub reached_more : (first : ℕ) (m : Machine) → Reached first m → Reached first (more m)
reached_more first m r = (r.0, r.1, subst (λ (k : ℕ). Run k first r.0 (more m) r.1) (sym (length-append m.callers (Idle ∷ []) ∙ (let g : length m.callers + 1 ≡ suc (length m.callers) = omega arith in g))) (run_more (length m.callers) first r.0 m r.1 r.2))

-- the rows that hang on a test
pub draw_is : (a b c : ℕ) (won : Caller) → c ≢ most → draw a b c won ≡ Ok (a + 1, (b, won))
draw_is a b c won ne = subst (λ z. (if z then Err Spent else ok (a + 1, (b, won))) ≡ Ok (a + 1, (b, won))) (sym (ne_eqb c most ne)) refl

pub draw_wins : (i a b c : ℕ) → a ≡ c → c ≢ most → row a b (Draw i) (Read c) ≡ Ok (c + 1, (b, Waiting c))
draw_wins i a b c e ne = subst (λ z. (if z then draw a b c (Waiting c) else Ok (a, (b, Read a))) ≡ Ok (c + 1, (b, Waiting c))) (sym (eq-eqb a c e)) (draw_is a b c (Waiting c) ne ∙ ap (λ (k : ℕ). Ok (k + 1, (b, Waiting c))) e)

pub draw_loses : (i a b c d : ℕ) → a ≢ c → a ≡ d → row a b (Draw i) (Read c) ≡ Ok (a, (b, Read d))
draw_loses i a b c d e f = subst (λ z. (if z then draw a b c (Waiting c) else Ok (a, (b, Read a))) ≡ Ok (a, (b, Read d))) (sym (ne_eqb a c e)) (ap (λ (k : ℕ). Ok (a, (b, Read k))) f)

pub look_hits : (i a b c : ℕ) → b ≡ c → row a b (Look i) (Waiting c) ≡ Ok (a, (b, Holding c))
look_hits i a b c e = subst (λ z. ok (a, (b, (if z then Holding c else Waiting c))) ≡ Ok (a, (b, Holding c))) (sym (eq-eqb b c e)) refl

pub look_misses : (i a b c : ℕ) → b ≢ c → row a b (Look i) (Waiting c) ≡ Ok (a, (b, Waiting c))
look_misses i a b c e = subst (λ z. ok (a, (b, (if z then Holding c else Waiting c))) ≡ Ok (a, (b, Waiting c))) (sym (ne_eqb b c e)) refl

pub try_wins : (i a b c : ℕ) → a ≡ c → c ≢ most → row a b (TryDraw i) (Saw c) ≡ Ok (c + 1, (b, Holding c))
try_wins i a b c e ne = subst (λ z. (if z then draw a b c (Holding c) else Ok (a, (b, Idle))) ≡ Ok (c + 1, (b, Holding c))) (sym (eq-eqb a c e)) (draw_is a b c (Holding c) ne ∙ ap (λ (k : ℕ). Ok (k + 1, (b, Holding c))) e)

pub try_loses : (i a b c : ℕ) → a ≢ c → row a b (TryDraw i) (Saw c) ≡ Ok (a, (b, Idle))
try_loses i a b c e = subst (λ z. (if z then draw a b c (Holding c) else Ok (a, (b, Idle))) ≡ Ok (a, (b, Idle))) (sym (ne_eqb a c e)) refl
