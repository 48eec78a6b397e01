-- What a row of the event table changes.
use Rattle.std.proofs.Common.{◌≡◌, ℕ, ◌+◌, ◌<◌, ◌≤◌, ◌≢◌, ◌⊎◌, eq-eqb, ne_eqb, [], ◌∷◌, length, refl, sym, ap, subst, inl, inr, arith, Result, Ok, Err, if◌then◌else◌}
use mathlib.Core.Logic.{dite}
use native.Mathlib.Decide.{ℕ_discrete}
use Rattle.smx_ticket_core.specs.declared.callers.Caller.{Caller}
use Rattle.smx_ticket_core.specs.declared.callers.Caller.TheVariants.{Idle, Read, Saw, Waiting, Holding}
use Rattle.smx_ticket_core.specs.declared.callers.Event.{Event}
use Rattle.smx_ticket_core.specs.declared.callers.Event.TheVariants.{ReadNext, Draw, Look, Leave, ReadServing, TryDraw}
use Rattle.smx_ticket_core.specs.declared.callers.Illegal.{Illegal}
use Rattle.smx_ticket_core.specs.declared.callers.Illegal.TheVariants.{Spent}
use Rattle.smx_ticket_core.specs.Machine.{most, Turn, draw, row, holding, begins, FitsNumbers, ticket}

pub record Change (n s : ℕ) (c : Caller) (t : Turn) : Type 0 where
  pub behind : t.1.0 ≤ t.0
  pub bounded : t.0 ≤ most
  pub fits : FitsNumbers t.0 t.1.0 t.1.1
  pub others : (d : Caller) → FitsNumbers n s d → (0 < ticket c → ticket c ≡ ticket d → ⊥) → FitsNumbers t.0 t.1.0 d
  pub fresh : 0 < ticket t.1.1 → (ticket t.1.1 ≡ ticket c) ⊎ (ticket t.1.1 ≡ n + 1)
  pub counted : t.1.0 + holding t.1.1 ≡ s + holding c + length (begins c t.1.1)
  pub first : (begins c t.1.1 ≡ []) ⊎ ((begins c t.1.1 ≡ s ∷ []) × (holding c ≡ 0) × ((ticket c ≡ s + 1) ⊎ (n ≡ s)))

pub ticket_below : (n s : ℕ) (d : Caller) → FitsNumbers n s d → ticket d ≤ n
ticket_below n s Idle f = omega arith
ticket_below n s (Read x) f = omega arith
ticket_below n s (Saw x) f = omega arith
ticket_below n s (Waiting t) f = omega arith
ticket_below n s (Holding t) f = omega arith

more : (n s : ℕ) (d : Caller) → FitsNumbers n s d → FitsNumbers (n + 1) s d
more n s Idle f = tt
more n s (Read x) f = omega arith
more n s (Saw x) f = omega arith
more n s (Waiting t) f = (f.0, omega arith)
more n s (Holding t) f = (f.0, omega arith)

served : (n s : ℕ) (d : Caller) → FitsNumbers n s d → (s + 1 ≡ ticket d → ⊥) → FitsNumbers n (s + 1) d
served n s Idle f not = tt
served n s (Read x) f not = omega arith
served n s (Saw x) f not = omega arith
served n s (Waiting t) f not = let away : s ≢ t = λ e. not (ap (λ (k : ℕ). k + 1) e) in (omega arith, f.1)
served n s (Holding t) f not = absurd (not (ap (λ (k : ℕ). k + 1) (sym f.0)))

-- the numbers stay, and the caller has no ticket before or after
plain : (n s : ℕ) (c d : Caller) → s ≤ n → n ≤ most → ticket c ≡ 0 → ticket d ≡ 0 → holding c ≡ 0 → holding d ≡ 0 → begins c d ≡ [] → FitsNumbers n s d → Change n s c (n, (s, d))
plain n s c d le bd tc td hc hd nil f = record {
  behind = le;
  bounded = bd;
  fits = f;
  others = λ _ g _. g;
  fresh = λ pos. absurd (omega arith);
  counted = let l : length (begins c d) ≡ 0 = ap length nil in omega arith;
  first = inl nil;
}

abbrev pub ok : Turn → Result Turn Illegal
ok t = Ok t

abbrev err : Illegal → Result Turn Illegal
err x = Err x

took : (n s : ℕ) (c : Caller) (u t : Turn) → ok u ≡ Ok t → Change n s c u → Change n s c t
took n s c u t e h = subst (Change n s c) (cc) h

none_of : (n s : ℕ) (c : Caller) (x : Illegal) (t : Turn) → err x ≡ Ok t → Change n s c t
none_of n s c x t e = absurd (cc)

drawn : (n s x : ℕ) (c won : Caller) (t : Turn) → draw n s x won ≡ Ok t → (n ≢ most → Change n s c (n + 1, (s, won))) → x ≡ n → Change n s c t
drawn n s x c won t e go is = dite (ℕ_discrete x most)
    (λ spent. none_of n s c Spent t (subst (λ b. (if b then Err Spent else Ok (n + 1, (s, won))) ≡ Ok t) (eq-eqb x most spent) e))
    (λ left. took n s c (n + 1, (s, won)) t (subst (λ b. (if b then Err Spent else Ok (n + 1, (s, won))) ≡ Ok t) (ne_eqb x most left) e) (go (λ z. left (let g : x ≡ most = omega arith in g))))

waits : (n s x : ℕ) → x ≡ n → s ≤ n → n ≤ most → n ≢ most → Change n s (Read x) (n + 1, (s, Waiting x))
waits n s x is le bd ne = record {
  behind = omega arith;
  bounded = omega arith;
  fits = (omega arith, omega arith);
  others = λ d g _. more n s d g;
  fresh = λ _. inr (omega arith);
  counted = omega arith;
  first = inl refl;
}

tries : (n s x : ℕ) → x ≡ n → x ≤ s → s ≤ n → n ≤ most → n ≢ most → Change n s (Saw x) (n + 1, (s, Holding x))
tries n s x is low le bd ne = let here : x ≡ s = omega arith in record {
  behind = omega arith;
  bounded = omega arith;
  fits = (here, omega arith);
  others = λ d g _. more n s d g;
  fresh = λ _. inr (omega arith);
  counted = omega arith;
  first = inr (ap (λ (k : ℕ). k ∷ []) here, refl, inr (omega arith));
}

enters : (n s t : ℕ) → s ≡ t → s ≤ n → n ≤ most → t < n → Change n s (Waiting t) (n, (s, Holding t))
enters n s t is le bd below = record {
  behind = le;
  bounded = bd;
  fits = (sym is, below);
  others = λ d g _. g;
  fresh = λ _. inl refl;
  counted = omega arith;
  first = inr (ap (λ (k : ℕ). k ∷ []) (sym is), refl, inl (omega arith));
}

stays : (n s t : ℕ) → s ≤ n → n ≤ most → s ≤ t → t < n → Change n s (Waiting t) (n, (s, Waiting t))
stays n s t le bd a b = record {
  behind = le;
  bounded = bd;
  fits = (a, b);
  others = λ d g _. g;
  fresh = λ _. inl refl;
  counted = omega arith;
  first = inl refl;
}

leaves : (n s t : ℕ) → t ≡ s → s ≤ n → n ≤ most → t < n → Change n s (Holding t) (n, (t + 1, Idle))
leaves n s t is le bd below = record {
  behind = omega arith;
  bounded = bd;
  fits = tt;
  others = λ d g not. subst (λ (k : ℕ). FitsNumbers n (k + 1) d) (sym is) (served n s d g (λ e. not (omega arith) (let g : t + 1 ≡ ticket d = omega arith in g)));
  fresh = λ pos. absurd (omega arith);
  counted = omega arith;
  first = inl refl;
}

pub row_changes : (n s : ℕ) (e : Event) (c : Caller) (t : Turn) → row n s e c ≡ Ok t → s ≤ n → n ≤ most → FitsNumbers n s c → Change n s c t
row_changes n s (ReadNext i) Idle t e le bd f = took n s Idle _ t e (plain n s Idle (Read n) le bd refl refl refl refl refl (omega arith))
row_changes n s (ReadNext i) (Read x) t e le bd f = took n s (Read x) _ t e (plain n s (Read x) (Read n) le bd refl refl refl refl refl (omega arith))
row_changes n s (ReadNext i) (Saw x) t e le bd f = none_of n s (Saw x) _ t e
row_changes n s (ReadNext i) (Waiting x) t e le bd f = none_of n s (Waiting x) _ t e
row_changes n s (ReadNext i) (Holding x) t e le bd f = none_of n s (Holding x) _ t e
row_changes n s (Draw i) (Read x) t e le bd f = dite (ℕ_discrete n x)
    (λ hit. drawn n s x (Read x) (Waiting x) t (subst (λ b. (if b then draw n s x (Waiting x) else Ok (n, (s, Read n))) ≡ Ok t) (eq-eqb n x hit) e) (λ ne. waits n s x (sym hit) le bd ne) (sym hit))
    (λ miss. took n s (Read x) (n, (s, Read n)) t (subst (λ b. (if b then draw n s x (Waiting x) else Ok (n, (s, Read n))) ≡ Ok t) (ne_eqb n x miss) e) (plain n s (Read x) (Read n) le bd refl refl refl refl refl (omega arith)))
row_changes n s (Draw i) Idle t e le bd f = none_of n s Idle _ t e
row_changes n s (Draw i) (Saw x) t e le bd f = none_of n s (Saw x) _ t e
row_changes n s (Draw i) (Waiting x) t e le bd f = none_of n s (Waiting x) _ t e
row_changes n s (Draw i) (Holding x) t e le bd f = none_of n s (Holding x) _ t e
row_changes n s (Look i) (Waiting x) t e le bd f = dite (ℕ_discrete s x)
    (λ hit. took n s (Waiting x) (n, (s, Holding x)) t (subst (λ b. ok (n, (s, (if b then Holding x else Waiting x))) ≡ Ok t) (eq-eqb s x hit) e) (enters n s x hit le bd f.1))
    (λ miss. took n s (Waiting x) (n, (s, Waiting x)) t (subst (λ b. ok (n, (s, (if b then Holding x else Waiting x))) ≡ Ok t) (ne_eqb s x miss) e) (stays n s x le bd f.0 f.1))
row_changes n s (Look i) Idle t e le bd f = none_of n s Idle _ t e
row_changes n s (Look i) (Read x) t e le bd f = none_of n s (Read x) _ t e
row_changes n s (Look i) (Saw x) t e le bd f = none_of n s (Saw x) _ t e
row_changes n s (Look i) (Holding x) t e le bd f = none_of n s (Holding x) _ t e
row_changes n s (Leave i) (Holding x) t e le bd f = took n s (Holding x) _ t e (leaves n s x f.0 le bd f.1)
row_changes n s (Leave i) Idle t e le bd f = none_of n s Idle _ t e
row_changes n s (Leave i) (Read x) t e le bd f = none_of n s (Read x) _ t e
row_changes n s (Leave i) (Saw x) t e le bd f = none_of n s (Saw x) _ t e
row_changes n s (Leave i) (Waiting x) t e le bd f = none_of n s (Waiting x) _ t e
row_changes n s (ReadServing i) Idle t e le bd f = took n s Idle _ t e (plain n s Idle (Saw s) le bd refl refl refl refl refl (omega arith))
row_changes n s (ReadServing i) (Read x) t e le bd f = none_of n s (Read x) _ t e
row_changes n s (ReadServing i) (Saw x) t e le bd f = none_of n s (Saw x) _ t e
row_changes n s (ReadServing i) (Waiting x) t e le bd f = none_of n s (Waiting x) _ t e
row_changes n s (ReadServing i) (Holding x) t e le bd f = none_of n s (Holding x) _ t e
row_changes n s (TryDraw i) (Saw x) t e le bd f = dite (ℕ_discrete n x)
    (λ hit. drawn n s x (Saw x) (Holding x) t (subst (λ b. (if b then draw n s x (Holding x) else Ok (n, (s, Idle))) ≡ Ok t) (eq-eqb n x hit) e) (λ ne. tries n s x (sym hit) f le bd ne) (sym hit))
    (λ miss. took n s (Saw x) (n, (s, Idle)) t (subst (λ b. (if b then draw n s x (Holding x) else Ok (n, (s, Idle))) ≡ Ok t) (ne_eqb n x miss) e) (plain n s (Saw x) Idle le bd refl refl refl refl refl tt))
row_changes n s (TryDraw i) Idle t e le bd f = none_of n s Idle _ t e
row_changes n s (TryDraw i) (Read x) t e le bd f = none_of n s (Read x) _ t e
row_changes n s (TryDraw i) (Waiting x) t e le bd f = none_of n s (Waiting x) _ t e
row_changes n s (TryDraw i) (Holding x) t e le bd f = none_of n s (Holding x) _ t e
