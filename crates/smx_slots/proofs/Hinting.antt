-- What is told of a slot and a lane stays until something else is told of both.
use Rattle.std.proofs.Common.{◌≡◌, ◌==◌, ◌&&◌, ◌<◌, ◌≤◌, ℕ, Bool, true, false, List, [], ◌∷◌, length, get_or, set, refl, ap, sym, ◌∙◌, subst, inl, inr, arith}
use Rattle.std.specs.Prelude.{if◌then◌else◌}
use Rattle.std.proofs.Math.ListN.{get_or-eq_default}
use Rattle.std.proofs.lemmas.Bool.{eq-eqb, ne_eqb, cases_eq, cases_lt}
use Rattle.std.proofs.lemmas.List.{get_or-set_same, get_or-set_other, length-set}
use Rattle.smx_slots.specs.Hints.{Hinted, Tiding, row_of, has_hint, with_hint, hints_of, last_of, is_of}
use Rattle.smx_slots.specs.Hints.Tiding.{Told, Emptied}

-- who has a mark has a row
within : (slot lane : ℕ) (hints : Hinted) → lane < length (row_of slot hints) → slot < length hints
within slot lane hints lt = elim (cases_lt slot (length hints)) [
  | inl below ↦ below
  | inr above ↦ absurd (omega (arith, lt, ap length (get_or-eq_default hints [] above)))
]

in_row : (m : Bool) (l lane : ℕ) (row : List Bool) → lane < length row → get_or (set row l m) lane false ≡ (if lane == l then m else get_or row lane false)
in_row m l lane row lt = elim (cases_eq lane l) [
  | inl e ↦ subst (λ k. get_or (set row k m) lane false ≡ m) e (get_or-set_same row lane m false lt) ∙ sym (ap (λ b. if b then m else get_or row lane false) (eq-eqb lane l e))
  | inr differ ↦ get_or-set_other row l lane m false differ ∙ sym (ap (λ b. if b then m else get_or row lane false) (ne_eqb lane l differ))
]

here : (m : Bool) (l slot lane : ℕ) (hints : Hinted) → lane < length (row_of slot hints) → has_hint slot lane (with_hint m slot l hints) ≡ (if lane == l then m else has_hint slot lane hints)
here m l slot lane hints lt =
    ap (λ r. get_or r lane false) (get_or-set_same hints slot (set (row_of slot hints) l m) [] (within slot lane hints lt)) ∙ in_row m l lane (row_of slot hints) lt

told : (m : Bool) (s l slot lane : ℕ) (hints : Hinted) → lane < length (row_of slot hints)
    → has_hint slot lane (with_hint m s l hints) ≡ (if is_of slot lane s l then m else has_hint slot lane hints)
told m s l slot lane hints lt = elim (cases_eq slot s) [
  | inl e ↦ subst (λ k. has_hint slot lane (with_hint m k l hints) ≡ (if is_of slot lane k l then m else has_hint slot lane hints)) e
      (here m l slot lane hints lt ∙ sym (ap (λ b. if b && (lane == l) then m else has_hint slot lane hints) (eq-eqb slot slot refl)))
  | inr differ ↦ ap (λ r. get_or r lane false) (get_or-set_other hints s slot (set (row_of s hints) l m) [] differ)
      ∙ sym (ap (λ b. if b && (lane == l) then m else has_hint slot lane hints) (ne_eqb slot s differ))
]

-- no mark more and none less
rows_kept : (m : Bool) (s l slot lane : ℕ) (hints : Hinted) → lane < length (row_of slot hints) → lane < length (row_of slot (with_hint m s l hints))
rows_kept m s l slot lane hints lt = elim (cases_eq slot s) [
  | inl e ↦ subst (λ k. lane < length (row_of slot (with_hint m k l hints))) e
      (omega (arith, lt, ap length (get_or-set_same hints slot (set (row_of slot hints) l m) [] (within slot lane hints lt)), length-set (row_of slot hints) l m))
  | inr differ ↦ omega (arith, lt, ap length (get_or-set_other hints s slot (set (row_of s hints) l m) [] differ))
]

pub hinted : (slot lane : ℕ) (ts : List Tiding) (hints : Hinted) → lane < length (row_of slot hints)
    → has_hint slot lane (hints_of ts hints) ≡ last_of slot lane ts (has_hint slot lane hints)
unfolding hints_of last_of
hinted slot lane [] hints lt = refl
hinted slot lane (Told s l ∷ ts) hints lt =
    hinted slot lane ts (with_hint true s l hints) (rows_kept true s l slot lane hints lt) ∙ ap (last_of slot lane ts) (told true s l slot lane hints lt)
hinted slot lane (Emptied s l ∷ ts) hints lt =
    hinted slot lane ts (with_hint false s l hints) (rows_kept false s l slot lane hints lt) ∙ ap (last_of slot lane ts) (told false s l slot lane hints lt)
