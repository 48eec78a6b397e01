-- Who is told once more has the hint already.
use Rattle.std.proofs.Common.{◌≡◌, ℕ, true, List, [], length, set, refl, ap, ◌∙◌, inl, inr}
use Rattle.std.specs.Prelude.{Option, Some, None}
use Rattle.std.specs.Option.{option_map_or}
use Rattle.std.proofs.lemmas.Bool.{cases_lt}
use Rattle.std.proofs.lemmas.List.{get_or-set_same, set-set, set_past}
use Rattle.smx_turns.specs.declared.gate.Party.{Party}
use Rattle.smx_turns.specs.declared.gate.Party.TheVariants as party
use Rattle.smx_slots.specs.Hints.{Hinted, row_of, with_hint, hinted_by}

set_again : (slot lane : ℕ) (hints : Hinted) → with_hint true slot lane (with_hint true slot lane hints) ≡ with_hint true slot lane hints
set_again slot lane hints = let row = set (row_of slot hints) lane true in elim (cases_lt slot (length hints)) [
  | inl below ↦ ap (λ r. set (set hints slot row) slot (set r lane true)) (get_or-set_same hints slot row [] below)
      ∙ set-set hints slot row (set row lane true) ∙ ap (set hints slot) (set-set (row_of slot hints) lane true true)
  | inr above ↦ ap (λ h. set h slot (set (row_of slot h) lane true)) (set_past hints slot row above)
]

again : (lane : ℕ) (found : Option ℕ) (hints : Hinted)
    → option_map_or (λ slot. with_hint true slot lane (option_map_or (λ s. with_hint true s lane hints) found hints)) found
    (option_map_or (λ s. with_hint true s lane hints) found hints)
    ≡ option_map_or (λ s. with_hint true s lane hints) found hints
again lane None hints = refl
again lane (Some slot) hints = set_again slot lane hints

pub told_again : (slot_of : ℕ → Option ℕ) (p : Party) (hints : Hinted) → hinted_by slot_of p (hinted_by slot_of p hints) ≡ hinted_by slot_of p hints
told_again slot_of (party.Client client lane) hints = again lane (slot_of client) hints
told_again slot_of (party.Lane lane) hints = refl
told_again slot_of (party.Answer lane) hints = refl
told_again slot_of (party.Slot slot) hints = refl
