-- Each step of the machine is a row of the event table.
use Rattle.std.proofs.Common.{◌≡◌, ℕ, ◌≤◌, length, set, refl, ap, ◌∙◌, subst, Result, Ok, Err}
use mathlib.Core.Option.{Option, none, some}
use lib.ListN.{get_elem?}
use Rattle.smx_ticket_core.specs.declared.callers.Caller.{Caller}
use Rattle.smx_ticket_core.specs.declared.callers.Event.{Event}
use Rattle.smx_ticket_core.specs.declared.callers.Illegal.{Illegal}
use Rattle.smx_ticket_core.specs.declared.callers.Illegal.TheVariants.{NoCaller}
use Rattle.smx_ticket_core.specs.Machine.{Machine, who, Turn, row, after_turn, at_caller, after}
use Rattle.smx_ticket_core.proofs.Lists.{no_more}

abbrev pub changed : Machine → ℕ → Turn → Machine
changed m i t = record { next = t.0; serving = t.1.0; callers = set m.callers i t.1.1 }

-- a legal event is a row of the table
abbrev pub Rowed : Machine → Event → Machine → Type 0
Rowed m e n = (c : Caller) × (t : Turn) × (get_elem? m.callers (who e) ≡ some c) × (row m.next m.serving e c ≡ Ok t) × (n ≡ changed m (who e) t)

by_row : (m : Machine) (e : Event) (n : Machine) (c : Caller) (r : Result Turn Illegal) → get_elem? m.callers (who e) ≡ some c → row m.next m.serving e c ≡ r → after_turn m (who e) r ≡ Ok n → Rowed m e n
by_row m e n c (Ok t) at is go = (c, t, at, is, cc)
by_row m e n c (Err x) at is go = absurd (cc)

by_caller : (m : Machine) (e : Event) (n : Machine) (o : Option Caller) → get_elem? m.callers (who e) ≡ o → at_caller m e o ≡ Ok n → Rowed m e n
by_caller m e n none at go = absurd (cc)
by_caller m e n (some c) at go = by_row m e n c (row m.next m.serving e c) at refl go

pub after_row : (m : Machine) (e : Event) (n : Machine) → after m e ≡ Ok n → Rowed m e n
after_row m e n go = by_caller m e n (get_elem? m.callers (who e)) refl go

pub row_after : (m : Machine) (e : Event) (c : Caller) (t : Turn) → get_elem? m.callers (who e) ≡ some c → row m.next m.serving e c ≡ Ok t → after m e ≡ Ok (changed m (who e) t)
row_after m e c t at is = ap (at_caller m e) at ∙ ap (after_turn m (who e)) is

pub nobody : (m : Machine) (e : Event) (i : ℕ) → i ≡ who e → length m.callers ≤ i → after m e ≡ Err NoCaller
nobody m e i is h = ap (at_caller m e) (no_more m.callers (who e) (subst (λ (k : ℕ). length m.callers ≤ k) is h))

pub refused : (m : Machine) (e : Event) (c : Caller) (x : Illegal) → get_elem? m.callers (who e) ≡ some c → row m.next m.serving e c ≡ Err x → after m e ≡ Err x
refused m e c x at is = ap (at_caller m e) at ∙ ap (after_turn m (who e)) is
