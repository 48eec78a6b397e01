-- A run, a line at a time.
use Rattle.std.proofs.Common.{◌≡◌, ℕ, ◌+◌, List, [], ◌∷◌, ◌++◌, Option, Some, None, false, refl, sym, ap, subst, ◌∙◌, append_assoc}
use Rattle.std.proofs.lemmas.List.{append-nil}
use Rattle.smx_lines.specs.Texts.{bad_line}
use Rattle.smx_lines.specs.Relay.{Relay, new_relay}
use Rattle.smx_lines.specs.Turns.{Lines}
use Rattle.smx_relay.specs.Runs.{Runs, RunsTo}
use Rattle.smx_relay.specs.Sizes.{is_too_large}
use Rattle.smx_lines.proofs.Lining.{some_line}
use Rattle.smx_lines.proofs.Placing.{ArePlacedOn}
use Rattle.smx_lines.proofs.PlacedTurns.{placed_line}

pub runs_end : (n : ℕ) (s : Relay) → Runs n s [] [] None
unfolding Runs
runs_end n s = (refl, refl)

pub runs_bad : (n : ℕ) (s : Relay) (line : List ℕ) (lines : List (List ℕ)) → Lines s line None → Runs n s (line ∷ lines) (bad_line n) (Some n)
unfolding Runs
runs_bad n s line lines bad = (None, bad, (refl, refl))

pub runs_more : (n : ℕ) (s : Relay) (line : List ℕ) (lines : List (List ℕ)) (x : List ℕ × Relay) (rest : List ℕ) (stop : Option ℕ) → Lines s line (Some x) → Runs (n + 1) x.1 lines rest stop → Runs n s (line ∷ lines) (x.0 ++ rest) stop
unfolding Runs
runs_more n s line lines x rest stop does r = (Some x, does, (rest, r, refl))

-- from each state whose takes are placed the lines may print something
pub runs_on : (n : ℕ) (s : Relay) (lines : List (List ℕ)) → ArePlacedOn s.lanes → (out : List ℕ) × (stop : Option ℕ) × Runs n s lines out stop
runs_on n s [] placed = ([], None, runs_end n s)
runs_on n s (line ∷ lines) placed =
    let turn = some_line s line placed in
    (elim turn.0 as (λ x. Lines s line x → (out : List ℕ) × (stop : Option ℕ) × Runs n s (line ∷ lines) out stop) [
      | None ↦ λ bad. (bad_line n, Some n, runs_bad n s line lines bad)
      | Some x ↦ λ does.
          let others = runs_on (n + 1) x.1 lines (placed_line s line (Some x) placed does) in
          (x.0 ++ others.0, others.1, runs_more n s line lines x others.0 others.1 does others.2)
    ]) turn.1

-- what was written, before whatever the lines from here print, is what all lines print
pub record SoFar (n : ℕ) (s : Relay) (lines all : List (List ℕ)) (written : List ℕ) : Type 0 where
  pub goes_on : (out : List ℕ) (stop : Option ℕ) → Runs n s lines out stop → Runs 1 new_relay all (written ++ out) stop

pub so_far_start : (all : List (List ℕ)) → SoFar 1 new_relay all all []
so_far_start all = record { goes_on = λ out stop r. r }

pub so_far_more : (n : ℕ) (s : Relay) (line : List ℕ) (lines all : List (List ℕ)) (written : List ℕ) (x : List ℕ × Relay) → SoFar n s (line ∷ lines) all written → Lines s line (Some x) → SoFar (n + 1) x.1 lines all (written ++ x.0)
so_far_more n s line lines all written x so_far does = record {
  goes_on = λ out stop r.
      let P : List ℕ → Type 0 = λ w. Runs 1 new_relay all w stop in
      subst P (sym (append_assoc written x.0 out)) (so_far.goes_on (x.0 ++ out) stop (runs_more n s line lines x out stop does r));
}

pub so_far_end : (n : ℕ) (s : Relay) (all : List (List ℕ)) (written : List ℕ) → SoFar n s [] all written → Runs 1 new_relay all written None
so_far_end n s all written so_far =
    let P : List ℕ → Type 0 = λ w. Runs 1 new_relay all w None in
    subst P (append-nil written) (so_far.goes_on [] None (runs_end n s))

pub so_far_bad : (n : ℕ) (s : Relay) (line : List ℕ) (lines all : List (List ℕ)) (written : List ℕ) → SoFar n s (line ∷ lines) all written → Lines s line None → Runs 1 new_relay all (written ++ bad_line n) (Some n)
so_far_bad n s line lines all written so_far bad = so_far.goes_on (bad_line n) (Some n) (runs_bad n s line lines bad)

-- what was written is a front of what all lines print
pub so_far_front : (n : ℕ) (s : Relay) (lines all : List (List ℕ)) (written : List ℕ) → ArePlacedOn s.lanes → SoFar n s lines all written → (more : List ℕ) × (stop : Option ℕ) × Runs 1 new_relay all (written ++ more) stop
so_far_front n s lines all written placed so_far =
    let others = runs_on n s lines placed in
    (others.0, others.1, so_far.goes_on others.0 others.1 others.2)

-- so it is with a front of what the next line prints
pub so_far_part : (front : List ℕ) (octet : ℕ) (back text : List ℕ) (n : ℕ) (s : Relay) (lines all : List (List ℕ)) (written : List ℕ) → text ≡ front ++ octet ∷ back → ArePlacedOn s.lanes → SoFar n s lines all (written ++ text) → (more : List ℕ) × (stop : Option ℕ) × Runs 1 new_relay all ((written ++ front) ++ octet ∷ more) stop
so_far_part front octet back text n s lines all written e placed so_far =
    let whole = so_far_front n s lines all (written ++ text) placed so_far in
    let P : List ℕ → Type 0 = λ w. Runs 1 new_relay all w whole.1 in
    (back ++ whole.0, whole.1, subst P (ap (λ (t : List ℕ). (written ++ t) ++ whole.0) e ∙ simp append_assoc) whole.2)

pub runs_to_start : (s : Relay) → RunsTo s [] [] s
unfolding RunsTo
runs_to_start s = (refl, refl)

-- one line more, before which the run isn't too large
pub runs_to_more : (s : Relay) (lines : List (List ℕ)) (out : List ℕ) (t : Relay) (line : List ℕ) (x : List ℕ × Relay) → RunsTo s lines out t → is_too_large t ≡ false → Lines t line (Some x) → RunsTo s (lines ++ line ∷ []) (out ++ x.0) x.1
unfolding RunsTo
runs_to_more s [] out t line x so_far small does =
    let at : Lines s line (Some x) = subst (λ (r : Relay). Lines r line (Some x)) (sym so_far.1) does in
    let fits : is_too_large s ≡ false = subst (λ (r : Relay). is_too_large r ≡ false) (sym so_far.1) small in
    (x, at, fits, [], (refl, refl), ap (λ (o : List ℕ). o ++ x.0) so_far.0 ∙ sym (append-nil x.0))
runs_to_more s (first ∷ lines) out t line x so_far small does =
    let rest = so_far.3 in
    let more = runs_to_more so_far.0.1 lines rest t line x so_far.4 small does in
    (so_far.0, so_far.1, so_far.2, rest ++ x.0, more, ap (λ (o : List ℕ). o ++ x.0) so_far.5 ∙ append_assoc so_far.0.0 rest x.0)
