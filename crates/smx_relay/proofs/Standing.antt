-- Where the engine stands before a line, and what follows from it.
use Rattle.std.proofs.Common.{◌≡◌, ℕ, ◌+◌, ◌-◌, ◌<◌, ◌≤◌, List, [], ◌∷◌, ◌++◌, length, drop, take, Bool, true, false, Option, Some, None, sym, ap, subst, ◌∙◌, append_assoc, arith}
use Rattle.std.specs.Global.{Vec}
use Rattle.std.specs.Prelude.{IfSome}
use Rattle.std.proofs.Common.{Bor, map, get_or}
use Rattle.std.proofs.lemmas.List.{drop_more, get_or-map, length-map}
use Rattle.std.specs.Io.KnownBytes.{Appends}
use Rattle.std.proofs.KnownBytes.{Appends-nil, Appends-trans}
use Rattle.std.proofs.lemmas.List.{drop_all}
use Rattle.std.proofs.Math.Seq.{take-add}
use Rattle.smx_lines.specs.declared.state.State.{State}
use Rattle.smx_script.specs.Script.{lines_of}
use Rattle.smx_lines.specs.Texts.{bad_line}
use Rattle.smx_lines.specs.Relay.{Relay, new_relay}
use Rattle.smx_lines.specs.Turns.{Lines}
use Rattle.smx_relay.specs.Runs.{Runs, RunsTo, Relays, StopsAt}
use Rattle.smx_lines.specs.States.{StandsFor, TurnLeaves, MayPrint}
use Rattle.smx_lines.proofs.Placing.{stands_placed}
use Rattle.smx_relay.specs.Ends.{BeginsRelay, BreaksOff}
use Rattle.smx_relay.proofs.Running.{SoFar, so_far_start, so_far_more, so_far_end, so_far_bad, so_far_front, so_far_part, runs_on, runs_to_start, runs_to_more}
use Rattle.smx_relay.specs.Sizes.{is_too_large}

-- the state stands for some history, and what was written goes before what the lines from the i-th on print
abbrev pub Stands : Option (List ℕ) → Option (List ℕ) → State → ℕ → List (List ℕ) → Type 0
Stands before now state i lines = (s : Relay) × StandsFor state s × (written : List ℕ) × Appends before now written × SoFar (i + 1) s (drop i lines) lines written × RunsTo new_relay (take i lines) written s

-- whether the run is too large in this state
abbrev pub Sizes : State → Bool → Type 0
Sizes state large = (s : Relay) → StandsFor state s → is_too_large s ≡ large

-- the lines before the next, and that line
one_more : (i : ℕ) (line : List ℕ) (lines : List (List ℕ)) → drop i lines ≡ line ∷ drop (i + 1) lines → take (i + 1) lines ≡ take i lines ++ line ∷ []
one_more i line lines at = take-add i 1 lines ∙ ap (λ (ls : List (List ℕ)). take i lines ++ take 1 ls) at

-- what a line's turn may have printed and left
abbrev pub Turns : State → List ℕ → State → Option (Vec ℕ) → Type 0
Turns old line new text = (s : Relay) → StandsFor old s → MayPrint (Lines s line) new text

prints_some : (May : Option (List ℕ × Relay) → Type 0) (state : State) (text : Vec ℕ) → MayPrint May state (Some text) → (x : List ℕ × Relay) × May (Some x) × TurnLeaves x state text.items
prints_some May state text (None, may, p) = absurd p
prints_some May state text (Some x, may, p) = (x, may, p)

prints_none : (May : Option (List ℕ × Relay) → Type 0) (state : State) → MayPrint May state None → May None
prints_none May state (None, may, p) = may
prints_none May state (Some x, may, p) = absurd p

pub stands_start : (known : Option (List ℕ)) (state : State) (lines : List (List ℕ)) → StandsFor state new_relay → Stands known known state 0 lines
stands_start known state lines agrees = (new_relay, agrees, [], Appends-nil known, so_far_start lines, runs_to_start new_relay)

pub stands_more : (a b c : Option (List ℕ)) (old new : State) (i : ℕ) (lines : List (List ℕ)) (line : List ℕ) (text : Vec ℕ) → drop i lines ≡ line ∷ drop (i + 1) lines → Stands a b old i lines → Sizes old false → Turns old line new (Some text) → Appends b c text.items → Stands a c new (i + 1) lines
stands_more a b c old new i lines line text at stands small turns wrote =
    let s = stands.0 in
    let found = prints_some (Lines s line) new text (turns s stands.1) in
    let here : SoFar (i + 1) s (line ∷ drop (i + 1) lines) lines stands.2 = subst (λ (ls : List (List ℕ)). SoFar (i + 1) s ls lines stands.2) at stands.4 in
    let next = so_far_more (i + 1) s line (drop (i + 1) lines) lines stands.2 found.0 here found.1 in
    let ran = runs_to_more new_relay (take i lines) stands.2 s line found.0 stands.5 (small s stands.1) found.1 in
    let wrote_more : RunsTo new_relay (take i lines ++ line ∷ []) (stands.2 ++ text.items) found.0.1 = subst (λ (t : List ℕ). RunsTo new_relay (take i lines ++ line ∷ []) (stands.2 ++ t) found.0.1) (sym found.2.text) ran in
    let came : RunsTo new_relay (take (i + 1) lines) (stands.2 ++ text.items) found.0.1 = subst (λ (ls : List (List ℕ)). RunsTo new_relay ls (stands.2 ++ text.items) found.0.1) (sym (one_more i line lines at)) wrote_more in
    (found.0.1, found.2.left, stands.2 ++ text.items, Appends-trans a b c stands.2 text.items stands.3 wrote, subst (λ (t : List ℕ). SoFar (i + 1 + 1) found.0.1 (drop (i + 1) lines) lines (stands.2 ++ t)) (sym found.2.text) next, came)

pub stands_end : (a b : Option (List ℕ)) (state : State) (i : ℕ) (lines : List (List ℕ)) (script : List ℕ) → length lines ≤ i → lines ≡ lines_of script → Stands a b state i lines → (out : List ℕ) × Appends a b out × Relays script out None
stands_end a b state i lines script past same stands =
    let here : SoFar (i + 1) stands.0 [] lines stands.2 = subst (λ (ls : List (List ℕ)). SoFar (i + 1) stands.0 ls lines stands.2) (drop_all i lines past) stands.4 in
    (stands.2, stands.3, subst (λ (ls : List (List ℕ)). Runs 1 new_relay ls stands.2 None) same (so_far_end (i + 1) stands.0 lines stands.2 here))

pub stands_front : (a b : Option (List ℕ)) (state : State) (i : ℕ) (lines : List (List ℕ)) (script : List ℕ) → lines ≡ lines_of script → Stands a b state i lines → (out : List ℕ) × Appends a b out × BeginsRelay script out
stands_front a b state i lines script same stands =
    let whole = so_far_front (i + 1) stands.0 (drop i lines) lines stands.2 (stands_placed state stands.0 stands.1) stands.4 in
    (stands.2, stands.3, (whole.0, whole.1, subst (λ (ls : List (List ℕ)). Runs 1 new_relay ls (stands.2 ++ whole.0) whole.1) same whole.2))

-- the run is too large before the next line
pub stands_stop : (a b : Option (List ℕ)) (state : State) (i n : ℕ) (lines : List (List ℕ)) (script : List ℕ) → n ≡ i + 1 → lines ≡ lines_of script → Stands a b state i lines → Sizes state true
    → (out : List ℕ) × Appends a b out × (StopsAt script n out × BeginsRelay script out)
stands_stop a b state i n lines script e same stands large =
    let whole = so_far_front (i + 1) stands.0 (drop i lines) lines stands.2 (stands_placed state stands.0 stands.1) stands.4 in
    let front : BeginsRelay script stands.2 = (whole.0, whole.1, subst (λ (ls : List (List ℕ)). Runs 1 new_relay ls (stands.2 ++ whole.0) whole.1) same whole.2) in
    let before : take i lines ≡ take (n - 1) (lines_of script) = ap (λ (ls : List (List ℕ)). take i ls) same ∙ ap (λ (k : ℕ). take k (lines_of script)) (omega (arith, e)) in
    let ran : RunsTo new_relay (take (n - 1) (lines_of script)) stands.2 stands.0 = subst (λ (ls : List (List ℕ)). RunsTo new_relay ls stands.2 stands.0) before stands.5 in
    (stands.2, stands.3, ((stands.0, ran, large stands.0 stands.1), front))

-- a part of what the line prints was written
pub stands_part : (a b c : Option (List ℕ)) (old new : State) (i : ℕ) (lines : List (List ℕ)) (script line : List ℕ) (text : Vec ℕ) → lines ≡ lines_of script → drop i lines ≡ line ∷ drop (i + 1) lines → Stands a b old i lines → Turns old line new (Some text)
    → (front : List ℕ) × (octet : ℕ) × (back : List ℕ) × (text.items ≡ front ++ octet ∷ back) × Appends b c front → (out : List ℕ) × Appends a c out × BreaksOff script out
stands_part a b c old new i lines script line text same at stands turns wrote =
    let s = stands.0 in
    let found = prints_some (Lines s line) new text (turns s stands.1) in
    let here : SoFar (i + 1) s (line ∷ drop (i + 1) lines) lines stands.2 = subst (λ (ls : List (List ℕ)). SoFar (i + 1) s ls lines stands.2) at stands.4 in
    let next = so_far_more (i + 1) s line (drop (i + 1) lines) lines stands.2 found.0 here found.1 in
    let whole = so_far_part wrote.0 wrote.1 wrote.2 found.0.0 (i + 1 + 1) found.0.1 (drop (i + 1) lines) lines stands.2 (sym found.2.text ∙ wrote.3) (stands_placed new found.0.1 found.2.left) next in
    (stands.2 ++ wrote.0, Appends-trans a b c stands.2 wrote.0 stands.3 wrote.4, (wrote.1, whole.0, whole.1, subst (λ (ls : List (List ℕ)). Runs 1 new_relay ls ((stands.2 ++ wrote.0) ++ wrote.1 ∷ whole.0) whole.1) same whole.2))

pub stands_bad : (a b c : Option (List ℕ)) (old new : State) (i : ℕ) (lines : List (List ℕ)) (script line text : List ℕ) → lines ≡ lines_of script → drop i lines ≡ line ∷ drop (i + 1) lines → Stands a b old i lines → Turns old line new None → text ≡ bad_line (i + 1) → Appends b c text
    → (out : List ℕ) × Appends a c out × Relays script out (Some (i + 1))
stands_bad a b c old new i lines script line text same at stands turns e wrote =
    let s = stands.0 in
    let here : SoFar (i + 1) s (line ∷ drop (i + 1) lines) lines stands.2 = subst (λ (ls : List (List ℕ)). SoFar (i + 1) s ls lines stands.2) at stands.4 in
    let whole = so_far_bad (i + 1) s line (drop (i + 1) lines) lines stands.2 here (prints_none (Lines s line) new (turns s stands.1)) in
    (stands.2 ++ text, Appends-trans a b c stands.2 text stands.3 wrote, subst (λ (t : List ℕ). Relays script (stands.2 ++ t) (Some (i + 1))) (sym e) (subst (λ (ls : List (List ℕ)). Runs 1 new_relay ls (stands.2 ++ bad_line (i + 1)) (Some (i + 1))) same whole))

pub stands_bad_part : (a b c : Option (List ℕ)) (old new : State) (i : ℕ) (lines : List (List ℕ)) (script line text : List ℕ) → lines ≡ lines_of script → drop i lines ≡ line ∷ drop (i + 1) lines → Stands a b old i lines → Turns old line new None → text ≡ bad_line (i + 1)
    → (front : List ℕ) × (octet : ℕ) × (back : List ℕ) × (text ≡ front ++ octet ∷ back) × Appends b c front → (out : List ℕ) × Appends a c out × BreaksOff script out
stands_bad_part a b c old new i lines script line text same at stands turns e wrote =
    let s = stands.0 in
    let here : SoFar (i + 1) s (line ∷ drop (i + 1) lines) lines stands.2 = subst (λ (ls : List (List ℕ)). SoFar (i + 1) s ls lines stands.2) at stands.4 in
    let whole = so_far_bad (i + 1) s line (drop (i + 1) lines) lines stands.2 here (prints_none (Lines s line) new (turns s stands.1)) in
    let parts : stands.2 ++ bad_line (i + 1) ≡ (stands.2 ++ wrote.0) ++ wrote.1 ∷ wrote.2 = ap (λ (t : List ℕ). stands.2 ++ t) (sym e ∙ wrote.3) ∙ sym (append_assoc stands.2 wrote.0 (wrote.1 ∷ wrote.2)) in
    (stands.2 ++ wrote.0, Appends-trans a b c stands.2 wrote.0 stands.3 wrote.4, (wrote.1, wrote.2, Some (i + 1), subst (λ (ls : List (List ℕ)). Runs 1 new_relay ls ((stands.2 ++ wrote.0) ++ wrote.1 ∷ wrote.2) (Some (i + 1))) same (subst (λ (t : List ℕ). Runs 1 new_relay lines t (Some (i + 1))) parts whole)))

-- nothing was written
pub stands_nothing : (known : Option (List ℕ)) (script : List ℕ) → (out : List ℕ) × Appends known known out × BeginsRelay script out
stands_nothing known script =
    let whole = runs_on 1 new_relay (lines_of script) tt in
    ([], Appends-nil known, (whole.0, whole.1, whole.2))

-- the lines from the i-th on
pub line_at : (xs : List (Bor (List ℕ))) (i : ℕ) (d : Bor (List ℕ)) → i < length xs → drop i (map (λ (b : Bor (List ℕ)). b.now) xs) ≡ (get_or xs i d).now ∷ drop (i + 1) (map (λ (b : Bor (List ℕ)). b.now) xs)
line_at xs i d lt =
    let lines = map (λ (b : Bor (List ℕ)). b.now) xs in
    let inside : i < length lines = omega (arith, length-map xs (λ (b : Bor (List ℕ)). b.now)) in
    drop_more lines i [] inside ∙ ap (λ (l : List ℕ). l ∷ drop (i + 1) lines) (get_or-map (λ (b : Bor (List ℕ)). b.now) xs i d [] lt)

pub lines_past : (xs : List (Bor (List ℕ))) (i : ℕ) → length xs ≤ i → length (map (λ (b : Bor (List ℕ)). b.now) xs) ≤ i
lines_past xs i le = omega (arith, length-map xs (λ (b : Bor (List ℕ)). b.now))

-- before anything is run
pub nothing_written : (remaining contents : Option (List ℕ)) → IfSome remaining (λ script. (out : List ℕ) × Appends contents contents out × BeginsRelay script out)
nothing_written None contents = tt
nothing_written (Some script) contents = stands_nothing contents script
