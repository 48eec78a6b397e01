use Rattle.std.proofs.Common.{◌≡◌, ◌++◌, ◌∷◌, ◌-◌, ◌<◌, ℕ, List, length, take, drop, ap, sym, ◌∙◌, append_assoc, get_or, rules}
use Rattle.std.proofs.lemmas.List.{take-append-drop, take_rest}
use Rattle.std.proofs.KnownBytes.{Appends-trans}
use Rattle.std.proofs.Math.Seq.{drop-cons}
use Rattle.smx_whole_text.proofs.writing.write_text.Goals as goal

-- a rest that isn't empty begins with an octet
begun : (text front rest : List ℕ) → text ≡ front ++ rest → 0 < length rest → text ≡ front ++ get_or rest 0 0 ∷ drop 1 rest
begun text front rest e lt = e ∙ ap (λ (r : List ℕ). front ++ r) (drop-cons rest 0 0 lt)

-- more of the rest goes to the front
moved : (text front rest : List ℕ) (n : ℕ) → text ≡ front ++ rest → text ≡ (front ++ take n rest) ++ take (length rest - n) (drop n rest)
moved text front rest n e =
    e ∙ ap (λ (r : List ℕ). front ++ r) (sym (take-append-drop n rest)) ∙ sym (append_assoc front (take n rest) (drop n rest))
    ∙ ap (λ (r : List ℕ). (front ++ take n rest) ++ r) (sym (take_rest rest n))

pub loop-rest-preserved : goal.loop-rest-preserved
loop-rest-preserved g c =
    let before = c.loop-rest.invariant in
    (before.0 ++ take c.in-Ok.count c.loop-rest.rest.now, moved c.args.text.now before.0 c.loop-rest.rest.now c.in-Ok.count before.1, Appends-trans _ _ _ _ _ before.2 c.in-Ok.ensures.bytes)

pub returns-then-count-eq0-clause-err : goal.returns-then-count-eq0-clause-err
returns-then-count-eq0-clause-err g c =
    let before = c.loop-rest.invariant in
    let rest = c.loop-rest.rest.now in
    (before.0, get_or rest 0 0, drop 1 rest, begun c.args.text.now before.0 rest before.1 (search rules), search rules)

pub returns-in-Err-clause-err : goal.returns-in-Err-clause-err
returns-in-Err-clause-err g c =
    let before = c.loop-rest.invariant in
    let rest = c.loop-rest.rest.now in
    (before.0, get_or rest 0 0, drop 1 rest, begun c.args.text.now before.0 rest before.1 (search rules), search rules)
