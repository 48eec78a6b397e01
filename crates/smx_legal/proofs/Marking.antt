-- The marks of the earlier shifts and of the list that grows, and the totals that are counted of them.
use Rattle.std.specs.Prelude.{if◌then◌else◌}
use Rattle.std.proofs.Common.{◌≡◌, ◌≤◌, ◌<◌, ◌+◌, ◌*◌, ℕ, List, [], ◌∷◌, ◌++◌, length, map, take, drop, get_or, refl, sym, ◌∙◌, ap, subst, arith, append_assoc, Option, Some, None, add-one, drop-cons}
use Rattle.std.proofs.Math.Seq.{take-suc}
use Rattle.std.specs.Global.{Vec}
use Rattle.std.proofs.lemmas.List.{append-nil, map-append, take-append-drop}
use Rattle.std.proofs.lemmas.List.Elements.{filter_map-append}
use Rattle.smx_history.specs.declared.entry.Entry.{Entry}
use Rattle.smx_history.specs.declared.limits.Limits.{Limits}
use Rattle.smx_history.specs.Shifts.{entries_among, since, stored_among, marks_in}
use Rattle.smx_history.specs.Legal.{IsLegal, KeepsRules, owed_count}
use Rattle.smx_history.proofs.Fitting.{Fits}
use Rattle.smx_history.proofs.Joining.{marks_in-append}
use Rattle.smx_history.proofs.Shifting.{noted-some, IsLegal-within, IsLegal-next, IsLegal-shift, IsLegal-start}
use Rattle.smx_legal.specs.declared.totals.Totals.{Totals}
use Rattle.smx_legal.specs.Checks.{Counted, lists_of, entries_in}

-- the marks of a shift more, which so far has these entries
unfoldable pub so_far : List (Option Entry) → List Entry → List (Option Entry)
so_far marks es = marks ++ None ∷ map Some es

so_far-push : (marks : List (Option Entry)) (es : List Entry) (e : Entry) → so_far marks (es ++ e ∷ []) ≡ so_far marks es ++ Some e ∷ []
unfolding so_far
so_far-push marks es e = ap (λ xs. marks ++ None ∷ xs) (map-append Some es (e ∷ [])) ∙ sym (append_assoc marks (None ∷ map Some es) (Some e ∷ []))

since-some : (xs es : List Entry) → since xs (map Some es) ≡ xs ++ es
since-some xs [] = sym (append-nil xs)
since-some xs (e ∷ es) = since-some (xs ++ e ∷ []) es ∙ append_assoc xs (e ∷ []) es

since-shift : (xs : List Entry) (marks : List (Option Entry)) (es : List Entry) → since xs (marks ++ None ∷ map Some es) ≡ es
since-shift xs [] es = since-some [] es
since-shift xs (None ∷ marks) es = since-shift [] marks es
since-shift xs (Some e ∷ marks) es = since-shift (xs ++ e ∷ []) marks es

pub stored-so_far : (marks : List (Option Entry)) (es : List Entry) → stored_among (so_far marks es) ≡ es
unfolding so_far
stored-so_far marks es = since-shift [] marks es

noted-so_far : (marks : List (Option Entry)) (before : List Entry) → entries_among marks ≡ before → (es : List Entry) → entries_among (so_far marks es) ≡ before ++ es
unfolding so_far
noted-so_far marks before is es = filter_map-append (λ mark. mark) marks (None ∷ map Some es) ∙ ap (λ xs. entries_among marks ++ xs) (noted-some es) ∙ ap (λ xs. xs ++ es) is

-- what is legal so far keeps the rules, and its size is within the limit
pub so_far-rules : (limits : Limits) (marks : List (Option Entry)) (before : List Entry) → entries_among marks ≡ before → (es : List Entry) → IsLegal limits (so_far marks es) → KeepsRules limits (before ++ es)
so_far-rules limits marks before is es h = subst (λ (xs : List Entry). KeepsRules limits xs) (noted-so_far marks before is es) h.rules

so_far-within : (limits : Limits) (marks : List (Option Entry)) (before : List Entry) → entries_among marks ≡ before → (es : List Entry) → IsLegal limits (so_far marks es) → length es + owed_count (before ++ es) ≤ limits.history
so_far-within limits marks before is es h =
    let was = IsLegal-within limits (so_far marks es) h in
    let s : length (stored_among (so_far marks es)) ≡ length es = ap length (stored-so_far marks es) in
    let o : owed_count (entries_among (so_far marks es)) ≡ owed_count (before ++ es) = ap owed_count (noted-so_far marks before is es) in
    omega (arith, was, s, o)

-- one entry more
pub so_far-next : (limits : Limits) (marks : List (Option Entry)) (before : List Entry) → entries_among marks ≡ before → (es : List Entry) (e : Entry) → IsLegal limits (so_far marks es) → Fits limits (before ++ es) e → length es + 1 + owed_count ((before ++ es) ++ e ∷ []) ≤ limits.history → IsLegal limits (so_far marks (es ++ e ∷ []))
so_far-next limits marks before is es e h fits within = rw (so_far-push marks es e)
    (IsLegal-next limits (so_far marks es) e h (rw (noted-so_far marks before is es) fits) (rw (stored-so_far marks es, noted-so_far marks before is es) within))

-- and what comes before
pub so_far-start : (limits : Limits) (marks : List (Option Entry)) (xs ys : List Entry) → IsLegal limits (so_far marks (xs ++ ys)) → IsLegal limits (so_far marks xs)
unfolding so_far
so_far-start limits marks xs ys h =
    IsLegal-start limits (so_far marks xs) (map Some ys)
    (subst (λ (zs : List (Option Entry)). IsLegal limits zs) (ap (λ zs. marks ++ None ∷ zs) (map-append Some xs ys) ∙ sym (append_assoc marks (None ∷ map Some xs) (map Some ys))) h)

-- a shift is always legal
pub so_far-begin : (limits : Limits) (marks : List (Option Entry)) → IsLegal limits marks → IsLegal limits (so_far marks [])
unfolding so_far
so_far-begin limits marks h = IsLegal-shift limits marks h

-- the lists up to one are those before it and that one
pub marks_in-push : (lists : List (List Entry)) (es : List Entry) → marks_in (lists ++ es ∷ []) ≡ so_far (marks_in lists) es
unfolding so_far
marks_in-push [] es = ap (λ xs. None ∷ xs) (append-nil (map Some es))
marks_in-push (xs ∷ lists) es = ap (λ ys. None ∷ map Some xs ++ ys) (marks_in-push lists es) ∙ ap (λ ys. None ∷ ys) (sym (append_assoc (map Some xs) (marks_in lists) (None ∷ map Some es)))

-- so the lists before one are legal where all are
pub lists-start : (limits : Limits) (xs ys : List (List Entry)) → IsLegal limits (marks_in (xs ++ ys)) → IsLegal limits (marks_in xs)
lists-start limits xs ys h = IsLegal-start limits (marks_in xs) (marks_in ys) (subst (λ (zs : List (Option Entry)). IsLegal limits zs) (marks_in-append xs ys) h)

-- what the totals add up to is the size
pub size_within : (limits : Limits) (marks : List (Option Entry)) (before : List Entry) → entries_among marks ≡ before → (es : List Entry) (t : Totals) → IsLegal limits (so_far marks es) → Counted (before ++ es) t → length es + 3 * t.queued + 2 * t.unanswered + t.waiting + t.present + (if t.up then 1 else 0) ≤ limits.history
size_within limits marks before is es t legal counted =
    let within = so_far-within limits marks before is es legal in
    omega (arith, within, counted.queued, counted.unanswered, counted.waiting, counted.present, ap {B = ℕ} (λ b. if b then 1 else 0) counted.up)

-- the entries of the lists are those of their marks
pub noted-earlier : (lists : List (Vec Entry)) → entries_among (marks_in (lists_of lists)) ≡ entries_in lists
noted-earlier [] = refl
noted-earlier (es ∷ lists) =
    filter_map-append (λ mark. mark) (map Some es.items) (marks_in (lists_of lists)) ∙ ap (λ xs. xs ++ entries_among (marks_in (lists_of lists))) (noted-some es.items) ∙ ap (λ xs. es.items ++ xs) (noted-earlier lists)

entries_in-append : (xs ys : List (Vec Entry)) → entries_in (xs ++ ys) ≡ entries_in xs ++ entries_in ys
entries_in-append [] ys = refl
entries_in-append (es ∷ xs) ys = ap (λ zs. es.items ++ zs) (entries_in-append xs ys) ∙ sym (append_assoc es.items (entries_in xs) (entries_in ys))

-- the lists up to one are those before it and that one
up_to : (xs : List (Vec Entry)) (i : ℕ) (d : Vec Entry) → i < length xs → take (i + 1) xs ≡ take i xs ++ get_or xs i d ∷ []
up_to xs i d within = rw add-one (take-suc xs i d within)

pub entries_in-next : (xs : List (Vec Entry)) (i : ℕ) (d v : Vec Entry) (es : List Entry) → i < length xs → v ≡ get_or xs i d → es ≡ v.items → entries_in (take (i + 1) xs) ≡ entries_in (take i xs) ++ es
entries_in-next xs i d v es within at is =
    ap entries_in (up_to xs i d within) ∙ entries_in-append (take i xs) (get_or xs i d ∷ []) ∙ ap (λ ys. entries_in (take i xs) ++ ys) (append-nil (get_or xs i d).items ∙ ap (λ ys. ys.items) (sym at) ∙ sym is)

pub marks_in-next : (xs : List (Vec Entry)) (i : ℕ) (d v : Vec Entry) (es : List Entry) → i < length xs → v ≡ get_or xs i d → es ≡ v.items → marks_in (lists_of (take (i + 1) xs)) ≡ so_far (marks_in (lists_of (take i xs))) es
marks_in-next xs i d v es within at is =
    ap (λ ys. marks_in (lists_of ys)) (up_to xs i d within) ∙ ap marks_in (map-append (λ es. es.items) (take i xs) (get_or xs i d ∷ [])) ∙ marks_in-push (lists_of (take i xs)) (get_or xs i d).items
    ∙ ap (so_far (marks_in (lists_of (take i xs)))) (ap (λ ys. ys.items) (sym at) ∙ sym is)

-- and those from one on that one and the rest
pub entries_in-rest : (xs : List (Vec Entry)) (i : ℕ) (d v : Vec Entry) (es : List Entry) → i < length xs → v ≡ get_or xs i d → es ≡ v.items → entries_in (drop i xs) ≡ es ++ entries_in (drop (i + 1) xs)
entries_in-rest xs i d v es within at is = rw (add-one, drop-cons xs i d, is, at) refl

pub lists-before : (limits : Limits) (xs : List (Vec Entry)) (i : ℕ) → IsLegal limits (marks_in (lists_of xs)) → IsLegal limits (marks_in (lists_of (take i xs)))
lists-before limits xs i h =
    lists-start limits (lists_of (take i xs)) (lists_of (drop i xs))
    (subst (λ (zs : List (List Entry)). IsLegal limits (marks_in zs)) (ap lists_of (sym (take-append-drop i xs)) ∙ map-append (λ es. es.items) (take i xs) (drop i xs)) h)
