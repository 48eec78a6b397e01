-- Histories that grow by an entry or by a shift.
use Rattle.std.proofs.Common.{◌≡◌, ◌≤◌, ◌+◌, List, [], ◌∷◌, ◌++◌, length, map, refl, sym, ◌∙◌, ap, subst, arith, length-append, append_assoc, Option, Some, None}
use Rattle.std.proofs.lemmas.List.{append-nil}
use Rattle.std.proofs.lemmas.List.Elements.{filter_map-append}
use Rattle.smx_history.specs.declared.entry.Entry.{Entry}
use Rattle.smx_history.specs.declared.limits.Limits.{Limits}
use Rattle.smx_history.specs.Shifts.{entries_among, since, stored_among}
use Rattle.smx_history.specs.Legal.{IsLegal, KeepsRules, IsWithin, size, owed_count}
use Rattle.smx_history.specs.Prefixes.{AtEachPrefix}
use Rattle.smx_history.proofs.Fitting.{Fits}
use Rattle.smx_history.proofs.ListPushes.{AtEachPrefix-push, AtEachPrefix-init, AtEachPrefix-whole}
use Rattle.smx_history.proofs.Following.{KeepsRules-next, KeepsRules-start}

since-append : (es : List Entry) (xs ys : List (Option Entry)) → since es (xs ++ ys) ≡ since (since es xs) ys
since-append es [] ys = refl
since-append es (None ∷ xs) ys = since-append [] xs ys
since-append es (Some e ∷ xs) ys = since-append (es ++ e ∷ []) xs ys

pub stored-push : (marks : List (Option Entry)) (e : Entry) → stored_among (marks ++ Some e ∷ []) ≡ stored_among marks ++ e ∷ []
stored-push marks e = since-append [] marks (Some e ∷ [])

pub stored-shift : (marks : List (Option Entry)) → stored_among (marks ++ None ∷ []) ≡ []
stored-shift marks = since-append [] marks (None ∷ [])

pub noted-push : (marks : List (Option Entry)) (e : Entry) → entries_among (marks ++ Some e ∷ []) ≡ entries_among marks ++ e ∷ []
noted-push marks e = filter_map-append (λ mark. mark) marks (Some e ∷ [])

pub noted-shift : (marks : List (Option Entry)) → entries_among (marks ++ None ∷ []) ≡ entries_among marks
noted-shift marks = filter_map-append (λ mark. mark) marks (None ∷ []) ∙ append-nil (entries_among marks)

-- an entry is one more that is stored, and changes what is owed
pub size-push : (marks : List (Option Entry)) (e : Entry) → size (marks ++ Some e ∷ []) ≡ length (stored_among marks) + 1 + owed_count (entries_among marks ++ e ∷ [])
size-push marks e = rw (stored-push marks e, noted-push marks e) (omega (arith, length-append (stored_among marks) (e ∷ [])))

-- after a shift the size is what is owed
pub size-shift : (marks : List (Option Entry)) → size (marks ++ None ∷ []) ≡ owed_count (entries_among marks)
size-shift marks = rw (stored-shift marks, noted-shift marks) (omega arith)

pub IsLegal-within : (limits : Limits) (marks : List (Option Entry)) → IsLegal limits marks → IsWithin limits marks
IsLegal-within limits marks h = AtEachPrefix-whole (IsWithin limits) marks h.size

-- one entry more is legal where it fits and the size keeps to the limit
pub IsLegal-next : (limits : Limits) (marks : List (Option Entry)) (e : Entry) → IsLegal limits marks → Fits limits (entries_among marks) e → length (stored_among marks) + 1 + owed_count (entries_among marks ++ e ∷ []) ≤ limits.history → IsLegal limits (marks ++ Some e ∷ [])
IsLegal-next limits marks e h fits within = record {
  rules = rw (noted-push marks e) (KeepsRules-next limits (entries_among marks) e h.rules fits);
  size = AtEachPrefix-push (IsWithin limits) marks (Some e) h.size (omega (arith, size-push marks e, within));
}

-- and a shift always
pub IsLegal-shift : (limits : Limits) (marks : List (Option Entry)) → IsLegal limits marks → IsLegal limits (marks ++ None ∷ [])
IsLegal-shift limits marks h = record {
  rules = rw (noted-shift marks) h.rules;
  size = AtEachPrefix-push (IsWithin limits) marks None h.size (let was = IsLegal-within limits marks h in omega (arith, size-shift marks, was));
}

AtEachPrefix-start : {X : Type 0} (P : List X → Type 0) (xs ys : List X) → AtEachPrefix P (xs ++ ys) → AtEachPrefix P xs
AtEachPrefix-start {X} P xs [] h = subst (λ (zs : List X). AtEachPrefix P zs) (append-nil xs) h
AtEachPrefix-start {X} P xs (y ∷ ys) h =
    AtEachPrefix-init P xs y (AtEachPrefix-start P (xs ++ y ∷ []) ys (subst (λ (zs : List X). AtEachPrefix P zs) (sym (append_assoc xs (y ∷ []) ys)) h))

-- what a legal history begins with is legal
pub IsLegal-start : (limits : Limits) (xs ys : List (Option Entry)) → IsLegal limits (xs ++ ys) → IsLegal limits xs
IsLegal-start limits xs ys h = record {
  rules = KeepsRules-start limits (entries_among xs) (entries_among ys) (subst (λ (es : List Entry). KeepsRules limits es) (filter_map-append (λ mark. mark) xs ys) h.rules);
  size = AtEachPrefix-start (IsWithin limits) xs ys h.size;
}

-- entries without a shift
pub noted-some : (es : List Entry) → entries_among (map Some es) ≡ es
noted-some [] = refl
noted-some (e ∷ es) = ap (λ xs. e ∷ xs) (noted-some es)
