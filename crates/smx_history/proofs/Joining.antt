-- Lists of entries, each of one shift, as marks.
use Rattle.std.proofs.Common.{◌≡◌, ◌↔◌, List, [], ◌∷◌, ◌++◌, map, refl, sym, ◌∙◌, ap, append_assoc, Option, Some, None, zero, suc}
use Rattle.std.proofs.lemmas.List.Elements.{filter_map-append}
use Rattle.std.specs.List.{flat_map}
use Rattle.smx_history.specs.declared.entry.Entry.{Entry}
use Rattle.smx_history.specs.declared.limits.Limits.{Limits}
use Rattle.smx_history.specs.Prefixes.{AtEachPrefix}
use Rattle.smx_history.specs.Shifts.{entries_among, marks_in}
use Rattle.smx_history.specs.Legal.{IsLegal, IsWithin}
use Rattle.smx_history.proofs.Shifting.{noted-some}

-- a shift at the very start changes nothing
first-shift : (limits : Limits) (marks : List (Option Entry)) → AtEachPrefix (IsWithin limits) marks → AtEachPrefix (IsWithin limits) (None ∷ marks)
first-shift limits marks h zero = h zero
first-shift limits marks h (suc k) = h k

pub IsLegal-first : (limits : Limits) (marks : List (Option Entry)) → IsLegal limits marks ↔ IsLegal limits (None ∷ marks)
IsLegal-first limits marks = (
  λ h. record { rules = h.rules; size = first-shift limits marks h.size },
  λ h. record { rules = h.rules; size = λ k. h.size (suc k) },
)

pub marks_in-append : (xs ys : List (List Entry)) → marks_in (xs ++ ys) ≡ marks_in xs ++ marks_in ys
marks_in-append [] ys = refl
marks_in-append (es ∷ xs) ys = ap (λ zs. None ∷ map Some es ++ zs) (marks_in-append xs ys) ∙ ap (λ zs. None ∷ zs) (sym (append_assoc (map Some es) (marks_in xs) (marks_in ys)))

-- the entries of the lists are the lists, joined
pub noted-lists : (lists : List (List Entry)) → entries_among (marks_in lists) ≡ flat_map (λ es. es) lists
noted-lists [] = refl
noted-lists (es ∷ lists) =
    filter_map-append (λ mark. mark) (map Some es) (marks_in lists) ∙ ap (λ xs. xs ++ entries_among (marks_in lists)) (noted-some es) ∙ ap (λ xs. es ++ xs) (noted-lists lists)
