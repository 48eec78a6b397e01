-- A loop that goes over lists to a take that stands after so many others and bears a number.
use Rattle.std.proofs.Common.{◌≡◌, ◌<◌, ◌+◌, ◌-◌, ◌==◌, ℕ, Bool, true, false, ◌||◌, List, [], ◌∷◌, ◌++◌, length, map, get_or, drop, refl, sym, ◌∙◌, ap, arith, append_assoc, zero, suc}
use Rattle.std.specs.List.{list_any}
use Rattle.std.specs.Global.{Vec}
use Rattle.std.proofs.lemmas.List.{map-append}
use Rattle.std.proofs.lemmas.List.Elements.{filter-append}
use Rattle.smx_history.specs.declared.entry.Entry.{Entry}
use Rattle.smx_history.specs.Entries.{is_take, takes, numbers}
use Rattle.smx_legal.specs.Checks.{entries_in}
use Rattle.smx_legal.proofs.Marking.{entries_in-rest}

numbers-append : (xs ys : List Entry) → numbers (xs ++ ys) ≡ numbers xs ++ numbers ys
numbers-append xs ys = ap (map (λ (x : Entry). x.number)) (filter-append (λ x. is_take x.kind) xs ys) ∙ map-append (λ x. x.number) (takes xs) (takes ys)

-- a number of the first list or of the second stands after n others
any_joined : (u n : ℕ) (ns ms : List ℕ) → list_any (λ v. v == u) (drop n (ns ++ ms)) ≡ (list_any (λ v. v == u) (drop n ns) || list_any (λ v. v == u) (drop (n - length ns) ms))
any_joined u n [] ms = let e : n - 0 ≡ n = omega arith in rw e (none n)
  where
    none : (n : ℕ) → list_any (λ v. v == u) (drop n ms) ≡ (list_any (λ v. v == u) (drop n []) || list_any (λ v. v == u) (drop n ms))
    none zero = refl
    none (suc n) = refl
any_joined u zero (v ∷ ns) ms = elim (v == u) as (λ b. (b || list_any (λ w. w == u) (ns ++ ms)) ≡ ((b || list_any (λ w. w == u) ns) || list_any (λ w. w == u) (drop (0 - length (v ∷ ns)) ms))) [
  | true ↦ refl
  | false ↦
      let there : 0 - length (v ∷ ns) ≡ 0 - length ns = omega arith in
      any_joined u zero ns ms ∙ ap (λ k. list_any (λ w. w == u) ns || list_any (λ w. w == u) (drop k ms)) (sym there)
]
any_joined u (suc n) (v ∷ ns) ms = let e : suc n - length (v ∷ ns) ≡ n - length ns = omega arith in rw e (any_joined u n ns ms)

-- in lists: it stands in the list at the index, or after that list
list_at : (u : ℕ) (lists : List (Vec Entry)) (since : List Entry) (i left : ℕ) (d v : Vec Entry) (es : List Entry) → i < length lists → v ≡ get_or lists i d → es ≡ v.items → list_any (λ n. n == u) (drop left (numbers (entries_in (drop i lists) ++ since))) ≡ (list_any (λ n. n == u) (drop left (numbers es)) || list_any (λ n. n == u) (drop (left - length (numbers es)) (numbers (entries_in (drop (i + 1) lists) ++ since))))
list_at u lists since i left d v es within at is =
    ap (λ ns. list_any (λ n. n == u) (drop left ns))
    (ap (λ xs. numbers (xs ++ since)) (entries_in-rest lists i d v es within at is) ∙ ap numbers (append_assoc es (entries_in (drop (i + 1) lists)) since) ∙ numbers-append es (entries_in (drop (i + 1) lists) ++ since))
    ∙ any_joined u left (numbers es) (numbers (entries_in (drop (i + 1) lists) ++ since))

pub list_without : (u : ℕ) (lists : List (Vec Entry)) (since : List Entry) (i left rest : ℕ) (d v : Vec Entry) (es : List Entry) (all : Bool) → i < length lists → v ≡ get_or lists i d → es ≡ v.items → list_any (λ n. n == u) (drop left (numbers (entries_in (drop i lists) ++ since))) ≡ all → list_any (λ n. n == u) (drop left (numbers es)) ≡ false → rest ≡ left - length (numbers es) → list_any (λ n. n == u) (drop rest (numbers (entries_in (drop (i + 1) lists) ++ since))) ≡ all
list_without u lists since i left rest d v es all within at is was none passed =
    ap (λ k. list_any (λ n. n == u) (drop k (numbers (entries_in (drop (i + 1) lists) ++ since)))) passed
    ∙ sym (list_at u lists since i left d v es within at is ∙ ap (λ b. b || list_any (λ n. n == u) (drop (left - length (numbers es)) (numbers (entries_in (drop (i + 1) lists) ++ since)))) none) ∙ was
