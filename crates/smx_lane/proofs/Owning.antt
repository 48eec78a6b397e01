-- What all rows of a client meet, from its one row.
use Rattle.std.proofs.Common.{◌≡◌, ◌==◌, ℕ, Bool, true, false, cond, List, [], ◌∷◌, map, Some, None, refl, sym, subst, ◌∙◌}
use Rattle.std.specs.List.{AllByRecursion}
use Rattle.std.proofs.lemmas.Bool.{eq-eqb}
use Rattle.smx_history.specs.Prefixes.{RiseAbove}
use Rattle.smx_history.specs.Contents.{Member}
use Rattle.smx_history.specs.Replies.{member_with}
use Rattle.smx_history.proofs.Keeping.{one_row, All-each}

-- what the client's row meets, all its rows meet
pub all_of_one : (P : Member → Type 0) (ms : List Member) (c : ℕ) (m : Member) → RiseAbove 0 (map (λ m. m.client) ms) → member_with c ms ≡ Some m → P m → AllByRecursion (λ x. x.client ≡ c → P x) ms
all_of_one P ms c m rise found h =
    All-each (λ x. x.client ≡ c → x ≡ m) (λ x. x.client ≡ c → P x) (λ x same is. subst P (sym (same is)) h) ms (one_row ms c 0 m rise found)

-- where the client has no row, all its rows meet anything
pub all_of_none : (P : Member → Type 0) (ms : List Member) (c : ℕ) → member_with c ms ≡ None → AllByRecursion (λ x. x.client ≡ c → P x) ms
all_of_none P [] c none = tt
all_of_none P (x ∷ ms) c none = head (x.client == c) refl none (all_of_none P ms c)
  where
    head : (b : Bool) → (x.client == c) ≡ b → cond b (Some x) (member_with c ms) ≡ None → (member_with c ms ≡ None → AllByRecursion (λ y. y.client ≡ c → P y) ms) → AllByRecursion (λ y. y.client ≡ c → P y) (x ∷ ms)
    head true e f rest = absurd (let h : Some x ≡ None = f in cc)
    head false e f rest = ((λ is. absurd (let h : true ≡ false = sym (eq-eqb x.client c is) ∙ e in cc)), rest f)
