-- The two tables after a change, in what ties them: whether a route is in the list.
use Rattle.std.proofs.Common.{◌≡◌, ◌<◌, ◌+◌, ◌&&◌, ◌||◌, ℕ, Bool, true, false, not, cond, List, [], ◌∷◌, ◌++◌, map, take, length, get_or, refl, sym, ap, ◌∙◌, IsPermutation}
use Rattle.std.specs.List.{filter, list_any}
use Rattle.std.proofs.lemmas.List.{map_more}
use Rattle.std.proofs.lemmas.List.Folds.{list_any-append}
use Rattle.std.proofs.lemmas.List.Sorted.{list_any-IsPermutation}
use Rattle.std.proofs.lemmas.Map.Views.{any-filter_same}
use Rattle.smx_routes.specs.Routing.{Route, is_route, has_route}
use Rattle.smx_routes.proofs.Routed.{same_route}

or_is : (a b : Bool) → (a || b) ≡ cond a true b
or_is true b = refl
or_is false b = refl

-- one more route
pub has_more : (x r : Route) (rs new : List Route) → IsPermutation (x ∷ rs) new → has_route new r ≡ cond (is_route r x) true (has_route rs r)
has_more x r rs new moved = sym (list_any-IsPermutation (is_route r) (x ∷ rs) new moved) ∙ or_is (is_route r x) (has_route rs r)

none_of : (a b : Bool) → cond (a && b) false b ≡ (not a && b)
none_of true true = refl
none_of true false = refl
none_of false b = refl

module _ (test : Route → Bool) (rs : List Route) (r : Route) where
  has_filtered : has_route (filter test rs) r ≡ (test r && has_route rs r)
  has_filtered = any-filter_same (is_route r) test (test r) (λ x same. ap test (sym (same_route r x same))) rs

-- the routes that pass, and then those that don't
pub has_left : (test : Route → Bool) (rs : List Route) (r : Route) → cond (has_route (filter test rs) r) false (has_route rs r) ≡ has_route (filter (λ x. not (test x)) rs) r
has_left test rs r =
    ap (λ b. cond b false (has_route rs r)) (has_filtered test rs r) ∙ none_of (test r) (has_route rs r) ∙ sym (has_filtered (λ x. not (test x)) rs r)

neither : (h a old : Bool) → cond a false (cond h false old) ≡ cond (h || (a || false)) false old
neither true true old = refl
neither true false old = refl
neither false true old = refl
neither false false old = refl

-- one more route taken out
pub has_fewer : {X : Type 0} (f : X → Route) (xs : List X) (k : ℕ) (x : X) (r : Route) (old : Bool) → x ≡ get_or xs k x → k < length xs
    → cond (is_route r (f x)) false (cond (has_route (map f (take k xs)) r) false old) ≡ cond (has_route (map f (take (k + 1) xs)) r) false old
has_fewer f xs k x r old is within =
    let more : map f (take (k + 1) xs) ≡ map f (take k xs) ++ f x ∷ [] = map_more f xs k x within ∙ ap (λ y. map f (take k xs) ++ f y ∷ []) (sym is) in
    neither (has_route (map f (take k xs)) r) (is_route r (f x)) old
    ∙ ap (λ b. cond b false old) (sym (ap (list_any (is_route r)) more ∙ list_any-append (is_route r) (map f (take k xs)) (f x ∷ [])))
