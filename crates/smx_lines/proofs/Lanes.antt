-- Lanes and their histories, place by place.
use Rattle.std.proofs.Common.{◌≡◌, ◌<◌, ◌+◌, ℕ, zero, suc, Bool, true, false, List, [], ◌∷◌, ◌++◌, length, get_or, set, refl, sym, ◌∙◌, ap, subst, arith, Option, Some, slice_get, ◌||◌}
use Rattle.std.proofs.lemmas.Option.{slice_get-get_or}
use Rattle.std.proofs.lemmas.List.{set-get_or}
use Rattle.std.specs.List.{AllByRecursion, AllZip, find, list_any, position_or_len}
use Rattle.smx_history.specs.declared.limits.Limits.{Limits}
use Rattle.smx_history.specs.declared.note.Note.{Note}
use Rattle.smx_history.specs.Contents.{Content, IsReordered, content_after}
use Rattle.smx_lines.specs.declared.state.LinkedLane.{LinkedLane}
use Rattle.smx_lines.specs.Links.{CentreLink}
use Rattle.smx_lines.specs.Relay.{RelayLane, lane_after}
use Rattle.smx_lines.specs.Lanes.{IsContentAfter, IsLane}

pub zip-length : {X Y : Type 0} (R : X → Y → Type 0) (xs : List X) (ys : List Y) → AllZip R xs ys → length xs ≡ length ys
zip-length R [] [] z = refl
zip-length R [] (y ∷ ys) z = absurd z
zip-length R (x ∷ xs) [] z = absurd z
zip-length R (x ∷ xs) (y ∷ ys) z = ap suc (zip-length R xs ys z.1)

pub zip-push : {X Y : Type 0} (R : X → Y → Type 0) (xs : List X) (ys : List Y) (x : X) (y : Y) → AllZip R xs ys → R x y → AllZip R (xs ++ x ∷ []) (ys ++ y ∷ [])
zip-push R [] [] x y z r = (r, tt)
zip-push R [] (b ∷ ys) x y z r = absurd z
zip-push R (a ∷ xs) [] x y z r = absurd z
zip-push R (a ∷ xs) (b ∷ ys) x y z r = (z.0, zip-push R xs ys x y z.1 r)

-- what stands at an index of the second list has its fellow in the first
pub zip-get : {X Y : Type 0} (R : X → Y → Type 0) (xs : List X) (ys : List Y) (i : ℕ) (d : Y) → AllZip R xs ys → i < length ys → (x : X) × (slice_get xs i ≡ Some x) × R x (get_or ys i d)
zip-get R [] [] i d z lt = absurd (omega arith)
zip-get R [] (y ∷ ys) i d z lt = absurd z
zip-get R (x ∷ xs) [] i d z lt = absurd z
zip-get R (x ∷ xs) (y ∷ ys) zero d z lt = (x, refl, z.0)
zip-get R (x ∷ xs) (y ∷ ys) (suc i) d z lt = zip-get R xs ys i d z.1 (omega arith)

pub zip-at : {X Y : Type 0} (R : X → Y → Type 0) (xs : List X) (ys : List Y) (i : ℕ) (c : X) (d : Y) → AllZip R xs ys → i < length ys → R (get_or xs i c) (get_or ys i d)
zip-at R [] [] i c d z lt = absurd (omega arith)
zip-at R [] (y ∷ ys) i c d z lt = absurd z
zip-at R (x ∷ xs) [] i c d z lt = absurd z
zip-at R (x ∷ xs) (y ∷ ys) zero c d z lt = z.0
zip-at R (x ∷ xs) (y ∷ ys) (suc i) c d z lt = zip-at R xs ys i c d z.1 (omega arith)

pub zip-set : {X Y : Type 0} (R : X → Y → Type 0) (xs : List X) (ys : List Y) (i : ℕ) (x : X) (y : Y) → AllZip R xs ys → R x y → AllZip R (set xs i x) (set ys i y)
zip-set R [] [] i x y z r = tt
zip-set R [] (b ∷ ys) i x y z r = absurd z
zip-set R (a ∷ xs) [] i x y z r = absurd z
zip-set R (a ∷ xs) (b ∷ ys) zero x y z r = (r, z.1)
zip-set R (a ∷ xs) (b ∷ ys) (suc i) x y z r = (z.0, zip-set R xs ys i x y z.1 r)

pub zip-weaker : {X Y : Type 0} (R S : X → Y → Type 0) → ((x : X) (y : Y) → R x y → S x y) → (xs : List X) (ys : List Y) → AllZip R xs ys → AllZip S xs ys
zip-weaker R S f [] [] z = tt
zip-weaker R S f [] (y ∷ ys) z = absurd z
zip-weaker R S f (x ∷ xs) [] z = absurd z
zip-weaker R S f (x ∷ xs) (y ∷ ys) z = (f x y z.0, zip-weaker R S f xs ys z.1)

-- the one past some others, and another in its place
pub zip-middle : {X Y : Type 0} (R : X → Y → Type 0) (xs : List X) (x : X) (zs : List X) (ys : List Y) (d : Y) → AllZip R (xs ++ x ∷ zs) ys → R x (get_or ys (length xs) d)
zip-middle R [] x zs [] d z = absurd z
zip-middle R [] x zs (y ∷ ys) d z = z.0
zip-middle R (a ∷ xs) x zs [] d z = absurd z
zip-middle R (a ∷ xs) x zs (y ∷ ys) d z = zip-middle R xs x zs ys d z.1

pub zip-middle_set : {X Y : Type 0} (R : X → Y → Type 0) (xs : List X) (x v : X) (zs : List X) (ys : List Y) (w : Y) → AllZip R (xs ++ x ∷ zs) ys → R v w → AllZip R (xs ++ v ∷ zs) (set ys (length xs) w)
zip-middle_set R [] x v zs [] w z r = absurd z
zip-middle_set R [] x v zs (y ∷ ys) w z r = (r, z.1)
zip-middle_set R (a ∷ xs) x v zs [] w z r = absurd z
zip-middle_set R (a ∷ xs) x v zs (y ∷ ys) w z r = (z.0, zip-middle_set R xs x v zs ys w z.1 r)

-- tests that agree on each find the same
pub find-agree : {X : Type 0} (Q : X → Type 0) (p q : X → Bool) → ((x : X) → Q x → p x ≡ q x) → (xs : List X) → AllByRecursion Q xs → find p xs ≡ find q xs
find-agree Q p q same [] all = refl
find-agree Q p q same (x ∷ xs) all = rw (same x all.0, find-agree Q p q same xs all.1) refl

-- what is not found in a part is found in the rest
pub find-next : {X : Type 0} (p : X → Bool) (xs ys : List X) (x : X) → xs ≡ x ∷ ys → p x ≡ false → find p xs ≡ find p ys
find-next p xs ys x e none = ap (find p) e ∙ rw none refl

pub find-here : {X : Type 0} (p : X → Bool) (xs ys : List X) (x : X) → xs ≡ x ∷ ys → p x ≡ true → find p xs ≡ Some x
find-here p xs ys x e here = ap (find p) e ∙ rw here refl

pub position_or_len-past : {X : Type 0} (p : X → Bool) (xs ys : List X) → list_any p xs ≡ false → position_or_len p (xs ++ ys) ≡ length xs + position_or_len p ys
position_or_len-past p [] ys none = omega arith
position_or_len-past p (x ∷ xs) ys none = at (p x) refl none (position_or_len-past p xs ys)
  where
    at : (b : Bool) → p x ≡ b → (b || list_any p xs) ≡ false → (list_any p xs ≡ false → position_or_len p (xs ++ ys) ≡ length xs + position_or_len p ys) → position_or_len p ((x ∷ xs) ++ ys) ≡ length (x ∷ xs) + position_or_len p ys
    at true e n later = absurd (let z : true ≡ false = n in cc)
    at false e n later = rw e (omega (arith, later n))

pub position_or_len-none : {X : Type 0} (p : X → Bool) (xs : List X) → list_any p xs ≡ false → position_or_len p xs ≡ length xs
position_or_len-none p [] none = refl
position_or_len-none p (x ∷ xs) none = at (p x) refl none (position_or_len-none p xs)
  where
    at : (b : Bool) → p x ≡ b → (b || list_any p xs) ≡ false → (list_any p xs ≡ false → position_or_len p xs ≡ length xs) → position_or_len p (x ∷ xs) ≡ length (x ∷ xs)
    at true e n later = absurd (let z : true ≡ false = n in cc)
    at false e n later = rw e (omega (arith, later n))

-- an element by its index
pub at_index : {X : Type 0} (xs : List X) (i : ℕ) (x : X) → i < length xs → x ≡ get_or xs i x → slice_get xs i ≡ Some x
at_index xs i x lt e = slice_get-get_or xs i x lt ∙ ap (λ y. Some y) (sym e)

-- what is written back unchanged changes nothing
pub written_back : {X : Type 0} (xs : List X) (i : ℕ) (x y : X) → x ≡ get_or xs i x → y ≡ x → set xs i y ≡ xs
written_back xs i x y e same = ap (λ z. set xs i z) (same ∙ e) ∙ set-get_or xs i x

-- the lane is what its history leaves, in some order of the window
pub reordered_on : (limits : Limits) (clients : List (Option ℕ)) (h : List Note) (v : Content) → IsContentAfter limits clients h v → IsReordered (content_after limits h) v
reordered_on limits clients h v on = subst (λ l. IsReordered (content_after l h) v) on.limits_are on.agrees.after

-- the history of a lane went on, or its link did
pub lane_goes : (limits : Limits) (clients : List (Option ℕ)) (f : List Note → List Note) (l : RelayLane) (k : LinkedLane) (after : Content) → IsLane limits clients l k → IsContentAfter limits clients (f l.history) after → IsLane limits clients (lane_after f l) (record k { lane = after })
lane_goes limits clients f l k after is on = record { on = on; link_is = is.link_is }

pub link_goes : (limits : Limits) (clients : List (Option ℕ)) (l : RelayLane) (k : LinkedLane) (after : CentreLink) → IsLane limits clients l k → IsLane limits clients (record l { link = after }) (record k { link = after })
link_goes limits clients l k after is = record { on = is.on; link_is = refl }

-- a lane that is written back unchanged changes nothing
pub lane_back : (lanes : List LinkedLane) (i : ℕ) (k : LinkedLane) (after : Content) → k ≡ get_or lanes i k → after ≡ k.lane → set lanes i (record k { lane = after }) ≡ lanes
lane_back lanes i k after e same = written_back lanes i k (record k { lane = after }) e (ap (λ (v : Content). record k { lane = v }) same)
