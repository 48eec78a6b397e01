-- The place that a response answers, by its index.
use Rattle.std.proofs.Common.{◌≡◌, ◌<◌, ◌==◌, ℕ, Bool, true, false, cond, List, [], ◌∷◌, length, get_or, slice_get, suc, Some, sym, refl, ap, ◌∙◌}
use Rattle.std.specs.List.{find}
use Rattle.std.proofs.lemmas.Bool.{and_parts, eqb-true}
use Rattle.std.proofs.lemmas.Option.{slice_get_within, get_or_from_slice_get}
use Rattle.smx_pdu.specs.declared.pdu.Pdu.{Pdu}
use Rattle.smx_pdu.specs.Command.{is_response_to}
use Rattle.smx_history.specs.declared.place.Place.{Place}
use Rattle.smx_history.specs.Contents.{Content}
use Rattle.smx_history.specs.Replies.{answers_place}

-- what is found passes the test
found-passes : {X : Type 0} (p : X → Bool) (xs : List X) (x : X) → find p xs ≡ Some x → p x ≡ true
found-passes p [] x h = cc
found-passes p (y ∷ xs) x h = head (p y) refl h (found-passes p xs x)
  where
    head : (b : Bool) → p y ≡ b → cond b (Some y) (find p xs) ≡ Some x → (find p xs ≡ Some x → p x ≡ true) → p x ≡ true
    head true e f rest = let same : y ≡ x = cc in ap p (sym same) ∙ e
    head false e f rest = rest f

-- and stands at some index
pub found_index : {X : Type 0} (p : X → Bool) (xs : List X) (x : X) → find p xs ≡ Some x → (i : ℕ) × (slice_get xs i ≡ Some x)
found_index p [] x h = cc
found_index p (y ∷ xs) x h = head (p y) h (found_index p xs x)
  where
    head : (b : Bool) → cond b (Some y) (find p xs) ≡ Some x → (find p xs ≡ Some x → (i : ℕ) × (slice_get xs i ≡ Some x)) → (i : ℕ) × (slice_get (y ∷ xs) i ≡ Some x)
    head true f rest = (0, f)
    head false f rest = let r = rest f in (suc r.0, r.1)

-- the place at the index is the first that the response answers
pub record IsAnsweredAt (v : Content) (p : Pdu) (i : ℕ) (q : Place) : Type 0 where
  pub within : i < length v.window
  pub is : q ≡ get_or v.window i q
  pub first : find (answers_place p) v.window ≡ Some q
  pub number : q.upstream ≡ p.number
  pub command : is_response_to q.command p.command ≡ true

pub answered_at : (v : Content) (p : Pdu) (i : ℕ) (q : Place) → find (answers_place p) v.window ≡ Some q → slice_get v.window i ≡ Some q → IsAnsweredAt v p i q
answered_at v p i q first at =
    let fits = and_parts (q.upstream == p.number) (is_response_to q.command p.command) (found-passes (answers_place p) v.window q first) in
    record {
      within = slice_get_within v.window i q at;
      is = sym (get_or_from_slice_get v.window i q q at);
      first = first;
      number = eqb-true _ _ fits.0;
      command = fits.1;
    }
