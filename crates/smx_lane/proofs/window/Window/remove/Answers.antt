use Rattle.std.proofs.Common.{◌≡◌, ◌∷◌, ◌++◌, [], ℕ, List, inl, inr, ◌∙◌, ap, sym, arith, length-append, set, Some, None}
use Rattle.std.proofs.lemmas.List.{length-set}
use Rattle.std.proofs.lemmas.Option.{slice_get_within}
use Rattle.smx_history.specs.declared.place.Place.{Place}
use Rattle.smx_history.specs.Numbers.{place_in}
use Rattle.smx_lane.specs.Private.Places.{IsPlaceOf, Places}
use Rattle.smx_lane.specs.Private.Window.{places_in}
use Rattle.smx_lane.proofs.WindowRows.{cleared, length-cleared, numbered-cleared, empty-cleared, once-pushed, row_at_number, at-set}
use Rattle.smx_lane.proofs.Listing.{listed_less}
use Rattle.smx_lane.proofs.window.Window.remove.Goals as goal

pub set-requires : goal.set-requires
set-requires c =
    let h : (q : Place) × IsPlaceOf (places_in c.self.inside.rows) c.args.number q = rw (← c.self.view_is) at c.requires in
    rw c.place_in-at.ensures (slice_get_within c.self.inside.rows (place_in c.args.number) (Some h.0) (row_at_number c.self.inside.rows c.args.number h.0 c.self.invariant.numbered h.1))

pub invariant_of-self : goal.invariant_of-self
invariant_of-self c =
    let rows = c.self.inside.rows in
    let free = c.self.inside.free.items in
    let k = place_in c.args.number in
    let h : (q : Place) × IsPlaceOf (places_in rows) c.args.number q = rw (← c.self.view_is) at c.requires in
    let r = row_at_number rows c.args.number h.0 c.self.invariant.numbered h.1 in
    let within = slice_get_within rows k (Some h.0) r in
    let is : c.set.new.self ≡ set rows k None = c.set.ensures ∙ ap (λ j. set rows j None) c.place_in-at.ensures in
    let pushed = c.push_reserved.ensures.items ∙ ap (λ j. free ++ j ∷ []) c.place_in-at.ensures in
    let same = length-set rows k None in
    let invariant = c.self.invariant in
    record {
      numbered = rw is (numbered-cleared rows k invariant.numbered);
      empty = rw (is, pushed) (empty-cleared rows free k invariant.empty within);
      distinct = rw pushed (once-pushed free k invariant.distinct (λ j at.
          let none = invariant.empty j k at in
          let clash : Some (Some h.0) ≡ Some None = sym r ∙ none in
          cc));
      count = rw (is, pushed) (omega (arith, length-append free (k ∷ []), length-cleared rows k h.0 r, same, invariant.count));
      few = rw is (omega (arith, same, invariant.few));
      room = rw is (omega (arith, same, c.push_reserved.ensures.capacity, invariant.room));
      generations = rw is (invariant.generations ∙ sym same);
      going_round = invariant.going_round;
      listed = rw is (listed_less rows k c.self.inside.ages.aged invariant.listed);
      before = rw is (λ j q at. elim (at-set rows k j None (Some q) at) [
        | inl new ↦ let e : Some q ≡ None = new.1 in cc
        | inr old ↦ invariant.before j q old
      ]);
      places = rw is (omega (arith, same, invariant.places));
    }

pub returns : goal.returns
returns c = record {
  taken = λ q place.
      let rows = c.self.inside.rows in
      let k = place_in c.args.number in
      let p : IsPlaceOf (places_in rows) c.args.number q = rw (← c.self.view_is) at place in
      let r = cleared rows k q (row_at_number rows c.args.number q c.self.invariant.numbered p) in
      let is : c.set.new.self ≡ set rows k None = c.set.ensures ∙ ap (λ j. set rows j None) c.place_in-at.ensures in
      let same = length-set rows k None in
      rw (← c.self.view_is) (r.0, r.1, rw is (at_all same r.2));
}
  where
    at_all : {n m latest : ℕ} {xs ys : List Place} {gs : List ℕ} → m ≡ n → xs ≡ ys → ◌≡◌ {A = Places} (record { most = m; taken = xs; generations = gs; latest = latest }) (record { most = n; taken = ys; generations = gs; latest = latest })
    at_all {latest = latest} {gs = gs} p q = λ i. record { most = p i; taken = q i; generations = gs; latest = latest }
