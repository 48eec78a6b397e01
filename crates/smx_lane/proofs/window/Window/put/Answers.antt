use Rattle.std.proofs.Common.{◌≡◌, ◌≤◌, ◌++◌, ◌∷◌, [], ◌∙◌, ap, sym, subst, arith, length, length-append, set, Some, slice_get, count_by, inl, inr}
use Rattle.std.proofs.lemmas.List.{length-set}
use Rattle.smx_history.specs.declared.place.Place.{Place}
use Rattle.smx_history.specs.Numbers.{place_in, generation_in}
use Rattle.smx_history.proofs.Updates.{place_for, following}
use Rattle.smx_lane.specs.Private.Places.{Places}
use Rattle.smx_lane.specs.Private.Window.{places_in}
use Rattle.smx_lane.proofs.WindowRows.{AreEmpty, AreOnce, filled, length-filled, none_numbered, numbered-filled, empty-filled, once-front, at-set}
use Rattle.smx_lane.proofs.Listing.{listed_more}
use Rattle.smx_lane.proofs.Giving.{place_of_number, generation_of_number, given, turn_of}
use Rattle.smx_lane.proofs.window.Window.put.Goals as goal

pub index-generation-requires : goal.index-generation-requires
index-generation-requires c =
    let g = given c.self.inside c.pop.new.self.items c.pop.result c.unwrap-at.result c.self.invariant c.pop.ensures.items c.unwrap-at.ensures in
    omega (arith, g.known, c.self.inside.generations.ok.0)

pub index_mut-requires : goal.index_mut-requires
index_mut-requires c =
    let g = given c.self.inside c.pop.new.self.items c.pop.result c.unwrap-at.result c.self.invariant c.pop.ensures.items c.unwrap-at.ensures in
    omega (arith, g.known, c.self.inside.generations.ok.0)

pub following-requires : goal.following-requires
following-requires c =
    let g = given c.self.inside c.pop.new.self.items c.pop.result c.unwrap-at.result c.self.invariant c.pop.ensures.items c.unwrap-at.ensures in
    (turn_of c.self.inside c.unwrap-at.result c.index-generation.result.now c.self.invariant g.known c.index-generation.ensures).round

pub number_of-upstream-requires-clause-place : goal.number_of-upstream-requires-clause-place
number_of-upstream-requires-clause-place c =
    (given c.self.inside c.pop.new.self.items c.pop.result c.unwrap-at.result c.self.invariant c.pop.ensures.items c.unwrap-at.ensures).below

pub number_of-upstream-requires-clause-generation : goal.number_of-upstream-requires-clause-generation
number_of-upstream-requires-clause-generation c =
    let g = given c.self.inside c.pop.new.self.items c.pop.result c.unwrap-at.result c.self.invariant c.pop.ensures.items c.unwrap-at.ensures in
    (turn_of c.self.inside c.unwrap-at.result c.index-generation.result.now c.self.invariant g.known c.index-generation.ensures).round

pub set-requires : goal.set-requires
set-requires c =
    (given c.self.inside c.pop.new.self.items c.pop.result c.unwrap-at.result c.self.invariant c.pop.ensures.items c.unwrap-at.ensures).within

pub invariant_of-self : goal.invariant_of-self
invariant_of-self c =
    let rows = c.self.inside.rows in
    let rest = c.pop.new.self.items in
    let at = c.unwrap-at.result in
    let u = c.number_of-upstream.result in
    let t = c.push-moment.result in
    let q = place_for c.args.request.now u t in
    let keeps = c.self.invariant in
    let g = given c.self.inside rest c.pop.result at keeps c.pop.ensures.items c.unwrap-at.ensures in
    let turn = turn_of c.self.inside at c.index-generation.result.now keeps g.known c.index-generation.ensures in
    let is : c.set.new.self ≡ set rows at (Some q) = c.set.ensures in
    let empty = subst (AreEmpty rows) g.split keeps.empty in
    let once = subst AreOnce g.split keeps.distinct in
    let same = length-set rows at (Some q) in
    let named : place_in u ≡ at = ap place_in c.number_of-upstream.ensures ∙ place_of_number c.index-generation.result.now at g.below in
    let later : c.self.inside.ages.latest ≤ c.push-moment.new.self.latest =
    omega (arith, c.push-moment.ensures.latest, c.push-moment.ensures.moment, c.make_room.ensures.latest) in
    record {
      numbered = rw is (numbered-filled rows at q keeps.numbered (omega (arith, c.number_of-upstream.ensures)) named);
      empty = rw is (empty-filled rows rest at q empty once);
      distinct = once-front rest at once;
      count = rw is (omega (arith, ap length g.split, length-append rest (at ∷ []), length-filled rows at q g.empty, same, keeps.count));
      few = rw is (omega (arith, same, keeps.few));
      room = rw is (omega (arith, same, c.pop.ensures.capacity, keeps.room));
      generations = rw is (length-set c.self.inside.generations.items at c.following.result ∙ keeps.generations ∙ sym same);
      going_round = λ k x there. elim (at-set c.self.inside.generations.items at k c.following.result x there) [
        | inl new ↦ omega (arith, new.1, c.following.ensures)
        | inr old ↦ keeps.going_round k x old
      ];
      listed = rw (is, c.push-moment.ensures.aged) (listed_more rows at q c.make_room.new.self.aged (c.make_room.ensures.each keeps.listed));
      before = rw is (λ k p there. elim (at-set rows at k (Some q) (Some p) there) [
        | inl new ↦
            let e : Some p ≡ Some q = new.1 in
            let equal : p ≡ q = cc in
            omega (arith, ap (λ (x : Place). x.moment) equal, c.push-moment.ensures.latest)
        | inr old ↦ omega (arith, keeps.before k p old, later)
      ]);
      places = rw is (omega (arith, same, keeps.places, c.push-moment.ensures.places, c.make_room.ensures.places));
    }

pub returns-clause-range : goal.returns-clause-range
returns-clause-range c =
    let g = given c.self.inside c.pop.new.self.items c.pop.result c.unwrap-at.result c.self.invariant c.pop.ensures.items c.unwrap-at.ensures in
    let turn = turn_of c.self.inside c.unwrap-at.result c.index-generation.result.now c.self.invariant g.known c.index-generation.ensures in
    (omega (arith, c.number_of-upstream.ensures), omega (arith, c.number_of-upstream.ensures, g.below, turn.round))

pub returns-clause-next : goal.returns-clause-next
returns-clause-next c =
    let at = c.unwrap-at.result in
    let g = given c.self.inside c.pop.new.self.items c.pop.result at c.self.invariant c.pop.ensures.items c.unwrap-at.ensures in
    let turn = turn_of c.self.inside at c.index-generation.result.now c.self.invariant g.known c.index-generation.ensures in
    let named : place_in c.number_of-upstream.result ≡ at = ap place_in c.number_of-upstream.ensures ∙ place_of_number c.index-generation.result.now at g.below in
    let turned : generation_in c.number_of-upstream.result ≡ c.index-generation.result.now = ap generation_in c.number_of-upstream.ensures ∙ generation_of_number c.index-generation.result.now at g.below in
    let gs = c.self.inside.generations.items in
    rw (← c.self.view_is) (record {
      within = omega (arith, named, g.within);
      generation = ap (slice_get gs) named ∙ turn.there ∙ ap Some (sym turned);
    })

pub returns-clause-free : goal.returns-clause-free
returns-clause-free c =
    let at = c.unwrap-at.result in
    let g = given c.self.inside c.pop.new.self.items c.pop.result at c.self.invariant c.pop.ensures.items c.unwrap-at.ensures in
    let named : place_in c.number_of-upstream.result ≡ at = ap place_in c.number_of-upstream.ensures ∙ place_of_number c.index-generation.result.now at g.below in
    rw (← c.self.view_is) (none_numbered c.self.inside.rows 0 at c.number_of-upstream.result c.self.invariant.numbered g.empty (omega (arith, named)))

pub returns-clause-taken : goal.returns-clause-taken
returns-clause-taken c = λ test.
    let rows = c.self.inside.rows in
    let at = c.unwrap-at.result in
    let q = place_for c.args.request.now c.number_of-upstream.result c.push-moment.result in
    let g = given c.self.inside c.pop.new.self.items c.pop.result at c.self.invariant c.pop.ensures.items c.unwrap-at.ensures in
    let is : c.set.new.self ≡ set rows at (Some q) = c.set.ensures in
    ap (λ rs. count_by test (places_in rs)) is ∙ filled rows at q g.empty test ∙ ap (λ (v : Places). count_by test (v.taken ++ q ∷ [])) c.self.view_is

pub returns-clause-generations : goal.returns-clause-generations
returns-clause-generations c =
    let at = c.unwrap-at.result in
    let gs = c.self.inside.generations.items in
    let g = given c.self.inside c.pop.new.self.items c.pop.result at c.self.invariant c.pop.ensures.items c.unwrap-at.ensures in
    let named : place_in c.number_of-upstream.result ≡ at = ap place_in c.number_of-upstream.ensures ∙ place_of_number c.index-generation.result.now at g.below in
    let turned : generation_in c.number_of-upstream.result ≡ c.index-generation.result.now = ap generation_in c.number_of-upstream.ensures ∙ generation_of_number c.index-generation.result.now at g.below in
    ap (λ j. set gs j c.following.result) (sym named) ∙ ap (set gs (place_in c.number_of-upstream.result)) (c.following.ensures ∙ ap following (sym turned))
    ∙ ap (λ (v : Places). set v.generations (place_in c.number_of-upstream.result) (following (generation_in c.number_of-upstream.result))) c.self.view_is
