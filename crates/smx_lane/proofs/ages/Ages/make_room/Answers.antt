use Rattle.std.proofs.Common.{rules, ◌≡◌, ◌≤◌, ◌++◌, ◌∷◌, [], length, refl, sym, ap, ◌∙◌, arith, Some, None, slice_get, inl, inr}
use Rattle.std.proofs.lemmas.Bool.{cases_lt}
use Rattle.std.proofs.lemmas.Option.{slice_get_within}
use Rattle.std.proofs.lemmas.List.Elements.{All-push}
use Rattle.std.proofs.lemmas.List.Sorted.{IsNonDecreasingBy-from_sort_by_key, Contains-permutation, All-permutation}
use Rattle.smx_history.proofs.Spacing.{still_there, at_end}
use Rattle.smx_lane.specs.declared.ages.Aged.{Aged}
use Rattle.smx_lane.specs.Private.Places.{Listed, aged_of}
use Rattle.smx_lane.proofs.Listing.{contains_at, index_of}
use Rattle.smx_lane.proofs.ages.Ages.make_room.Goals.{in-Some, in_default}
use Rattle.smx_lane.proofs.ages.Ages.make_room.Goals as goal

pub loop-at-init : goal.loop-at-init
loop-at-init c = record {
  first = refl;
  latest = ap (λ (v : Listed). v.latest) c.self.view_is;
  capacity = c.clear.ensures.capacity ∙ ap (λ (v : Listed). v.places) c.self.view_is;
  count = omega (arith, c.clear.ensures.len);
  each = λ k q lt at. absurd (omega (arith, lt));
  before = λ k d lt. absurd (omega (arith, lt, ap length c.clear.ensures.items));
}

pub push_reserved-requires : goal.push_reserved-requires
push_reserved-requires c = omega (arith, c.loop-at.invariant.capacity, c.loop-at.invariant.count, c.loop-at-test.true, c.len-at-end.ensures, c.requires.few)

pub loop-at-preserved : goal.loop-at-preserved
loop-at-preserved c =
    let was = c.loop-at.invariant in
    elim c.match-get.branch [
      | in-Some w ↦
          let q = w.in-Some.place in
          let items = w.push_reserved.ensures.items in
          let is = w.self-inside-is in
          rw is (record {
            first = was.first;
            latest = was.latest;
            capacity = w.push_reserved.ensures.capacity ∙ was.capacity;
            count = omega (arith, w.push_reserved.ensures.len, was.count);
            each = λ k p lt there. rw items (elim (cases_lt k c.loop-at.at) [
              | inl before ↦
                  let had = index_of c.loop-at.self-inside.list.items (aged_of p) (was.each k p before there) in
                  contains_at (c.loop-at.self-inside.list.items ++ aged_of q ∷ []) had.0 (aged_of p) (still_there c.loop-at.self-inside.list.items (aged_of q ∷ []) (aged_of p) had.0 had.1)
              | inr last ↦
                  let here : c.loop-at.at ≡ k = omega (arith, last, lt) in
                  let e : Some (Some q) ≡ Some (Some p) = sym w.in-Some.ensures ∙ ap (slice_get c.args.rows.now) here ∙ there in
                  let same : q ≡ p = cc in
                  contains_at (c.loop-at.self-inside.list.items ++ aged_of q ∷ []) (length c.loop-at.self-inside.list.items) (aged_of p) (at_end c.loop-at.self-inside.list.items (aged_of q) ∙ ap (λ x. Some (aged_of x)) same)
            ]);
            before = rw items (All-push (λ (x : Aged). x.moment ≤ c.args.self.now.latest) c.loop-at.self-inside.list.items (aged_of q) was.before (c.requires.before c.loop-at.at q w.in-Some.ensures));
          })
      | in_default w ↦
          let is = w.self-inside-is in
          rw is (record {
            first = was.first;
            latest = was.latest;
            capacity = was.capacity;
            count = omega (arith, was.count);
            each = λ k p lt there. elim (cases_lt k c.loop-at.at) [
              | inl before ↦ was.each k p before there
              | inr last ↦
                  let here : c.loop-at.at ≡ k = omega (arith, last, lt) in
                  let e : Some None ≡ Some (Some p) = sym (c.get.ensures ∙ ap Some w.in_default.is) ∙ ap (slice_get c.args.rows.now) here ∙ there in
                  cc
            ];
            before = was.before;
          })
    ]

pub invariant_of-self : goal.invariant_of-self
invariant_of-self c = record {
  first = omega (arith, c.loop-at.invariant.first);
  order = IsNonDecreasingBy-from_sort_by_key (λ x. x.moment) _ c.sort_unstable_by_key.ensures.sorted (λ a r q k. search rules);
  before = rw c.loop-at.invariant.latest (All-permutation (λ (x : Aged). x.moment ≤ c.args.self.now.latest) _ _ c.sort_unstable_by_key.ensures.permutation c.loop-at.invariant.before);
}

pub returns-clause-each : goal.returns-clause-each
returns-clause-each c = λ listed q there.
    let within = slice_get_within c.args.rows.now _ (Some q) there in
    rw c.loop-at.invariant.first (Contains-permutation _ _ (aged_of q) c.sort_unstable_by_key.ensures.permutation
    (c.loop-at.invariant.each _ q (omega (arith, within, c.loop-at-test.false, c.len-at-end.ensures)) there))

pub returns-clause-left : goal.returns-clause-left
returns-clause-left c =
    let many = c.sort_unstable_by_key.new.self.ok.0 in
    let was = c.loop-at.self-inside.list.ok.0 in
    omega (arith, c.sort_unstable_by_key.ensures.len, c.sort_unstable_by_key.ensures.capacity, c.loop-at.invariant.capacity, c.loop-at.invariant.count, c.loop-at.auto.at-end, c.len-at-end.ensures, c.requires.few, many, was)

pub returns-clause-latest : goal.returns-clause-latest
returns-clause-latest c = c.loop-at.invariant.latest
