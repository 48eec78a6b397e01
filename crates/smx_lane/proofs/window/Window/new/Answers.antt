use Rattle.std.proofs.Common.{◌≡◌, ◌-◌, ◌∷◌, [], sym, ◌∙◌, Some, ap, refl, arith, length, length-append, replicate, Option, None}
use Rattle.std.proofs.lemmas.List.{length-replicate}
use Rattle.smx_history.specs.declared.place.Place.{Place}
use Rattle.smx_lane.proofs.WindowRows.{held-replicate, only-replicate, falling-pushed, empty-falling, once-falling, numbered-replicate}
use Rattle.smx_lane.proofs.window.Window.new.Goals as goal

pub loop-given-preserved : goal.loop-given-preserved
loop-given-preserved c =
    let was = c.loop-given.invariant in
    let given = c.loop-given.given in
    let pushed = c.push_reserved.ensures.items in
    record {
      count = omega (arith, ap length pushed, length-append c.loop-given.free.items ((c.args.most - 1 - given) ∷ []), was.count);
      room = omega (arith, c.push_reserved.ensures.capacity, was.room);
      numbers = rw pushed (falling-pushed c.args.most given c.loop-given.free.items was.numbers was.count c.loop-given-test.true);
    }

pub invariant_of-result : goal.invariant_of-result
invariant_of-result c =
    let was = c.loop-given.invariant in
    let n = c.args.most in
    let free = c.loop-given.free.items in
    let count : length free ≡ n = omega (arith, was.count, c.loop-given-test.false, c.loop-given.auto.given-end) in
    let is : c.in_ok-rows.rows ≡ replicate n None = c.in_ok-rows.ensures in
    let long = length-replicate {A = Option Place} n None in
    let zeros : c.in_ok-generations.generations.items ≡ replicate n 0 = c.in_ok-generations.ensures.items_if_clones_equal (λ y e. e) in
    record {
      numbered = rw is (numbered-replicate n);
      empty = rw is (empty-falling n free was.numbers (omega (arith, count)));
      distinct = once-falling n free was.numbers;
      count = rw (is, held-replicate n) (omega (arith, count, long));
      few = rw is (omega (arith, long, c.requires));
      room = rw is (omega (arith, long, was.room));
      generations = rw (is, zeros) (length-replicate n 0 ∙ sym long);
      going_round = rw zeros (λ k g at. omega (arith, only-replicate n k 0 g at));
      listed = rw is (λ q at. let e : Some q ≡ None = only-replicate n _ None (Some q) at in cc);
      before = rw is (λ k q at. let e : Some q ≡ None = only-replicate n k None (Some q) at in cc);
      places = rw is (omega (arith, long, c.in_ok-ages.ensures.2));
    }

pub returns : goal.returns
returns c =
    let is : c.in_ok-rows.rows ≡ replicate c.args.most None = c.in_ok-rows.ensures in
    let zeros : c.in_ok-generations.generations.items ≡ replicate c.args.most 0 = c.in_ok-generations.ensures.items_if_clones_equal (λ y e. e) in
    rw (is, length-replicate, held-replicate, zeros, c.in_ok-ages.ensures.1) refl
