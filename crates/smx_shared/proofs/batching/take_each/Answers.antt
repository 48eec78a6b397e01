use Rattle.std.proofs.Common.{◌≡◌, length, Some, None, refl, ap, ◌∙◌, arith, inl, inr}
use Rattle.std.proofs.lemmas.List.Sums.{sum_by_push}
use Rattle.smx_lane.specs.declared.sent.Sent.{Sent}
use Rattle.smx_shared.specs.Batches.{octets_with}
use Rattle.smx_shared.specs.Steps.{length_in}
use Rattle.smx_shared.proofs.ListServing.{took_none, took_more, took_all, took_full, same_moment, exceeds_with, has_some}
use Rattle.smx_shared.proofs.batching.take_each.Goals as goal

pub loop-init : goal.loop-init
loop-init c =
    let empty = c.requires.room.0 in
    record {
      took = rw empty (took_none c.args.by c.args.now c.args.lane.now);
      moment = refl;
      limits = refl;
      octets = rw empty refl;
      within = omega arith;
      count = rw empty refl;
      room = c.requires.room.1;
    }

pub overflow_add-octets : goal.overflow_add-octets
overflow_add-octets c = let i = c.loop.invariant in omega (arith, i.within, c.next_length-length.ensures.short)

pub returns-then-octets-length-gt-MAX_PDU : goal.returns-then-octets-length-gt-MAX_PDU
returns-then-octets-length-gt-MAX_PDU c =
    let i = c.loop.invariant in
    record {
      ran = took_full c.args.by c.args.now c.args.lane.now c.loop.lane record { requests = c.loop.requests; stop = None } refl i.took;
      limits = i.limits;
      count = omega (arith, i.count, c.loop-test.true);
      some = λ more. has_some (λ (x : Sent). octets_with x.request.body) c.loop.requests.items (omega (arith, i.octets, c.next_length-length.ensures.short, c.if-octets-length-gt-MAX_PDU.true));
      octets = omega (arith, i.octets, i.within);
      ends = λ more. inr (rw (← i.octets) (exceeds_with _ c.loop.octets i.within (omega (arith, c.next_length-length.ensures.next, c.if-octets-length-gt-MAX_PDU.true))));
    }

pub push_reserved-requires : goal.push_reserved-requires
push_reserved-requires c = let i = c.loop.invariant in omega (arith, i.count, i.room, c.loop-test.true, c.loop.requests.ok.0)

pub returns-in-Err : goal.returns-in-Err
returns-in-Err c =
    let i = c.loop.invariant in
    record {
      ran = rw c.in-Err.ensures.err (took_all c.args.by c.args.now c.args.lane.now c.loop.lane record { requests = c.loop.requests; stop = Some c.in-Err.refusal } c.in-Err.refusal refl i.took c.in-Err.ensures.reply);
      limits = c.take.ensures.limits ∙ i.limits;
      count = omega (arith, i.count, c.loop-test.true);
      some = λ more. let h : Some c.in-Err.refusal ≡ None = more in cc;
      octets = omega (arith, i.octets, i.within);
      ends = λ more. let h : Some c.in-Err.refusal ≡ None = more in cc;
    }

pub loop-preserved : goal.loop-preserved
loop-preserved c =
    let i = c.loop.invariant in
    let s = c.in-Ok.sent in
    let oldest = c.in-Ok.ensures.oldest in
    let long = c.next_length-length.ensures.next ∙ ap length_in oldest in
    let items = c.push_reserved.ensures.items in
    let more = sum_by_push (λ (x : Sent). octets_with x.request.body) c.loop.requests.items s in
    record {
      took = rw items (took_more c.args.by c.args.now c.args.lane.now c.loop.lane c.take.new.self c.loop.requests.items s i.took i.moment c.in-Ok.ensures.reply oldest c.in-Ok.ensures.agrees);
      moment = same_moment c.args.now c.args.lane.now c.loop.lane c.take.new.self i.moment c.in-Ok.ensures.latest;
      limits = c.take.ensures.limits ∙ i.limits;
      octets = rw items (omega (arith, i.octets, more, long));
      within = omega (arith, c.if-octets-length-gt-MAX_PDU.false);
      count = omega (arith, c.push_reserved.ensures.len, i.count, c.push_reserved.new.self.ok.0, c.loop.requests.ok.0);
      room = omega (arith, c.push_reserved.ensures.capacity, i.room);
    }

pub returns : goal.returns
returns c =
    let i = c.loop.invariant in
    let all : length c.loop.requests.items ≡ 16 = omega (arith, i.count, c.loop.auto.counter-end, c.loop-test.false) in
    record {
      ran = took_full c.args.by c.args.now c.args.lane.now c.loop.lane record { requests = c.loop.requests; stop = None } refl i.took;
      limits = i.limits;
      count = omega (arith, all);
      some = λ more. omega (arith, all);
      octets = omega (arith, i.octets, i.within);
      ends = λ more. inl all;
    }
