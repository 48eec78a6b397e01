use Rattle.std.proofs.Common.{◌≡◌, length, true, false, refl, sym, ap, ◌∙◌, subst, arith, inl, inr}
use Rattle.std.proofs.lemmas.List.Sums.{sum_by_push}
use Rattle.std.specs.Option.{option_copied}
use Rattle.smx_history.specs.declared.response.Response.{Response}
use Rattle.smx_shared.specs.Batches.{octets_with, octets_of_responses, body_in, Exceeds}
use Rattle.smx_shared.proofs.ListServing.{gave_none, gave_more, gave_all, gave_full, has_some}
use Rattle.smx_shared.proofs.Passing.{some_same}
use Rattle.smx_shared.proofs.batching.collect_each.Goals as goal

pub loop-init : goal.loop-init
loop-init c =
    let empty = c.requires.room.0 in
    record {
      own = c.requires.own;
      gave = rw empty (gave_none c.args.by c.args.client c.args.lane.now);
      limits = refl;
      octets = rw empty refl;
      within = omega arith;
      count = rw empty refl;
      room = c.requires.room.1;
    }

pub returns-in_default : goal.returns-in_default
returns-in_default c =
    let i = c.loop.invariant in
    let no = sym c.next_response.ensures ∙ ap option_copied c.in_default.is in
    record {
      ran = gave_all c.args.by c.args.client c.args.lane.now c.loop.lane record { responses = c.loop.responses; more = false } refl i.gave i.own no;
      limits = i.limits;
      count = omega (arith, i.count, c.loop-test.true);
      some = λ more. let h : false ≡ true = more in cc;
      octets = omega (arith, i.octets, i.within);
      ends = λ more. let h : false ≡ true = more in cc;
    }

pub overflow_add-octets : goal.overflow_add-octets
overflow_add-octets c = let i = c.loop.invariant in omega (arith, i.within, c.len-length.ensures.short)

pub returns-then-octets-length-gt-MAX_PDU : goal.returns-then-octets-length-gt-MAX_PDU
returns-then-octets-length-gt-MAX_PDU c =
    let i = c.loop.invariant in
    let is = sym c.next_response.ensures ∙ ap option_copied c.in-Some.is in
    record {
      ran = gave_full c.args.by c.args.client c.args.lane.now c.loop.lane record { responses = c.loop.responses; more = true } refl i.gave;
      limits = i.limits;
      count = omega (arith, i.count, c.loop-test.true);
      some = λ more. has_some (λ (x : Response). octets_with x.pdu.body) c.loop.responses.items (omega (arith, i.octets, c.len-length.ensures.short, c.if-octets-length-gt-MAX_PDU.true));
      octets = omega (arith, i.octets, i.within);
      ends = λ more. inr (subst (λ o. Exceeds (octets_of_responses c.loop.responses.items) (body_in o)) (sym is) (omega (arith, i.octets, c.len-length.ensures.value, c.if-octets-length-gt-MAX_PDU.true)));
    }

pub collect_response-requires : goal.collect_response-requires
collect_response-requires c = c.loop.invariant.own

pub push_reserved-requires : goal.push_reserved-requires
push_reserved-requires c = let i = c.loop.invariant in omega (arith, i.count, i.room, c.loop-test.true, c.loop.responses.ok.0)

pub loop-preserved : goal.loop-preserved
loop-preserved c =
    let i = c.loop.invariant in
    let r = c.in-Some-collect_response.response in
    let oldest = sym c.collect_response.ensures.oldest ∙ c.in-Some-collect_response.is in
    let is = sym c.next_response.ensures ∙ ap option_copied c.in-Some.is in
    let same = some_same c.in-Some.next.now r (sym is ∙ oldest) in
    let long = ap (λ x. length x.pdu.body) same in
    let items = c.push_reserved.ensures.items in
    let more = sum_by_push (λ (x : Response). octets_with x.pdu.body) c.loop.responses.items r in
    record {
      own = c.collect_response.ensures.own;
      gave = rw items (gave_more c.args.by c.args.client c.args.lane.now c.loop.lane c.collect_response.new.self c.loop.responses.items r i.gave i.own oldest c.in-Some-collect_response.ensures.agrees);
      limits = c.collect_response.ensures.limits ∙ i.limits;
      octets = rw items (omega (arith, i.octets, more, long, c.len-length.ensures.value));
      within = omega (arith, c.if-octets-length-gt-MAX_PDU.false);
      count = omega (arith, c.push_reserved.ensures.len, i.count, c.push_reserved.new.self.ok.0, c.loop.responses.ok.0);
      room = omega (arith, c.push_reserved.ensures.capacity, i.room);
    }

pub returns : goal.returns
returns c =
    let i = c.loop.invariant in
    let all : length c.loop.responses.items ≡ 16 = omega (arith, i.count, c.loop.auto.counter-end, c.loop-test.false) in
    record {
      ran = gave_full c.args.by c.args.client c.args.lane.now c.loop.lane record { responses = c.loop.responses; more = true } refl i.gave;
      limits = i.limits;
      count = omega (arith, all);
      some = λ more. omega (arith, all);
      octets = omega (arith, i.octets, i.within);
      ends = λ more. inl all;
    }
