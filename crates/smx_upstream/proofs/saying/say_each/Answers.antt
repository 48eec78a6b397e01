use Rattle.std.proofs.Common.{rules, ◌≤◌, ◌+◌, ◌++◌, ◌∷◌, [], length, map, refl, sym, ap, ◌∙◌, subst, append_assoc, arith}
use Rattle.smx_link.specs.Wiring.{spellings}
use Rattle.smx_shared.specs.Batches.{octets_of_requests}
use Rattle.smx_upstream.specs.Events.{face_up}
use Rattle.smx_upstream.proofs.Lists.{said_none, unsent_none, said_more, unsent_more, room_for_first, room_for_others, all_said}
use Rattle.smx_upstream.proofs.saying.say_each.Goals as goal

pub say_within-requires : goal.say_within-requires
say_within-requires g c =
    let first = room_for_first _ _ c.in-Some.sent _ c.in-Some.ensures.items c.loop-sent.invariant.room in
    record { room = subst (λ p. 16 + length p.body ≤ c.loop-sent.wire.room) (sym c.face_up-pdu.ensures) first }

pub loop-sent-init : goal.loop-sent-init
loop-sent-init g c = record {
  made = ([], c.from_vec-left.ensures.items, said_none _ _ refl, unsent_none _ _ refl);
  room = subst (λ ss. octets_of_requests ss ≤ c.args.wire.now.room) (sym c.from_vec-left.ensures.items) c.requires.room;
  same = refl;
}

pub loop-sent-preserved : goal.loop-sent-preserved
loop-sent-preserved g c =
    let made = c.loop-sent.invariant.made in
    let s = c.in-Some.sent in
    let next = c.in-Some.ensures.items in
    let gone = c.give_back.ensures in
    record {
      made = (
        made.0 ++ s ∷ [],
        append_assoc made.0 (s ∷ []) c.pop_front.new.self.items ∙ ap (λ xs. made.0 ++ xs) (sym next) ∙ made.1,
        said_more _ _ _ made.0 s c.face_up-pdu.result c.face_up-pdu.ensures (ap (λ w. w.said) gone ∙ c.say_within.ensures.said) made.2,
        unsent_more _ _ _ made.0 s c.face_up-pdu.result c.face_up-pdu.ensures (ap (λ w. w.unsent) gone ∙ c.say_within.ensures.unsent) made.3,
      );
      room = room_for_others _ _ s _ _ next c.loop-sent.invariant.room (subst (λ w. c.loop-sent.wire.room ≤ w.room + (16 + length s.request.body)) (sym gone) (subst (λ p. c.loop-sent.wire.room ≤ c.say_within.new.self.room + (16 + length p.body)) c.face_up-pdu.ensures c.say_within.ensures.left));
      same = search rules;
    }

pub returns-clause-said : goal.returns-clause-said
returns-clause-said g c =
    let made = c.loop-sent.invariant.made in
    let left = c.loop-sent.left in
    let all = all_said c.args.requests.items made.0 left.items made.1 (omega (arith, c.in_default.ensures.cases.0, left.ok.0)) in
    made.2 ∙ ap (λ ss. c.args.wire.now.said ++ map face_up ss) all

pub returns-clause-unsent : goal.returns-clause-unsent
returns-clause-unsent g c =
    let made = c.loop-sent.invariant.made in
    let left = c.loop-sent.left in
    let all = all_said c.args.requests.items made.0 left.items made.1 (omega (arith, c.in_default.ensures.cases.0, left.ok.0)) in
    made.3 ∙ ap (λ ss. c.args.wire.now.unsent ++ spellings (map face_up ss)) all
