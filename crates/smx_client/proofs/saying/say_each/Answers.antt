use Rattle.std.proofs.Common.{rules, ◌≤◌, ◌+◌, ◌++◌, ◌∷◌, [], length, refl, sym, ap, ◌∙◌, subst, append_assoc, arith}
use Rattle.smx_shared.specs.Batches.{octets_of_responses}
use Rattle.smx_client.specs.Events.{pdus_of}
use Rattle.smx_client.specs.Sayings.{Spoke}
use Rattle.smx_client.proofs.Lists.{said_none, unsent_none, said_more, unsent_more, room_for_first, room_for_others, all_said}
use Rattle.smx_client.proofs.saying.say_each.Goals as goal

pub say_within-requires : goal.say_within-requires
say_within-requires g c = record { room = room_for_first _ _ c.in-Some.response _ c.in-Some.ensures.items c.loop-response.invariant.room }

pub loop-response-init : goal.loop-response-init
loop-response-init g c = record {
  made = ([], c.from_vec-left.ensures.items, record { said = said_none _ _ refl; unsent = unsent_none _ _ refl; same = refl });
  room = subst (λ rs. octets_of_responses rs ≤ c.args.wire.now.room) (sym c.from_vec-left.ensures.items) c.requires.room;
}

pub loop-response-preserved : goal.loop-response-preserved
loop-response-preserved g c =
    let made = c.loop-response.invariant.made in
    let r = c.in-Some.response in
    let next = c.in-Some.ensures.items in
    let gone = c.give_back.ensures in
    let said = c.say_within.ensures in
    record {
      made = (
        made.0 ++ r ∷ [],
        append_assoc made.0 (r ∷ []) c.pop_front.new.self.items ∙ ap (λ xs. made.0 ++ xs) (sym next) ∙ made.1,
        record {
          said = said_more _ _ _ made.0 r (ap (λ w. w.said) gone ∙ said.said) made.2.said;
          unsent = unsent_more _ _ _ made.0 r (ap (λ w. w.unsent) gone ∙ said.unsent) made.2.unsent;
          same = search rules;
        },
      );
      room = room_for_others _ _ r _ _ next c.loop-response.invariant.room (subst (λ w. c.loop-response.wire.room ≤ w.room + (16 + length r.pdu.body)) (sym gone) said.left);
    }

pub returns : goal.returns
returns g c =
    let made = c.loop-response.invariant.made in
    let left = c.loop-response.left in
    let all = all_said c.args.responses.items made.0 left.items made.1 (omega (arith, c.in_default.ensures.cases.0, left.ok.0)) in
    subst (λ rs. Spoke c.args.wire.now c.loop-response.wire (pdus_of rs)) all made.2
