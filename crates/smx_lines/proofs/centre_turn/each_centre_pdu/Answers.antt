use Rattle.std.proofs.Common.{rules, arith, ◌++◌, ◌∷◌, [], sym, ap, ◌∙◌, append_assoc, refl, subst, List}
use Rattle.smx_pdu.specs.declared.pdu.Pdu.{Pdu}
use Rattle.smx_lines.specs.CentreTurn.{centre_pdu}
use Rattle.smx_lines.proofs.Turning.{Turning, turning_start, turning_more, all_yielded, turning_reached}
use Rattle.smx_lines.proofs.centre_turn.each_centre_pdu.Goals as goal

pub loop-pdu-init : goal.loop-pdu-init
loop-pdu-init c = record {
  long = refl;
  so_far = turning_start (centre_pdu c.args.lane) c.args.state.now c.new-text.result.items c.new-text.ensures.items;
  left = c.into_iter-pdu-iterator.ensures.into_iter_gives.0;
}

pub centre_pdu-requires : goal.centre_pdu-requires
centre_pdu-requires c = record {
  there = omega (arith, c.loop-pdu.invariant.long);
  reached = turning_reached (centre_pdu c.args.lane) c.args.state.now c.loop-pdu.state c.loop-pdu.yielded c.loop-pdu.text.items c.requires.reached c.loop-pdu.invariant.so_far;
}

pub loop-pdu-preserved : goal.loop-pdu-preserved
loop-pdu-preserved c =
    let next = c.in-Some.ensures.steps.0 in
    record {
      long = c.centre_pdu.ensures.lanes ∙ c.loop-pdu.invariant.long;
      so_far = turning_more (centre_pdu c.args.lane) c.args.state.now c.loop-pdu.state c.centre_pdu.new.state c.loop-pdu.yielded c.in-Some.pdu c.loop-pdu.text.items c.in_ok-centre_pdu.field-0.items c.extend_from_slice.new.self.items c.loop-pdu.invariant.so_far c.in_ok-centre_pdu.ensures.turned (search rules);
      left = append_assoc c.loop-pdu.yielded (c.in-Some.pdu ∷ []) c.next.new.self.rest.items ∙ ap (λ xs. c.loop-pdu.yielded ++ xs) (sym next) ∙ c.loop-pdu.invariant.left;
    }

pub returns-clause-turned : goal.returns-clause-turned
returns-clause-turned c =
    let rest = c.loop-pdu.pdu-iterator.rest in
    let all = all_yielded c.args.pdus.items c.loop-pdu.yielded rest.items c.loop-pdu.invariant.left (omega (arith, c.in-None.ensures.steps.0, rest.ok.0)) in
    subst (λ (ps : List Pdu). Turning (centre_pdu c.args.lane) c.args.state.now c.loop-pdu.state ps c.loop-pdu.text.items) all c.loop-pdu.invariant.so_far
