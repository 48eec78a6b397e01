use Rattle.std.proofs.Common.{rules, arith, ◌++◌, ◌∷◌, [], sym, ap, ◌∙◌, append_assoc, subst, List}
use Rattle.smx_pdu.specs.declared.pdu.Pdu.{Pdu}
use Rattle.smx_lines.specs.ClientTurn.{client_pdu}
use Rattle.smx_lines.proofs.Turning.{Turning, turning_start, turning_more, all_yielded, turning_reached}
use Rattle.smx_lines.proofs.KnownClients.{still_known}
use Rattle.smx_lines.proofs.client_turn.each_client_pdu.Goals as goal

pub loop-pdu-init : goal.loop-pdu-init
loop-pdu-init c = record {
  so_far = turning_start (client_pdu c.args.client) c.args.state.now c.new-text.result.items c.new-text.ensures.items;
  left = c.into_iter-pdu-iterator.ensures.into_iter_gives.0;
}

pub client_pdu-requires : goal.client_pdu-requires
client_pdu-requires c =
    let reached = c.requires.reached in
    let so_far = c.loop-pdu.invariant.so_far in
    record {
      reached = turning_reached (client_pdu c.args.client) c.args.state.now c.loop-pdu.state c.loop-pdu.yielded c.loop-pdu.text.items reached so_far;
      known = still_known c.args.client c.loop-pdu.yielded c.args.state.now c.loop-pdu.state reached.0 c.loop-pdu.text.items c.args.client reached.1 (so_far reached.0 reached.1) c.requires.known;
    }

pub loop-pdu-preserved : goal.loop-pdu-preserved
loop-pdu-preserved c =
    let next = c.in-Some.ensures.steps.0 in
    record {
      so_far = turning_more (client_pdu c.args.client) c.args.state.now c.loop-pdu.state c.client_pdu.new.state c.loop-pdu.yielded c.in-Some.pdu c.loop-pdu.text.items c.in_ok-client_pdu.field-0.items c.extend_from_slice.new.self.items c.loop-pdu.invariant.so_far c.in_ok-client_pdu.ensures (search rules);
      left = append_assoc c.loop-pdu.yielded (c.in-Some.pdu ∷ []) c.next.new.self.rest.items ∙ ap (λ xs. c.loop-pdu.yielded ++ xs) (sym next) ∙ c.loop-pdu.invariant.left;
    }

pub returns : goal.returns
returns c =
    let rest = c.loop-pdu.pdu-iterator.rest in
    let all = all_yielded c.args.pdus.items c.loop-pdu.yielded rest.items c.loop-pdu.invariant.left (omega (arith, c.in-None.ensures.steps.0, rest.ok.0)) in
    subst (λ (ps : List Pdu). Turning (client_pdu c.args.client) c.args.state.now c.loop-pdu.state ps c.loop-pdu.text.items) all c.loop-pdu.invariant.so_far
