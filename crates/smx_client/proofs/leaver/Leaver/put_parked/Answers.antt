use Rattle.std.proofs.Common.{refl, sym, ap, ◌||◌}
use Rattle.smx_turns.proofs.Chains.{chain_push}
use Rattle.smx_client.specs.declared.leaver.Leaving.TheVariants.{Kept}
use Rattle.smx_client.specs.Leaving.{answers_next}
use Rattle.smx_client.proofs.Leavings.{gets_same, answered_push}
use Rattle.smx_client.proofs.leaver.Leaver.put_parked.Goals as goal

pub invariant_of-self-2 : goal.invariant_of-self-2
invariant_of-self-2 g c = record {
  left_is = chain_push answers_next _ _ _ _ _ (Kept c.put_once-reply.result) c.and-self.ensures
      (c.in-Some.field-0, sym c.in-Some.ensures.value, c.take.ensures.after, refl, refl, c.put_once-reply.ensures) c.args.self.now.left_is;
  answered_is = answered_push _ _ (Kept c.put_once-reply.result) _ _ c.and-self.ensures c.args.self.now.answered_is (ap (λ b. c.args.self.now.answered || b) c.is_taken.ensures);
}

pub returns-clause-gets : goal.returns-clause-gets
returns-clause-gets g c = gets_same _ _ (Kept c.put_once-reply.result) c.and-self.ensures refl
