use Rattle.std.proofs.Common.{refl, ap, ◌||◌}
use Rattle.smx_turns.proofs.Chains.{chain_push}
use Rattle.smx_client.specs.declared.leaver.Leaving.TheVariants.{Row}
use Rattle.smx_client.specs.Leaving.{answers_next}
use Rattle.smx_client.proofs.Leavings.{gets_same, answered_push}
use Rattle.smx_client.proofs.leaver.Leaver.refuse_row.Goals as goal

pub invariant_of-self-2 : goal.invariant_of-self-2
invariant_of-self-2 g c =
    let x = c.in-Some.ensures.first in
    record {
      left_is = chain_push answers_next _ _ _ _ _ (Row c.in-Some.lane c.in-Some.number c.in-Some.command c.refuse_once-reply.result) c.and-self.ensures
          (x.0, c.requires.none, x.1, x.2, x.3, x.4, c.requires.none, x.5, refl, c.refuse_once-reply.ensures) c.args.self.now.left_is;
      answered_is = answered_push _ _ (Row c.in-Some.lane c.in-Some.number c.in-Some.command c.refuse_once-reply.result) _ _ c.and-self.ensures c.args.self.now.answered_is
          (ap (λ b. c.args.self.now.answered || b) c.is_taken.ensures);
    }

pub returns-clause-gets : goal.returns-clause-gets
returns-clause-gets g c = gets_same _ _ (Row c.in-Some.lane c.in-Some.number c.in-Some.command c.refuse_once-reply.result) c.and-self.ensures refl
