use Rattle.std.proofs.Common.{◌||◌, refl, sym, ap, subst}
use Rattle.smx_turns.specs.Puts.{Gets}
use Rattle.smx_turns.proofs.Chains.{chain_push}
use Rattle.smx_turns.proofs.Putting.{gets_from}
use Rattle.smx_client.specs.declared.leaver.Leaving.TheVariants.{Item}
use Rattle.smx_client.specs.Leaving.{answers_next}
use Rattle.smx_client.specs.Replies.{ItemAnswersSo}
use Rattle.smx_client.proofs.Leavings.{gets_push, answered_push}
use Rattle.smx_client.proofs.leaver.Leaver.refuse_item.Goals as goal

pub invariant_of-self : goal.invariant_of-self
invariant_of-self g c =
    let s = c.args.self.now in
    let e = c.get-got.ensures in
    record {
      left_is = chain_push answers_next _ _ _ _ _ (Item c.of-found.result c.refuse_got-reply.result) c.and-self.ensures (
        c.requires.none,
        c.requires.rows,
        c.requires.none,
        refl,
        subst (λ x. Gets s.inbox c.get-got.new.self x) (sym c.of-found.ensures) (gets_from s.inbox c.get-got.new.self c.get-got.result e.got e.served e.never_spent),
        subst (λ x. ItemAnswersSo x c.refuse_got-reply.result s.senders.items c.refuse_got-reply.new.senders.items) (sym c.of-found.ensures) c.refuse_got-reply.ensures,
      ) s.left_is;
      answered_is = answered_push _ _ (Item c.of-found.result c.refuse_got-reply.result) _ _ c.and-self.ensures s.answered_is (ap (λ b. s.answered || b) c.is_taken.ensures);
    }

pub returns-clause-gets : goal.returns-clause-gets
returns-clause-gets g c = gets_push _ _ (Item c.of-found.result c.refuse_got-reply.result) c.and-self.ensures
