use Rattle.std.proofs.Common.{subst, ap, sym, ◌∙◌}
use Rattle.smx_box.specs.Boxes.{Receiving}
use Rattle.smx_turns.specs.declared.mo_item.MoItem.{MoItem}
use Rattle.smx_client.specs.Leaving.{IsEmptied}
use Rattle.smx_client.proofs.Leavings.{left_so}
use Rattle.smx_client.proofs.worker.ClientWorker.close.Goals as goal

pub returns-clause-left : goal.returns-clause-left
returns-clause-left g c = rw (← c.self.view_is) (
    let new = c.new-leaver.ensures in
    let all = c.answer_all.ensures in (
      c.answer_all.new.self.window,
      all.over.1,
      left_so _ _ _ _ _ _ _ _ _ _ _ _ _ (ap (λ x. x.value) all.first.0 ∙ new.first_parked) (ap (λ x. x.value) all.first.1 ∙ new.first_window)
          (ap (λ x. x.value) all.first.2 ∙ new.first_inbox) (ap (λ v. v.items) (ap (λ x. x.value) all.first.3 ∙ new.first_senders)) all.over.0 c.into_closed.ensures.left,
    ))

pub returns-clause-emptied : goal.returns-clause-emptied
returns-clause-emptied g c = rw (← c.self.view_is) (
    subst (λ es. IsEmptied c.self.inside.inbox.front.queue.places es) (sym c.into_closed.ensures.closing)
    (subst (λ (i : Receiving MoItem). IsEmptied i.front.queue.places c.answer_all.new.self.closing) c.new-leaver.ensures.inbox c.answer_all.ensures.emptied))
