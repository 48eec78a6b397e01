use Rattle.std.proofs.Common.{◌≡◌, ◌∙◌, ap, sym, Some}
use Rattle.smx_turns.specs.declared.gate.Point.TheVariants.{Binding, Refusing}
use Rattle.smx_turns.specs.declared.step.Step.TheVariants.{Asked}
use Rattle.smx_session.specs.declared.ask.Ask.TheVariants.{Bind, RefusedBind}
use Rattle.smx_client.specs.Serving.{held_asks}
use Rattle.smx_client.specs.Table.{Deciding, go, with_leave}
use Rattle.smx_client.proofs.Cells as cell
use Rattle.smx_client.proofs.worker.ClientWorker.decide_one.Goals as goal

pub returns-then-not-given-clause-phase : goal.returns-then-not-given-clause-phase
returns-then-not-given-clause-phase g c = λ t was.
    let ended = c.args.ended in
    let account = c.in-Some-Bind.account in
    c.bar.ensures.phase t ended (c.ask-given.ensures.phase t _ was ∙ ap (λ b. go t (Deciding ended) (Asked (Binding account) b)) c.if-not-given.true ∙ cell.no_bind t ended account)

pub returns-else-not-given-clause-phase : goal.returns-else-not-given-clause-phase
returns-else-not-given-clause-phase g c = λ t was.
    let ended = c.args.ended in
    let account = c.in-Some-Bind.account in
    let asks : held_asks c.make_room.new.self ≡ Some (Bind account) = sym c.asks.ensures ∙ c.in-Some-Bind.is ∙ ap Some c.in-Some-Bind.field-0-is in
    c.decide_own-in-Some-Bind.ensures.phase t ended
    (c.ask-given.ensures.phase t _ was ∙ ap (λ b. go t (Deciding ended) (Asked (Binding account) b)) c.if-not-given.false ∙ cell.yes_bind t ended account ∙ sym (ap (with_leave ended) asks))

pub returns-then-not-given-2-clause-phase : goal.returns-then-not-given-2-clause-phase
returns-then-not-given-2-clause-phase g c = λ t was.
    let ended = c.args.ended in
    c.ask-given-in-Some-RefusedBind.ensures.phase t _ was ∙ ap (λ b. go t (Deciding ended) (Asked Refusing b)) c.if-not-given-2.true ∙ cell.no_refuse t ended

pub returns-else-not-given-2-clause-phase : goal.returns-else-not-given-2-clause-phase
returns-else-not-given-2-clause-phase g c = λ t was.
    let ended = c.args.ended in
    let asks : held_asks c.make_room.new.self ≡ Some RefusedBind = sym c.asks.ensures ∙ c.in-Some-RefusedBind.is ∙ ap Some c.in-Some-RefusedBind.field-0-is in
    c.decide_own-in-Some-RefusedBind.ensures.phase t ended
    (c.ask-given-in-Some-RefusedBind.ensures.phase t _ was ∙ ap (λ b. go t (Deciding ended) (Asked Refusing b)) c.if-not-given-2.false ∙ cell.yes_refuse t ended ∙ sym (ap (with_leave ended) asks))
