use Rattle.std.proofs.Common.{◌∙◌, ap, sym, true}
use Rattle.smx_client.specs.Scenes.{before}
use Rattle.smx_client.specs.Serving.{Serving}
use Rattle.smx_client.specs.Table.{Before, Opening, when_written}
use Rattle.smx_client.proofs.Cells as cell
use Rattle.smx_client.proofs.worker.ClientWorker.run_turn.Goals as goal

pub returns-in-Err-clause-phase : goal.returns-in-Err-clause-phase
returns-in-Err-clause-phase g c = λ t is was. (cell.write_fails t Opening _ _ (cell.unopened t) (c.in-Err.ensures.phase t Opening was), tt)

pub returns-then-left-clause-phase : goal.returns-then-left-clause-phase
returns-then-left-clause-phase g c = λ t is was.
    let o = c.in-Ok.ensures in
    cell.left_ends t _ _ _ _ _ _ _ _ _ c.if-left.true (o.phase t Opening was) (ap (λ (x : Before). x.stage) is ∙ sym (ap (λ w. w.stage) o.same)) (cell.some_are _ (sym c.if-left.true ∙ o.left))

pub returns-in-Closed-clause-phase : goal.returns-in-Closed-clause-phase
returns-in-Closed-clause-phase g c = λ t is was.
    let o = c.in-Ok.ensures in
    cell.over_ends t _ true _ _ _ _ _ _ (cell.begun t _ _ c.if-left.false (o.phase t Opening was)) (ap (λ (x : Before). x.stage) is ∙ sym (ap (λ w. w.stage) o.same)) (ap (λ (w : Serving g.row.L.Denot). w.stage) (sym c.self.view_is) ∙ c.in-Closed.is) (cell.none_are _ (sym c.if-left.false ∙ o.left))

pub returns-in_default-clause-phase : goal.returns-in_default-clause-phase
returns-in_default-clause-phase g c = λ t is was.
    let o = c.in-Ok.ensures in
    c.rest_part.ensures.phase t (is ∙ ap (before c.args.now) (sym o.same))
    (cell.begun t _ _ c.if-left.false (o.phase t Opening was) ∙ ap (when_written t) (ap (λ (x : Before). x.stage) is ∙ sym (ap (λ w. w.stage) o.same)))
