use Rattle.std.proofs.Common.{◌∙◌, refl, sym, subst, rules}
use Rattle.smx_client.specs.Scenes.{scene_of}
use Rattle.smx_client.specs.Serving.{Serving}
use Rattle.smx_client.specs.Turns.{Changes}
use Rattle.smx_client.proofs.Cells as cell
use Rattle.smx_client.proofs.worker.ClientWorker.collect_lane.Goals as goal

pub returns-then-is_clogged-clause-moves : goal.returns-then-is_clogged-clause-moves
returns-then-is_clogged-clause-moves g c = λ n asked told queries base was.
    c.mark.ensures.leads n _ _ tt (c.if-is_clogged.ensures.clogged refl, refl) base (c.loop-log.invariant.moves n asked told queries base was)

pub returns-then-is_clogged-clause-phase : goal.returns-then-is_clogged-clause-phase
returns-then-is_clogged-clause-phase g c = λ t was. c.mark.ensures.phase t _ (c.loop-log.invariant.phase t was) ∙ cell.clogs_collect t _

pub loop-log-preserved : goal.loop-log-preserved
loop-log-preserved g c = record {
  same = search rules;
  phase = search rules;
  moves = λ n asked told queries base was.
      c.collect_some.ensures.moves n asked told queries base
      (subst (λ (w : Serving g.row.L.Denot). Changes n base c.loop-log.log (scene_of g.L.Link.offered g.L.Link.polls g.L.Link.failures asked told queries w)) (sym (c.self.view_is ∙ c.make_room.ensures.same)) (c.loop-log.invariant.moves n asked told queries base was));
}
