use Rattle.std.proofs.Common.{eq-eqb}
use Rattle.std.proofs.lemmas.Bool.{eqb-true}
use Rattle.smx_box.proofs.BoxEnds.{ended_all, all_ended}
use Rattle.smx_box.proofs.receiver.Receiver.ended.Goals as goal

pub returns : goal.returns
returns g c = (
  (λ e. ended_all c.self.inside.end c.args.self.now c.self.inside.senders c.self.inside.shut c.self.view_is c.self.invariant (eqb-true c.self.inside.shut c.self.inside.senders e)),
  (λ all. eq-eqb c.self.inside.shut c.self.inside.senders (all_ended c.self.inside.end c.args.self.now c.self.inside.senders c.self.inside.shut c.self.view_is c.self.invariant all)),
)
