use Rattle.std.proofs.Common.{subst}
use Rattle.std.specs.Prelude.{MatchResult}
use Rattle.smx_shared.specs.Serving.{SplitServes, SplitFails}
use Rattle.smx_shared.proofs.Holding.{made_seat, made_no_seat}
use Rattle.smx_shared.proofs.lane_seat.LaneSeat.split.Goals.{in-Ok, in-Err}
use Rattle.smx_shared.proofs.lane_seat.LaneSeat.split.Goals as goal

pub returns-clause-served : goal.returns-clause-served
returns-clause-served g c =
    subst (λ f. MatchResult c.match-split.result (λ s. SplitServes f c.split.new.self s) (λ _. SplitFails f c.split.new.self)) c.self.view_is
    (elim c.match-split.branch [
      | in-Ok w ↦ rw w.result-is (made_seat c.self.inside.seat c.split.new.self _ w.in-Ok.ensures.ok)
      | in-Err w ↦ rw w.result-is (made_no_seat c.self.inside.seat c.split.new.self w.in-Err.ensures.err)
    ])
