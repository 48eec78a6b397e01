use Rattle.std.proofs.Common.{refl, Some}
use Rattle.std.proofs.lemmas.Result.{IfOk-weaker}
use Rattle.smx_lines.specs.Relay.{client_turn}
use Rattle.smx_lines.specs.Turns.{Acts}
use Rattle.smx_lines.proofs.line.run_action.Goals as goal

pub returns-in_ok-enter-in-Client : goal.returns-in_ok-enter-in-Client
unfolding Acts
returns-in_ok-enter-in-Client c = λ s a. (Some (client_turn s c.in-Client.kind), rw c.in-Client.is refl, c.in_ok-enter-in-Client.ensures s a)

pub returns-in-Take : goal.returns-in-Take
unfolding Acts
returns-in-Take c = λ s a. IfOk-weaker c.take.result _ _ (λ text p. (p.0, rw c.in-Take.is p.1, p.2)) (c.take.ensures s a)

pub returns-in-Expire : goal.returns-in-Expire
unfolding Acts
returns-in-Expire c = λ s a. IfOk-weaker c.expire.result _ _ (λ text p. (p.0, rw c.in-Expire.is p.1, p.2)) (c.expire.ensures s a)
