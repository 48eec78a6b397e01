use Rattle.smx_routes.proofs.Apart.{length-without}
use Rattle.smx_routes.proofs.mo_window.MoWindow.take_first.Goals as goal

pub returns-clause-one : goal.returns-clause-one
returns-clause-one c = rw c.remove.ensures (length-without c.args.self.now.waiting c.in_ok-message.message c.in_ok-message.ensures.apart c.in_ok-message.ensures.first.there)
