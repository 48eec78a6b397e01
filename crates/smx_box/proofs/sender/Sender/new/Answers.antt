use Rattle.smx_box.proofs.BoxEnds.{first_sender}
use Rattle.smx_box.proofs.sender.Sender.new.Goals as goal

pub invariant_of-result : goal.invariant_of-result
invariant_of-result g c = first_sender c.args.end c.args.sender c.requires
