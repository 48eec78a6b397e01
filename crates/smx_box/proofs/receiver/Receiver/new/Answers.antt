use Rattle.smx_box.proofs.BoxEnds.{first_receiver}
use Rattle.smx_box.proofs.receiver.Receiver.new.Goals as goal

pub invariant_of-result : goal.invariant_of-result
invariant_of-result g c = first_receiver c.args.end c.args.senders c.requires.number c.requires.mine c.requires.seen c.requires.senders
