use Rattle.std.proofs.Common.{arith}
use Rattle.smx_frame.proofs.Fronts.{pdu_there, on_err}
use Rattle.smx_frame.proofs.whole.decode_whole.Goals as goal

pub returns-clause-err : goal.returns-clause-err
returns-clause-err c = on_err c.map_err.result (pdu_there c.args.octets.now c.requires.least c.requires.most c.requires.field (λ i. omega (arith, c.type_inv.octets i)))
