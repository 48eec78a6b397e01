use Rattle.std.proofs.Common.{rules}
use Rattle.smx_pdu.proofs.Spelling.{in_parts}
use Rattle.smx_link.proofs.wire.append_pdu.Goals as goal

pub returns-clause-items : goal.returns-clause-items
returns-clause-items c =
    in_parts c.args.pdu.now c.args.out.now.items c.header_of.result c.append_within.new.out.items _
    (search rules) (search rules) (search rules)
