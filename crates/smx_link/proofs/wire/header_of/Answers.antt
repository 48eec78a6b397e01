use Rattle.smx_pdu.proofs.Spelling.{in_one_array}
use Rattle.smx_link.proofs.wire.header_of.Goals as goal

pub returns : goal.returns
returns c =
    in_one_array _ _ _ _ _ _ _ _
    c.to_be_bytes.ensures c.to_be_bytes-2.ensures c.to_be_bytes-3.ensures c.to_be_bytes-4.ensures
