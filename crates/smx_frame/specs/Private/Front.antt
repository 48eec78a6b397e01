-- What octets begin with, for the framer's own proof.
use Rattle.std.specs.Prelude.{ℕ, List, length, nat_lt, if◌then◌else◌}
use Rattle.smx_pdu.specs.Pdu.{length_field}
use Rattle.smx_frame.specs.declared.front.Front.{Front}
use Rattle.smx_frame.specs.declared.front.Front.TheVariants.{Part, Bad, Whole}
use Rattle.smx_frame.specs.declared.fault.FrameFault.TheVariants.{Below16, AboveMax}

unfoldable pub front_of : ℕ → List ℕ → Front
front_of max octets =
    if nat_lt (length octets) 4 then Part
    else if nat_lt (length_field octets) 16 then Bad Below16
    else if nat_lt max (length_field octets) then Bad AboveMax
    else if nat_lt (length octets) (length_field octets) then Part
    else Whole (length_field octets)
