-- What contracts see of a wire.
use Rattle.std.specs.Prelude.{◌≡◌, ℕ, List, ◌++◌, Option}
use Rattle.std.specs.List.{flat_map}
use Rattle.smx_pdu.specs.declared.pdu.Pdu.{Pdu}
use Rattle.smx_pdu.specs.Pdu.{spelling}
use Rattle.smx_frame.specs.declared.fault.FrameFault.{FrameFault}

-- the octets of PDUs, one after another
abbrev pub spellings : List Pdu → List ℕ
spellings ps = flat_map spelling ps

pub record Wiring (L : Type 0) : Type 0 where
  -- the link, now and as it was handed over
  pub link : L
  pub start : L
  -- the PDUs that were heard from it and those that were said to it, in order
  pub heard : List Pdu
  pub said : List Pdu
  -- the octets that it gave and that no PDU heard has
  pub rest : List ℕ
  -- the octets of what was said that it has not taken
  pub unsent : List ℕ
  -- the bad length that was met
  pub failed : Option FrameFault
  -- how many octets can be heard and said before memory is wanted
  pub intake : ℕ
  pub room : ℕ

-- what the link gave since it was handed over is what was heard and then the rest; what it took
-- since then, and then what it has not taken, is what was said
pub record Balances {L : Type 0} (given taken : L → List ℕ) (w : Wiring L) : Type 0 where
  pub hears : given w.link ≡ given w.start ++ (spellings w.heard ++ w.rest)
  pub says : taken w.link ++ w.unsent ≡ taken w.start ++ spellings w.said
