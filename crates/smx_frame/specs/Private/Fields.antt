-- What a framer keeps of its fields.
use Rattle.std.specs.Prelude.{◌≡◌, ◌≤◌, length, drop, take, Some}
use Rattle.smx_frame.specs.declared.framer.Framer.TheInside.{Inside}
use Rattle.smx_frame.specs.declared.fault.FrameFault.{FrameFault}
use Rattle.smx_frame.specs.Stream.{fault_at}

pub record IsFramer (f : Inside) : Type 0 where
  pub order : f.start ≤ f.end
  pub within : f.end ≤ length f.octets.items
  pub least : 16 ≤ f.max
  pub most : f.max ≤ 65536
  pub failed : (e : FrameFault) → f.failed ≡ Some e → fault_at f.max (drop f.start (take f.end f.octets.items)) ≡ Some e
