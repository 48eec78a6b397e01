-- When a lane is not made, and when a client is not admitted.
use Rattle.std.specs.Prelude.{◌≡◌, Option, Some, None}
use Rattle.smx_history.specs.declared.limits.Limits.{Limits}
use Rattle.smx_history.specs.declared.reply.AdmitFault.{AdmitFault}
use Rattle.smx_history.specs.declared.reply.AdmitFault.TheVariants as admit
use Rattle.smx_history.specs.Room.{AreLimits}
use Rattle.smx_lane.specs.declared.fault.LaneFault.{LaneFault}
use Rattle.smx_lane.specs.declared.fault.LaneFault.TheVariants.{BadLimits, NoMemory}

-- bad limits are those outside their ranges, and memory is asked for within them alone
abbrev pub IsLaneFault : Limits → LaneFault → Type 0
IsLaneFault limits BadLimits = ¬ (AreLimits limits)
IsLaneFault limits NoMemory = AreLimits limits

-- the fault is the refusal, and memory is asked for where nothing is refused
abbrev pub IsAdmitFault : Option AdmitFault → AdmitFault → Type 0
IsAdmitFault refused admit.NoMemory = refused ≡ None
IsAdmitFault refused fault = refused ≡ Some fault
