-- The limits of a lane.
use Rattle.std.specs.Prelude.{◌≤◌}
use Rattle.smx_history.specs.declared.limits.Limits.{Limits}

-- the limits that a lane is made with
pub record AreLimits (limits : Limits) : Type 0 where
  pub queue : (1 ≤ limits.queue) × (limits.queue ≤ 65535)
  pub window : (1 ≤ limits.window) × (limits.window ≤ 1024)
  pub client : (1 ≤ limits.client) × (limits.client ≤ 256)
  pub history : (1000 ≤ limits.history) × (limits.history ≤ 1000000)
