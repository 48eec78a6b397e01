use Rattle.std.proofs.Common.{◌≡◌, ◌++◌, take}
use Rattle.smx_trace.proofs.trace.Trace.extend.Given as goal

abbrev pub invariant-loop-event : goal.invariant-loop-event
invariant-loop-event g l = l.self ≡ l.fn.self ++ take l.event-index l.events
