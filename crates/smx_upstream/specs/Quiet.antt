-- Of which steps nothing came.
use Rattle.std.specs.Prelude.{Bool, List}
use Rattle.smx_turns.specs.Steps.{are_quiet}
use Rattle.smx_turns.specs.declared.step.Step.{Step}
use Rattle.smx_upstream.specs.declared.event.Event.{Event}
use Rattle.smx_upstream.specs.Events.{is_quiet_event}

-- nothing came of any of these steps
abbrev pub are_all_quiet : List (Step Event) → Bool
are_all_quiet ss = are_quiet is_quiet_event ss
