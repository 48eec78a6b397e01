-- What becomes of a worker's lane when its link is gone.
use Rattle.std.specs.Prelude.{◌≡◌, List, Option, Some, None, Ok, Err}
use Rattle.smx_lock.specs.Fronts.{Front}
use Rattle.smx_history.specs.declared.limits.Limits.{Limits}
use Rattle.smx_history.specs.declared.note.Note.{Note}
use Rattle.smx_history.specs.declared.reply.Failed.{Failed}
use Rattle.smx_shared.specs.declared.fault.FailFault.{FailFault}
use Rattle.smx_shared.specs.Serving.{GoesDown, Fails}
use Rattle.smx_turns.specs.Runs.{Runs}
use Rattle.smx_upstream.specs.declared.losing.Lost.{Lost}

-- one request was given up
abbrev pub GivesUp : Front Note Limits → Failed → Front Note Limits → Type 0
GivesUp f failed g = Fails f g (Ok failed)

-- the lane refused to give one more up, or was not asked
abbrev pub StopsGivingUp : Front Note Limits → Front Note Limits → Option FailFault → Type 0
StopsGivingUp f g (Some fault) = Fails f g (Err fault)
StopsGivingUp f g None = g ≡ f

-- one request after another was given up, until the lane refused
abbrev pub GivesAll : Front Note Limits → Front Note Limits → List Failed → Option FailFault → Type 0
GivesAll f g given end = (last : Front Note Limits) × Runs GivesUp f given last × StopsGivingUp last g end

-- the lane was brought down, and then what was taken was given up
abbrev pub Loses : Front Note Limits → Front Note Limits → Lost → Type 0
Loses f g lost = (down : Front Note Limits) × GoesDown f down lost.down × GivesAll down g lost.given lost.end
