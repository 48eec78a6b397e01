-- What the results of the system's calls are as outcomes.
use Rattle.std.specs.Prelude.{ℕ, Result, Ok, Err}
use Rattle.std.specs.IoError.{error_kind}
use Rattle.std.specs.declared.io.Error.{Error}
use Rattle.std.specs.declared.io.ErrorKind.{ErrorKind}
use Rattle.std.specs.declared.io.ErrorKind.TheVariants.{WouldBlock, Interrupted}
use Rattle.smx_socket.specs.declared.transport.Outcome.{Outcome}
use Rattle.smx_socket.specs.declared.transport.Outcome.TheVariants.{Moved, NotNow, Retry, Failed}

abbrev pub outcome_of_kind : ErrorKind → Outcome
outcome_of_kind WouldBlock = NotNow
outcome_of_kind Interrupted = Retry
outcome_of_kind _ = Failed

abbrev pub outcome_of : Result ℕ Error → Outcome
outcome_of (Ok n) = Moved n
outcome_of (Err e) = outcome_of_kind (error_kind e)
