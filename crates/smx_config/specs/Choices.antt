-- The words of a configuration that say which of several it is.
use Rattle.std.specs.Prelude.{ℕ, List, [], ◌∷◌, Option, find, true, false, codes}
use Rattle.std.specs.Str.{bytes_eq}
use Rattle.smx_config.specs.declared.log_form.LogForm.{LogForm}
use Rattle.smx_config.specs.declared.log_form.LogForm.TheVariants as form
use Rattle.smx_config.specs.declared.log_level.LogLevel.{LogLevel}
use Rattle.smx_config.specs.declared.log_level.LogLevel.TheVariants as level
use Rattle.smx_config.specs.declared.bind_kind.BindKind.{BindKind}
use Rattle.smx_config.specs.declared.bind_kind.BindKind.TheVariants as kind
use Rattle.smx_config.specs.declared.bodies.Bodies.{Bodies}
use Rattle.smx_config.specs.declared.bodies.Bodies.TheVariants as bodies
use Rattle.smx_config.specs.declared.command.Command.{Command}
use Rattle.smx_config.specs.declared.command.Command.TheVariants.{SubmitSm, SubmitMulti, DataSm, QuerySm, CancelSm, ReplaceSm}
use Rattle.smx_config.specs.declared.commands.Commands.{Commands}

-- how a file writes the form of the log
abbrev pub form_word : LogForm → List ℕ
form_word form.Text = codes "text"
form_word form.Json = codes "json"
form_word form.Journal = codes "journal"

abbrev pub all_forms : List LogForm
all_forms = form.Text ∷ form.Json ∷ form.Journal ∷ []

abbrev pub level_word : LogLevel → List ℕ
level_word level.Error = codes "error"
level_word level.Warn = codes "warn"
level_word level.Info = codes "info"

abbrev pub all_levels : List LogLevel
all_levels = level.Error ∷ level.Warn ∷ level.Info ∷ []

abbrev pub kind_word : BindKind → List ℕ
kind_word kind.Transceiver = codes "transceiver"
kind_word kind.Transmitter = codes "transmitter"
kind_word kind.Receiver = codes "receiver"

abbrev pub all_kinds : List BindKind
all_kinds = kind.Transceiver ∷ kind.Transmitter ∷ kind.Receiver ∷ []

abbrev pub bodies_word : Bodies → List ℕ
bodies_word bodies.Any = codes "any"
bodies_word bodies.Readable = codes "readable"

abbrev pub all_bodies : List Bodies
all_bodies = bodies.Any ∷ bodies.Readable ∷ []

-- the names of SMPP 3.4, section 5.1.2.1
abbrev pub command_word : Command → List ℕ
command_word SubmitSm = codes "submit_sm"
command_word SubmitMulti = codes "submit_multi"
command_word DataSm = codes "data_sm"
command_word QuerySm = codes "query_sm"
command_word CancelSm = codes "cancel_sm"
command_word ReplaceSm = codes "replace_sm"

abbrev pub all_command_names : List Command
all_command_names = SubmitSm ∷ SubmitMulti ∷ DataSm ∷ QuerySm ∷ CancelSm ∷ ReplaceSm ∷ []

-- which of them is meant by a word, if any
abbrev pub meant : {A : Type 0} → (A → List ℕ) → List A → List ℕ → Option A
meant word all s = find (λ a. bytes_eq s (word a)) all

abbrev pub no_commands : Commands
no_commands = record { submit_sm = false; submit_multi = false; data_sm = false; query_sm = false; cancel_sm = false; replace_sm = false }

abbrev pub all_commands : Commands
all_commands = record { submit_sm = true; submit_multi = true; data_sm = true; query_sm = true; cancel_sm = true; replace_sm = true }

-- these and one more
abbrev pub with_command : Commands → Command → Commands
with_command so SubmitSm = record so { submit_sm = true }
with_command so SubmitMulti = record so { submit_multi = true }
with_command so DataSm = record so { data_sm = true }
with_command so QuerySm = record so { query_sm = true }
with_command so CancelSm = record so { cancel_sm = true }
with_command so ReplaceSm = record so { replace_sm = true }
