-- How a worker's work ended.
use Rattle.std.specs.Prelude.{List, Option, Some, None}
use Rattle.smx_turns.specs.declared.end.End.{End}
use Rattle.smx_turns.specs.Steps.{phase_from}
use Rattle.smx_turns.specs.Worth.{Worth}

-- the first end stands
abbrev pub or_end : Option End → Option End → Option End
or_end None o = o
or_end (Some end) o = Some end

-- by the first of these events that ended it
unfoldable pub ending_of : {E : Type 0} → (E → Worth) → List E → Option End
ending_of worth es = phase_from (λ o e. or_end o (worth e).ends) None es
