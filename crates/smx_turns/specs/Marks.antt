-- Which marks of a turn tell that nothing came of it.
use Rattle.std.specs.Prelude.{Bool, true, not}
use Rattle.smx_turns.specs.declared.mark.Mark.{Mark}
use Rattle.smx_turns.specs.declared.mark.Mark.TheVariants.{Offered, WriteFailed, Waited, Full, NoRoom, Part, Entered}

-- no octet was written
abbrev pub is_quiet_mark : Mark → Bool
is_quiet_mark (Offered waited wrote left) = not wrote
is_quiet_mark WriteFailed = true
is_quiet_mark Waited = true
is_quiet_mark Full = true
is_quiet_mark NoRoom = true
is_quiet_mark Part = true
is_quiet_mark (Entered account whole) = true
