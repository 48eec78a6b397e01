use Rattle.std.proofs.Common.{◌≡◌, drop}
use Rattle.smx_script.specs.Script.{number_of, read_on}
use Rattle.smx_script.proofs.words.number.Given as goal

abbrev pub invariant-loop-octet : goal.invariant-loop-octet
invariant-loop-octet l = number_of l.fn.word ≡ read_on l.value (drop l.octet-index l.word)
