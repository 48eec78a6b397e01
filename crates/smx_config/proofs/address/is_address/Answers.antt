use Rattle.std.proofs.Common.{◌∙◌, arith}
use Rattle.std.proofs.lemmas.Str.Pattern.{strip_prefix_char}
use Rattle.smx_config.proofs.Addresses.{no_bracket}
use Rattle.smx_config.proofs.address.is_address.Goals as goal

pub returns-in-None : goal.returns-in-None
returns-in-None c = c.is_plain_address.ensures ∙ no_bracket c.args.text.now (rw c.in-None.is at (strip_prefix_char 91 c.args.text.now c.strip_prefix.result c.strip_prefix.ensures.cases (omega arith)))
