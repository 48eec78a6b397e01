use Rattle.smx_pdu.proofs.Texts.{no_end_found}
use Rattle.smx_pdu.proofs.fields.is_text.Goals as goal

pub returns-then-value-limit : goal.returns-then-value-limit
returns-then-value-limit c = no_end_found c.args.limit c.args.value.now _ _ c.if-value-limit.true c.end_of_text.ensures c.is_none.ensures
