use Rattle.std.proofs.Common.{◌∙◌, sym}
use Rattle.smx_config.specs.Settings.{AccountSettings}
use Rattle.smx_config.proofs.Distinct.{All-from_none}
use Rattle.smx_config.proofs.account.read_account.Goals as goal

pub returns-clause-new : goal.returns-clause-new
returns-clause-new c =
    rw c.in_ok-system_id.ensures.ok (All-from_none (λ (a : AccountSettings). a.system_id) c.in-Some.system_id.now c.args.before.now (sym c.is_known.ensures ∙ c.if-is_known.false))
