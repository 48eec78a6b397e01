use Rattle.std.proofs.Common.{subst, sym, ◌∙◌}
use Rattle.std.specs.Prelude.{IsOk}
use Rattle.smx_bodies.proofs.Bodily.{body_is, body_cut}
use Rattle.smx_bodies.proofs.reading.check_body.Goals as goal

pub returns-clause-body : goal.returns-clause-body
returns-clause-body c =
    let is = body_is c.args.command c.args.body.now in
    (λ ok. is.0 (subst (λ r. IsOk r) c.body_of.ensures ok), λ h. subst (λ r. IsOk r) (sym c.body_of.ensures) (is.1 h))

pub returns-clause-message : goal.returns-clause-message
returns-clause-message c =
    let is = body_cut c.args.command c.args.body.now in
    (λ e. is.0 (sym c.body_of.ensures ∙ e), λ h. c.body_of.ensures ∙ is.1 h)
