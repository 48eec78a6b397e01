use Rattle.smx_pdu.specs.Fields.{IsText}
use Rattle.smx_pdu.proofs.bind.Bind.fits.Goals as goal
use Rattle.smx_pdu.proofs.bind.Bind.fits.Goals.{then-is_text, else-is_text, then-is_text-2, else-is_text-2}

pub returns-then-is_text-3 : goal.returns-then-is_text-3
returns-then-is_text-3 c =
    elim c.if-is_text-2.branch [
      | then-is_text-2 w ↦ elim c.if-is_text.branch [
        | then-is_text v ↦
            let third : IsText 13 c.args.self.now.system_type.now = w.is_text-then-is_text-2.ensures.0 cc in
            let first : IsText 16 c.args.self.now.system_id.now = c.is_text.ensures.0 v.if-is_text.true in
            let second : IsText 9 c.args.self.now.password.now = v.is_text-then-is_text.ensures.0 cc in
            (λ yes. (first, (second, (third, (tt, (tt, (tt, (c.is_text-then-is_text-3.ensures.0 yes, tt))))))), λ fit. c.is_text-then-is_text-3.ensures.1 fit.1.1.1.1.1.1.0)
        | else-is_text v ↦ absurd (let no = v.if-is_text.false in cc)
      ]
      | else-is_text-2 w ↦ absurd cc
    ]
