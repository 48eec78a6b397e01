use Rattle.std.proofs.Common.{◌≡◌, ℕ, ◌+◌, Bool, true, false, cond, ltb, length, List, take, position, ◌==◌, Option, Some, None, Ok, Err, sym, ap, ◌∙◌, arith, refl}
use Rattle.std.proofs.lemmas.List.{take_min, take_rest}
use Rattle.smx_pdu.specs.declared.body_fault.BodyFault.TheVariants.{Truncated, FieldTooLong}
use Rattle.smx_pdu.specs.Reading.{text_at, text_until}
use Rattle.smx_bodies.specs.declared.unreadable.Unreadable.TheVariants as why
use Rattle.smx_bodies.specs.Reading.{after_text, text_rest}
use Rattle.smx_bodies.proofs.fields.after_text.Goals as goal

-- where the code looked is where the text may end
looked : (limit : ℕ) (bs within : List ℕ) (r : Option ℕ) → within ≡ take limit bs → r ≡ position (λ octet. octet == 0) within → after_text limit bs ≡ text_rest (text_until limit bs r)
unfolding text_at after_text
looked limit bs within r w e = ap (λ (xs : List ℕ). text_rest (text_until limit bs (position (λ octet. octet == 0) xs))) (sym w) ∙ ap (λ r. text_rest (text_until limit bs r)) (sym e)

-- a text without an end, whatever the fault
no_end : (b : Bool) → text_rest (cond b (Err Truncated) (Err FieldTooLong)) ≡ Err why.Fields
no_end true = refl
no_end false = refl

pub returns-in-Some : goal.returns-in-Some
returns-in-Some c =
    looked c.args.limit c.args.octets.now (take c.min-within.result c.args.octets.now) (Some c.in-Some.end) (ap (λ (k : ℕ). take k c.args.octets.now) (omega (arith, c.min-within.ensures)) ∙ take_min c.args.limit c.args.octets.now) (sym c.in-Some.is ∙ c.end_of_text.ensures)
    ∙ ap (λ (rest : List ℕ). Ok rest) (sym (take_rest c.args.octets.now (c.in-Some.end + 1)))

pub returns-in-None : goal.returns-in-None
returns-in-None c =
    looked c.args.limit c.args.octets.now (take c.min-within.result c.args.octets.now) None (ap (λ (k : ℕ). take k c.args.octets.now) (omega (arith, c.min-within.ensures)) ∙ take_min c.args.limit c.args.octets.now) (sym c.in-None.is ∙ c.end_of_text.ensures)
    ∙ no_end (ltb (length c.args.octets.now) c.args.limit)
