use Rattle.std.proofs.Common.{◌≡◌, ℕ, List, ◌++◌, drop, length, refl, ap, ◌∙◌, rules}
use Rattle.std.proofs.lemmas.List.{drop_at}
use Rattle.smx_pdu.specs.Fields.{bind_fields, all_octets}
use Rattle.smx_pdu.specs.Reading.{bind_at, said_by, in_order}
use Rattle.smx_pdu.proofs.BodyLaws.{bind_again}
use Rattle.smx_pdu.proofs.bind.write_bind.Goals as goal

pub returns-clause-again : goal.returns-clause-again
returns-clause-again c = λ more.
    let old = c.args.out.now.items in
    let octets = all_octets bind_fields (in_order (said_by c.args.bind.now)) in
    let written : c.append_bind.new.out.items ≡ old ++ octets = search rules in
    ap (λ (xs : List ℕ). bind_at (drop (length old) xs ++ more)) written
    ∙ ap (λ (xs : List ℕ). bind_at (xs ++ more)) (drop_at old octets (length old) refl)
    ∙ bind_again (said_by c.args.bind.now) more c.requires
