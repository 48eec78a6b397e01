-- What the first sixteen octets tell of the PDU that they begin.
use Rattle.std.proofs.Common.{◌≡◌, ℕ, ◌+◌, ◌≤◌, List, ◌++◌, take, drop, length, None, refl, sym, ◌∙◌, ap, append_assoc, arith}
use Rattle.std.specs.Int.{w32, from_be_bytes}
use Rattle.std.proofs.lemmas.Bool.{le-ltb}
use Rattle.std.proofs.lemmas.List.{take_at, drop_at, length-append}
use Rattle.smx_pdu.specs.declared.pdu.Pdu.{Pdu}
use Rattle.smx_pdu.specs.Pdu.{octets_of, spelling, length_field}
use Rattle.smx_pdu.proofs.Spelling.{length-octets_of, octets_of-back, inside, field_of_first, Spells-length, Spells-field}
use Rattle.smx_frame.specs.Stream.{TakesFirst, HasNone, fault_at}

command_at : (p : Pdu) (more : List ℕ) → take 4 (drop 4 (spelling p ++ more)) ≡ octets_of p.command
unfolding spelling
command_at p more =
    let l = octets_of (16 + length p.body) in
    let k = octets_of p.command in
    let rest = octets_of p.status ++ (octets_of p.number ++ p.body) in
    ap (λ x. take 4 (drop 4 x)) (append_assoc l (k ++ rest) more) ∙ ap (take 4) (drop_at l ((k ++ rest) ++ more) 4 (length-octets_of (16 + length p.body)))
    ∙ ap (take 4) (append_assoc k rest more) ∙ take_at k (rest ++ more) 4 (length-octets_of p.command)

-- the second four are its command
pub command_first : (old first more : List ℕ) (p : Pdu) → first ≡ take 16 old → TakesFirst 65536 old p more → p.command ≡ from_be_bytes w32 (take 4 (drop 4 first))
command_first old first more p is takes =
    sym (ap (λ x. from_be_bytes w32 (take 4 (drop 4 x))) is ∙ ap (from_be_bytes w32) (inside 4 12 old refl (omega arith))
    ∙ ap (λ x. from_be_bytes w32 (take 4 (drop 4 x))) takes.1 ∙ ap (from_be_bytes w32) (command_at p more) ∙ octets_of-back p.command takes.0.spells.command)

-- where the first four are a length that a PDU has, it is no bad one
pub no_fault : (old first : List ℕ) (n : ℕ) → first ≡ take 16 old → n ≡ from_be_bytes w32 (take 4 first) → 16 ≤ n → n ≤ 65536 → n ≤ length old → fault_at 65536 old ≡ None
unfolding fault_at
no_fault old first n is field least most here =
    let same : n ≡ length_field old = field ∙ field_of_first old first is in
    rw (le-ltb (length old) 4 (omega (arith, least, here)), le-ltb (length_field old) 16 (omega (arith, same, least)), le-ltb 65536 (length_field old) (omega (arith, same, most))) refl

-- what begins with a PDU has its sixteen octets at least, and its first four are a length that a PDU has, and no more than are there
pub fits_whole : (r : List ℕ) → (16 ≤ length r → 16 ≤ length_field r → length_field r ≤ 65536 → length_field r ≤ length r → ⊥) → HasNone 65536 r
fits_whole r unfit p octets more frame parts =
    let field : length_field r ≡ length octets = ap length_field parts ∙ Spells-field p octets more frame.spells in
    let len = Spells-length p octets frame.spells in
    let within = frame.within in
    let total : length r ≡ length octets + length more = ap length parts ∙ length-append octets more in
    unfit (omega arith) (omega arith) (omega arith) (omega arith)
