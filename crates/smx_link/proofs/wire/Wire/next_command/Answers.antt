use Rattle.std.proofs.Common.{◌≡◌, ◌<◌, ◌+◌, ℕ, length, rules, sym, ◌∙◌, ap, arith}
use Rattle.smx_pdu.specs.Pdu.{length_field}
use Rattle.smx_pdu.proofs.Spelling.{field_of_first}
use Rattle.smx_link.proofs.Commands.{command_first, no_fault, fits_whole}
use Rattle.smx_link.proofs.wire.Wire.next_command.Goals as goal
use Rattle.smx_link.proofs.wire.Wire.next_command.Goals.{then-length-lt16-via-then-length-lt16, then-length-lt16-via-else-length-lt16+then-length-gt65536, then-length-lt16-via-else-length-lt16+else-length-gt65536+then-octets-length}

pub returns-clause-command : goal.returns-clause-command
returns-clause-command g c =
    rw (← c.self.view_is) (λ p more takes. command_first c.self.inside.framer.stream.rest c.in_ok-first.first.now more p (search rules) takes ∙ sym c.read_header-length.ensures.command)

pub returns-clause-whole : goal.returns-clause-whole
returns-clause-whole g c =
    rw (← c.self.view_is) (no_fault c.self.inside.framer.stream.rest c.in_ok-first.first.now c.read_header-length.result.length (search rules) c.read_header-length.ensures.length
    c.if-length-lt16.false c.if-length-gt65536.false (search rules))

pub returns-in_err-first-clause-none : goal.returns-in_err-first-clause-none
returns-in_err-first-clause-none g c =
    let rest = c.self.inside.framer.stream.rest in
    let short : length rest < 16 = search rules in
    rw (← c.self.view_is) (λ none. fits_whole rest (λ enough least most here. omega (arith, enough, short)))

pub returns-then-length-lt16-clause-none : goal.returns-then-length-lt16-clause-none
returns-then-length-lt16-clause-none g c =
    let rest = c.self.inside.framer.stream.rest in
    let field : c.read_header-length.result.length ≡ length_field rest = c.read_header-length.ensures.length ∙ field_of_first rest c.in_ok-first.first.now (search rules) in
    rw (← c.self.view_is) (λ none. fits_whole rest (λ enough least most here. elim c.then-length-lt16.branch [
      | then-length-lt16-via-then-length-lt16 w ↦ omega (arith, field, least, w.if-length-lt16)
      | then-length-lt16-via-else-length-lt16+then-length-gt65536 w ↦ omega (arith, field, most, w.if-length-gt65536)
      | then-length-lt16-via-else-length-lt16+else-length-gt65536+then-octets-length w ↦
          let fewer : length rest < c.read_header-length.result.length = search rules in
          omega (arith, field, here, fewer)
    ]))
