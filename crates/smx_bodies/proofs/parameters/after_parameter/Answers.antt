use Rattle.std.proofs.Common.{◌+◌, ◌-◌, ◌*◌, take, drop, length, sym, ap, ◌∙◌, arith}
use Rattle.std.proofs.lemmas.List.{take_rest}
use Rattle.smx_bodies.specs.Reading.{parameters_after}
use Rattle.smx_bodies.proofs.Values.{value_passed, value_cut, header_read}
use Rattle.smx_bodies.proofs.parameters.after_parameter.Goals as goal

pub returns-then-value-length-clause-none : goal.returns-then-value-length-clause-none
returns-then-value-length-clause-none c = λ _.
    let n = c.from.result * 256 + c.from-2.result in
    let value = take (length c.args.octets.now - 4) (drop 4 c.args.octets.now) in
    header_read c.args.octets.now c.from.result c.from-2.result (omega (arith, c.in-len4-up.len_at_least)) c.from.ensures c.from-2.ensures
    ∙ ap (parameters_after n) (sym (take_rest c.args.octets.now 4))
    ∙ value_cut n value (omega (arith, c.if-value-length.true))

pub returns-clause-rest : goal.returns-clause-rest
returns-clause-rest c =
    let n = c.from.result * 256 + c.from-2.result in
    let value = take (length c.args.octets.now - 4) (drop 4 c.args.octets.now) in
    header_read c.args.octets.now c.from.result c.from-2.result (omega (arith, c.in-len4-up.len_at_least)) c.from.ensures c.from-2.ensures
    ∙ ap (parameters_after n) (sym (take_rest c.args.octets.now 4))
    ∙ value_passed n value (omega (arith, c.if-value-length.false))
    ∙ ap (parameters_after 0) (sym (take_rest value n))
