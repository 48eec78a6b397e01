use Rattle.std.proofs.Common.{List, ◌++◌, ℕ, subst, sym, ◌∙◌}
use Rattle.smx_proxy_header.specs.Header.{signature, Begins}
use Rattle.smx_proxy_header.proofs.Headers.{four_fields, part_rest}
use Rattle.smx_proxy_header.proofs.reading.read_rest.Goals as goal

pub returns-in-len4-up : goal.returns-in-len4-up
returns-in-len4-up c =
    subst (λ (x : List ℕ). Begins (signature ++ x) c.read_fields.result) (sym (four_fields c.args.octets.now c.in-len4-up.len_at_least)) c.read_fields.ensures

pub returns-then-may_begin : goal.returns-then-may_begin
returns-then-may_begin c =
    part_rest c.args.octets.now c.in_default.len_below (sym c.may_begin.ensures ∙ c.if-may_begin.true)
