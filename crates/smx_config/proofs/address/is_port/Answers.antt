use Rattle.std.proofs.Common.{◌≡◌, ◌∙◌, sym, true}
use Rattle.std.specs.Char.{is_ascii_digit}
use Rattle.std.specs.List.{list_all}
use Rattle.smx_config.proofs.Addresses.{port_of_digits}
use Rattle.smx_config.proofs.address.is_port.Goals as goal

pub returns-then-are_digits : goal.returns-then-are_digits
returns-then-are_digits c =
    let digits : list_all is_ascii_digit c.args.text.now ≡ true = rw c.as_bytes.ensures.value at (sym c.are_digits.ensures ∙ c.if-are_digits.true) in
    rw (c.is_ok.ensures.value, port_of_digits c.args.text.now c.parse.result c.parse.ensures.value.0 digits, digits)
