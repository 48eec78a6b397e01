use Rattle.std.proofs.Common.{◌≡◌, ◌<◌, ◌≤◌, ◌+◌, ◌*◌, length, take, Some, arith}
use Rattle.std.proofs.lemmas.Grind.{common_steps}
use Rattle.smx_proxy_header.specs.Header.{addresses_of, count, source_in}
use Rattle.smx_proxy_header.proofs.Headers.{part_fields, whole_fields}
use Rattle.smx_proxy_header.proofs.reading.read_fields.Goals as goal

pub returns-in-Some-get : goal.returns-in-Some-get
returns-in-Some-get c =
    let a = c.in-Some.addresses in
    let n = c.from-length.result in
    let known : addresses_of c.args.command c.args.family ≡ Some a = grind (arith, common_steps) in
    let said : n ≡ c.args.high * 256 + c.args.low = grind (arith, common_steps) in
    let enough : count a ≤ n = grind (arith, common_steps) in
    let within : n ≤ 4096 = grind (arith, common_steps) in
    let here : n ≤ length c.args.rest.now = grind (arith, common_steps) in
    let named : c.source.result ≡ source_in a (take n c.args.rest.now) = grind (arith, common_steps) in
    rw named (whole_fields c.args.command c.args.family c.args.high c.args.low n c.args.rest.now a known said enough within here)

pub returns-in-None : goal.returns-in-None
returns-in-None c =
    let a = c.in-Some.addresses in
    let n = c.from-length.result in
    let known : addresses_of c.args.command c.args.family ≡ Some a = grind (arith, common_steps) in
    let said : n ≡ c.args.high * 256 + c.args.low = grind (arith, common_steps) in
    let enough : count a ≤ n = grind (arith, common_steps) in
    let within : n ≤ 4096 = grind (arith, common_steps) in
    let short : length c.args.rest.now < n = grind (arith, common_steps) in
    part_fields c.args.command c.args.family c.args.high c.args.low c.args.rest.now a known (omega arith) (omega arith) (omega arith)
