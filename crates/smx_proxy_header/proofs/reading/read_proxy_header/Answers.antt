use Rattle.std.proofs.Common.{List, ℕ, sym, subst}
use Rattle.std.proofs.lemmas.Bool.Decides.{Decides-eqb}
use Rattle.std.proofs.lemmas.Slice.Eq.{starts_is}
use Rattle.smx_proxy_header.specs.declared.header.ProxyHeader.TheVariants.{Part, Wrong}
use Rattle.smx_proxy_header.specs.Header.{signature, Begins}
use Rattle.smx_proxy_header.proofs.Headers.{behind_signature, few_of, part_signature, wrong_signature}
use Rattle.smx_proxy_header.proofs.reading.read_proxy_header.Goals as goal

pub returns-then-starts_with : goal.returns-then-starts_with
returns-then-starts_with c =
    let starts = starts_is Decides-eqb c.args.octets.now signature c.starts_with.result c.starts_with.ensures.value in
    let begins : Begins c.args.octets.now c.read_rest.result = subst (λ (x : List ℕ). Begins x c.read_rest.result) (sym (behind_signature c.args.octets.now (starts.0 c.if-starts_with.true))) c.read_rest.ensures in
    record { value = begins; few = few_of c.args.octets.now c.read_rest.result begins }

pub returns-then-starts_with-2 : goal.returns-then-starts_with-2
returns-then-starts_with-2 c =
    let starts = starts_is Decides-eqb signature c.args.octets.now c.starts_with-else-starts_with.result c.starts_with-else-starts_with.ensures.value in
    let begins : Begins c.args.octets.now Part = part_signature c.args.octets.now (c.starts_with-else-starts_with.ensures.bound c.if-starts_with-2.true) (starts.0 c.if-starts_with-2.true) in
    record { value = begins; few = few_of c.args.octets.now Part begins }

pub returns-else-starts_with-2 : goal.returns-else-starts_with-2
returns-else-starts_with-2 c =
    let signs = starts_is Decides-eqb c.args.octets.now signature c.starts_with.result c.starts_with.ensures.value in
    let fronts = starts_is Decides-eqb signature c.args.octets.now c.starts_with-else-starts_with.result c.starts_with-else-starts_with.ensures.value in
    let no = c.if-starts_with.false in
    let none = c.if-starts_with-2.false in
    let begins : Begins c.args.octets.now Wrong = wrong_signature c.args.octets.now (λ t e. let yes = signs.1 t e in absurd cc) (λ t e. let yes = fronts.1 t e in absurd cc) in
    record { value = begins; few = few_of c.args.octets.now Wrong begins }
