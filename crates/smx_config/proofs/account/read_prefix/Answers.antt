use Rattle.std.proofs.Common.{◌∙◌, sym, map, string_bytes, List, ℕ}
use Rattle.std.specs.Str.{bytes_eq}
use Rattle.toml.specs.View.{view}
use Rattle.smx_config.proofs.Distinct.{All-from_none, list_any-map, prefix_in-known, prefix_in-new}
use Rattle.smx_config.proofs.account.read_prefix.Goals as goal

pub returns-then-is_among-clause-value : goal.returns-then-is_among-clause-value
returns-then-is_among-clause-value c =
    prefix_in-known c.in-Some.prefix.now (map string_bytes c.args.before.now) (view c.args.value.now) c.in-Some.ensures.value
    (sym (list_any-map (bytes_eq c.in-Some.prefix.now) string_bytes c.args.before.now) ∙ sym c.is_among.ensures ∙ c.if-is_among.true)

pub returns-clause-value : goal.returns-clause-value
returns-clause-value c =
    rw c.in_ok-prefix.ensures.ok
    (prefix_in-new c.in-Some.prefix.now (map string_bytes c.args.before.now) (view c.args.value.now) c.in-Some.ensures.value
    (sym (list_any-map (bytes_eq c.in-Some.prefix.now) string_bytes c.args.before.now) ∙ sym c.is_among.ensures ∙ c.if-is_among.false))

pub returns-clause-new : goal.returns-clause-new
returns-clause-new c =
    rw c.in_ok-prefix.ensures.ok
    (All-from_none (λ (q : List ℕ). q) c.in-Some.prefix.now (map string_bytes c.args.before.now)
    (sym (list_any-map (bytes_eq c.in-Some.prefix.now) string_bytes c.args.before.now) ∙ sym c.is_among.ensures ∙ c.if-is_among.false))
