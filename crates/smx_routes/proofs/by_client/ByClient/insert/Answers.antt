use Rattle.std.proofs.Common.{◌≡◌, ◌∷◌, ◌++◌, [], sym, ap, subst, ◌∙◌, IsPermutation}
use Rattle.std.specs.Option.{option_copied_mut}
use Rattle.std.specs.Map.{set_value}
use Rattle.std.specs.Ordering.{nat_cmp}
use Rattle.std.specs.BTreeMap.{insert_entry}
use Rattle.smx_routes.specs.Routing.{route}
use Rattle.smx_routes.proofs.Holding.{on_err}
use Rattle.smx_routes.proofs.Owning.{at_client, owned, pushed, kept, added}
use Rattle.smx_routes.proofs.by_client.ByClient.insert.Goals as goal

pub returns-in_err-push-clause-err : goal.returns-in_err-push-clause-err
returns-in_err-push-clause-err c =
    let found = sym c.get_mut.ensures.value ∙ ap option_copied_mut c.in-Some.is in
    let entries = (c.get_mut.follows.holds c.push.new.self).0 in
    on_err c.from_residual-in_err-push.result (ap owned entries ∙ kept c.args.client c.self.inside.prefixes.entries c.in-Some.prefixes.now c.push.new.self found c.in_err-push.ensures.items ∙ c.self.view_is)

pub returns-in-Some-clause-ok : goal.returns-in-Some-clause-ok
returns-in-Some-clause-ok c =
    let copied : c.in_ok-prefix.prefix.items ≡ c.args.prefix.now = c.in_ok-prefix.ensures.items_if_clones_equal (λ x y h. h) in
    let found = sym c.get_mut.ensures.value ∙ ap option_copied_mut c.in-Some.is in
    let entries = (c.get_mut.follows.holds c.push.new.self).0 in
    let old = c.self.inside.prefixes.entries in
    let put = pushed c.args.client old c.in-Some.prefixes.now c.push.new.self c.in_ok-prefix.prefix found c.in_ok-push.ensures.items in
    rw (← c.self.view_is, entries) (subst (λ p. IsPermutation (route p c.args.client ∷ owned old) (owned (set_value (at_client c.args.client) old c.push.new.self))) copied put)

pub returns-clause-ok : goal.returns-clause-ok
returns-clause-ok c =
    let copied : c.in_ok-prefix.prefix.items ≡ c.args.prefix.now = c.in_ok-prefix.ensures.items_if_clones_equal (λ x y h. h) in
    let missing = sym c.get_mut.ensures.value ∙ ap option_copied_mut c.in_default.is in
    let entries = rw c.get_mut.follows.holds-at-none at c.in_ok-insert.ensures.entries in
    let old = c.self.inside.prefixes.entries in
    let put = added c.args.client old c.push-2.new.self c.in_ok-prefix.prefix missing (c.in_ok-push-2.ensures.items ∙ ap (λ ps. ps ++ c.in_ok-prefix.prefix ∷ []) c.new-prefixes.ensures.items) in
    rw (← c.self.view_is, entries) (subst (λ p. IsPermutation (route p c.args.client ∷ owned old) (owned (insert_entry nat_cmp old c.args.client c.push-2.new.self))) copied put)
