use Rattle.std.proofs.Common.{◌≡◌, ◌==◌, ◌≤◌, ℕ, false, not, cond, refl, ap, sym, ◌∙◌, map, take, length}
use Rattle.std.specs.Global.{Vec}
use Rattle.std.specs.List.{filter}
use Rattle.std.proofs.lemmas.List.{take_all}
use Rattle.std.proofs.lemmas.List.Elements.{All-filter}
use Rattle.smx_routes.specs.Routing.{Route, route, is_route, has_route}
use Rattle.smx_routes.specs.Private.Holders.{has_holder}
use Rattle.smx_routes.proofs.Tying.{has_left, has_fewer}
use Rattle.smx_routes.proofs.routes.Routes.remove.Goals as goal

pub loop-prefix-init : goal.loop-prefix-init
loop-prefix-init c = (refl, λ p q. refl)

pub loop-prefix-preserved : goal.loop-prefix-preserved
loop-prefix-preserved c = (
  c.loop-prefix.invariant.0,
  λ p q.
      let removed = rw c.as_slice.ensures.value at (c.remove.ensures p q) in
      removed ∙ ap (cond (is_route (route p q) (route c.prefix-item.result.items c.args.client)) false) (c.loop-prefix.invariant.1 p q)
      ∙ has_fewer (λ (v : Vec ℕ). route v.items c.args.client) c.deref-prefix-items.result.now c.loop-prefix.prefix-index c.prefix-item.result (route p q) (has_holder c.self.inside.by_prefix p q) c.prefix-item.is c.loop-prefix-test.true,
)

pub invariant_of-self : goal.invariant_of-self
invariant_of-self c =
    let old = c.self.inside.by_client in
    let its = λ (r : Route). r.client == c.args.client in
    let show = λ (v : Vec ℕ). route v.items c.args.client in
    let left : c.loop-prefix.self-inside.by_client ≡ filter (λ r. not (its r)) old = c.loop-prefix.invariant.0 ∙ c.take-prefixes.ensures.left in
    let all : map show (take c.loop-prefix.prefix-index c.deref-prefix-items.result.now) ≡ filter its old =
    ap (map show) (take_all c.loop-prefix.prefix-index c.deref-prefix-items.result.now c.loop-prefix-test.false ∙ c.deref-prefix-items.ensures.value) ∙ c.take-prefixes.ensures.taken in record {
      tied = λ p q.
          c.loop-prefix.invariant.1 p q ∙ (λ i. cond (has_route (all i) (route p q)) false (c.self.invariant.tied p q i))
          ∙ has_left its old (route p q) ∙ ap (λ rs. has_route rs (route p q)) (sym left);
      short = rw left (All-filter (λ r. not (its r)) (λ r. length r.prefix ≤ 64) old c.self.invariant.short);
    }
