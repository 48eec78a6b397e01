use Rattle.std.proofs.Common.{◌≡◌, ◌≤◌, ◌-◌, true, length, take, drop, refl, ap, sym, ◌∙◌, arith, inl, inr}
use Rattle.std.specs.List.{Contains}
use Rattle.std.proofs.lemmas.Bool.{cases_lt, both_ways}
use Rattle.std.proofs.lemmas.List.{take_at, take-append-drop, length-take-le}
use Rattle.smx_routes.specs.Routing.{Route, route, has_route}
use Rattle.smx_routes.specs.Private.Holders.{has_holder}
use Rattle.smx_routes.proofs.Routed.{has_it, is_there}
use Rattle.smx_routes.proofs.routes.Routes.route.Goals as goal

pub loop-len-preserved : goal.loop-len-preserved
loop-len-preserved c = λ s has begins.
    let untried = c.loop-len.invariant s has begins in
    elim (cases_lt (length s.prefix) (c.loop-len.len - 1)) [
      | inl below ↦ below
      | inr above ↦
          let all : length s.prefix ≡ c.loop-len.len - 1 = omega (arith, untried) in
          let same : s.prefix ≡ take (c.loop-len.len - 1) c.args.address.now = sym (ap (take (c.loop-len.len - 1)) begins.is ∙ take_at s.prefix begins.rest (c.loop-len.len - 1) all) in
          let there : has_route c.args.self.now (route (take (c.loop-len.len - 1) c.args.address.now) s.client) ≡ true = ap (λ p. has_route c.args.self.now (route p s.client)) (sym same) ∙ has_it c.args.self.now s has in
          absurd (both_ways _ (c.in_default.ensures s.client) (c.self.invariant.tied _ s.client ∙ (rw (← c.self.view_is) at there)))
    ]

pub returns-in-Some : goal.returns-in-Some
returns-in-Some c =
    let address = c.args.address.now in
    let n = c.loop-len.len - 1 in
    let fits : n ≤ length address = omega (arith, c.min-longest.ensures, c.loop-len.auto.len) in
    let held : (s : Route) → Contains c.args.self.now s → s.prefix ≡ take n address → has_holder c.self.inside.by_prefix (take n address) s.client ≡ true = λ s has same.
    let there : has_route c.args.self.now (route (take n address) s.client) ≡ true = ap (λ p. has_route c.args.self.now (route p s.client)) (sym same) ∙ has_it c.args.self.now s has in
    c.self.invariant.tied _ s.client ∙ (rw (← c.self.view_is) at there) in
    let here : has_route c.args.self.now (route (take n address) c.in-Some.client) ≡ true = rw (← c.self.view_is) (sym (c.self.invariant.tied _ _) ∙ c.in-Some.ensures.0) in (
      route (take n address) c.in-Some.client,
      record {
        there = is_there c.args.self.now (route (take n address) c.in-Some.client) here;
        begins = record { rest = drop n address; is = sym (take-append-drop n address) };
        longest = λ s has begins. omega (arith, c.loop-len.invariant s has begins, length-take-le n address fits);
        least = λ s has same. c.in-Some.ensures.1 s.client (held s has same);
      },
      refl,
    )
