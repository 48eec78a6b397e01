use Rattle.std.proofs.Common.{◌≤◌, true, cond, sym, ap, ◌∙◌, length}
use Rattle.std.proofs.lemmas.List.Elements.{All-cons}
use Rattle.std.proofs.lemmas.List.Sorted.{All-permutation}
use Rattle.smx_routes.specs.Routing.{Route, route, is_route}
use Rattle.smx_routes.proofs.Tying.{has_more}
use Rattle.smx_routes.proofs.routes.Routes.put.Goals as goal

pub invariant_of-self-in_default : goal.invariant_of-self-in_default
invariant_of-self-in_default c =
    let r = route c.args.prefix.now c.args.client in
    let Short = λ (s : Route). length s.prefix ≤ 64 in record {
      tied = λ p q. c.in_ok-insert.ensures.ok p q ∙ ap (cond (is_route (route p q) r) true) (c.self.invariant.tied p q) ∙ sym (has_more r (route p q) c.self.inside.by_client c.insert-2.new.self c.in_default.ensures.ok);
      short = All-permutation Short _ _ c.in_default.ensures.ok (All-cons Short r _ c.requires.short c.self.invariant.short);
    }
