use Rattle.std.proofs.Common.{◌≡◌, true, false, sym, ◌∙◌, arith}
use Rattle.std.proofs.lemmas.Bool.{both_ways}
use Rattle.smx_routes.specs.Routing.{route, has_route}
use Rattle.smx_routes.proofs.Routed.{has_it, is_there}
use Rattle.smx_routes.proofs.routes.Routes.insert.Goals as goal

pub returns-then-has-clause-reply : goal.returns-then-has-clause-reply
returns-then-has-clause-reply c =
    let r = route c.args.prefix.now c.args.client in
    let has : has_route c.args.self.now r ≡ true = rw (← c.self.view_is) (sym (c.self.invariant.tied _ _) ∙ sym c.if-has.ensures) in
    (omega arith, is_there c.args.self.now r has)

pub returns-in-Ok-clause-reply : goal.returns-in-Ok-clause-reply
returns-in-Ok-clause-reply c =
    let r = route c.args.prefix.now c.args.client in
    let lacks : has_route c.args.self.now r ≡ false = rw (← c.self.view_is) (sym (c.self.invariant.tied _ _) ∙ sym c.if-has.ensures) in
    (omega arith, λ has. both_ways _ lacks (has_it c.args.self.now r has))

pub returns-in-Err-clause-reply : goal.returns-in-Err-clause-reply
returns-in-Err-clause-reply c =
    let r = route c.args.prefix.now c.args.client in
    let lacks : has_route c.args.self.now r ≡ false = rw (← c.self.view_is) (sym (c.self.invariant.tied _ _) ∙ sym c.if-has.ensures) in
    (omega arith, λ has. both_ways _ lacks (has_it c.args.self.now r has))
