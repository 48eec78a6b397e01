use Rattle.std.proofs.Common.{ℕ, [], sym, ap, ◌∙◌, map}
use Rattle.std.specs.Option.{option_map_or}
use Rattle.std.specs.Global.{Vec}
use Rattle.std.specs.Map.{lookup}
use Rattle.smx_routes.specs.Routing.{route}
use Rattle.smx_routes.specs.Private.Owned.{owned_at}
use Rattle.smx_routes.proofs.Owning.{at_client, owned, parted}
use Rattle.smx_routes.proofs.by_client.ByClient.take.Goals as goal
use Rattle.smx_routes.proofs.by_client.ByClient.take.Goals.{in-Some, in-None}

pub returns-clause-taken : goal.returns-clause-taken
returns-clause-taken c =
    let parts = parted c.args.client c.self.inside.prefixes.entries (ap (lookup (at_client c.args.client)) (sym c.remove.ensures.entries) ∙ c.remove.ensures.updates.1) in
    rw (← c.self.view_is) (elim c.match-remove.branch [
      | in-Some w ↦
          let value = sym c.remove.ensures.value ∙ w.in-Some.is in
          ap (λ (ps : Vec (Vec ℕ)). owned_at (c.args.client, ps)) w.result-is ∙ sym (ap (λ o. option_map_or (λ v. owned_at (c.args.client, v)) o []) value) ∙ parts.0
      | in-None w ↦
          let value = sym c.remove.ensures.value ∙ w.in-None.is in
          ap (λ (ps : Vec (Vec ℕ)). owned_at (c.args.client, ps)) w.result-is ∙ ap (map (λ p. route p.items c.args.client)) w.new.ensures.items ∙ sym (ap (λ o. option_map_or (λ v. owned_at (c.args.client, v)) o []) value) ∙ parts.0
    ])

pub returns-clause-left : goal.returns-clause-left
returns-clause-left c =
    let parts = parted c.args.client c.self.inside.prefixes.entries (ap (lookup (at_client c.args.client)) (sym c.remove.ensures.entries) ∙ c.remove.ensures.updates.1) in
    rw (← c.self.view_is) (ap owned c.remove.ensures.entries ∙ parts.1)
