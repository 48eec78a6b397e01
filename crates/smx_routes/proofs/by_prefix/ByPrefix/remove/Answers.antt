use Rattle.std.proofs.Common.{◌≡◌, [], Some, false, rules, sym, ap, ◌∙◌}
use Rattle.std.specs.Option.{option_copied_mut}
use Rattle.std.specs.List.{list_any}
use Rattle.std.specs.Ordering.{nat_cmp}
use Rattle.std.specs.BTreeMap.{is_at}
use Rattle.std.proofs.lemmas.List.{nil_from_length}
use Rattle.smx_routes.specs.declared.by_prefix.ByPrefix.{ByPrefix}
use Rattle.smx_routes.specs.Private.Holders.{SetsHolder}
use Rattle.smx_routes.proofs.Holding.{is_held, none-HasSame, set-SetsHolder}
use Rattle.smx_routes.proofs.by_prefix.ByPrefix.remove.Goals as goal

pub returns-then-is_empty : goal.returns-then-is_empty
returns-then-is_empty c =
    let found = sym c.get_mut.ensures.value ∙ ap option_copied_mut c.in-Some.is in
    let updates = (c.get_mut.follows.holds c.remove.new.self).3 (search rules) in
    let mid : ByPrefix = record { alloc = c.args.self.now.alloc; clients = c.get_mut.follows.lender c.remove.new.self } in
    let new : ByPrefix = record { alloc = c.args.self.now.alloc; clients = c.remove-then-is_empty.new.self } in
    let lost : SetsHolder false c.args.self.now c.args.prefix.now c.args.client mid = set-SetsHolder c.args.self.now mid c.args.prefix.now (Some c.remove.new.self) updates false c.args.client (λ q. rw found (c.remove.ensures.updates.0 q)) in
    let none : c.remove.new.self.keys ≡ [] = nil_from_length c.remove.new.self.keys (c.is_empty.ensures.0 c.if-is_empty.true) in
    let same = none-HasSame mid new c.args.prefix.now c.remove-then-is_empty.ensures.updates (λ q. ap (λ o. is_held o q) updates.1 ∙ ap (list_any (is_at (nat_cmp q))) none) in
    λ p q. same p q ∙ lost p q

pub returns-else-is_empty : goal.returns-else-is_empty
returns-else-is_empty c =
    let found = sym c.get_mut.ensures.value ∙ ap option_copied_mut c.in-Some.is in
    let updates = (c.get_mut.follows.holds c.remove.new.self).3 (search rules) in
    let new : ByPrefix = record { alloc = c.args.self.now.alloc; clients = c.get_mut.follows.lender c.remove.new.self } in
    set-SetsHolder c.args.self.now new c.args.prefix.now (Some c.remove.new.self) updates false c.args.client (λ q. rw found (c.remove.ensures.updates.0 q))
