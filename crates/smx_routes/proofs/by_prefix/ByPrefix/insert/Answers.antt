use Rattle.std.proofs.Common.{◌≡◌, ℕ, Some, true, false, cond, rules, sym, ap, subst, ◌∙◌}
use Rattle.std.specs.Option.{option_copied_mut}
use Rattle.std.specs.List.{list_any}
use Rattle.std.specs.Ordering.{nat_cmp, is_eq}
use Rattle.std.specs.BTreeMap.{is_at}
use Rattle.smx_routes.specs.declared.by_prefix.ByPrefix.{ByPrefix}
use Rattle.smx_routes.specs.Private.Holders.{SetsHolder}
use Rattle.smx_routes.proofs.Holding.{on_err, same-HasSame, set-SetsHolder}
use Rattle.smx_routes.proofs.by_prefix.ByPrefix.insert.Goals as goal

pub returns-in_err-insert-clause-err : goal.returns-in_err-insert-clause-err
returns-in_err-insert-clause-err c =
    let found = sym c.get_mut.ensures.value ∙ ap option_copied_mut c.in-Some.is in
    let written = (c.get_mut.follows.holds c.insert.new.self).3 (search rules) in
    let new : ByPrefix = record { alloc = c.args.self.now.alloc; clients = c.get_mut.follows.lender c.insert.new.self } in
    on_err c.from_residual.result (same-HasSame c.args.self.now new c.args.prefix.now (Some c.insert.new.self) written (λ q. rw found (ap (list_any (is_at (nat_cmp q))) c.in_err-insert.ensures.err)))

pub returns-in-Some-clause-ok : goal.returns-in-Some-clause-ok
returns-in-Some-clause-ok c =
    let found = sym c.get_mut.ensures.value ∙ ap option_copied_mut c.in-Some.is in
    let written = (c.get_mut.follows.holds c.insert.new.self).3 (search rules) in
    let new : ByPrefix = record { alloc = c.args.self.now.alloc; clients = c.get_mut.follows.lender c.insert.new.self } in
    set-SetsHolder c.args.self.now new c.args.prefix.now (Some c.insert.new.self) written true c.args.client (λ q. rw found (c.in_ok-insert.ensures.updates.0 q))

pub returns-clause-ok : goal.returns-clause-ok
returns-clause-ok c =
    let copied : c.in_ok-prefix.prefix.items ≡ c.args.prefix.now = c.in_ok-prefix.ensures.items_if_clones_equal (λ x y h. h) in
    let missing = sym c.get_mut.ensures.value ∙ ap option_copied_mut c.in_default.is in
    let new : ByPrefix = record { alloc = c.args.self.now.alloc; clients = c.insert-3.new.self } in
    let none : (q : ℕ) → list_any (is_at (nat_cmp q)) c.new-clients.result.keys ≡ false = λ q. ap (list_any (is_at (nat_cmp q))) c.new-clients.ensures.empty in
    subst (λ p. SetsHolder true c.args.self.now p c.args.client new) copied
    (set-SetsHolder c.args.self.now new c.in_ok-prefix.prefix.items (Some c.insert-2.new.self) (rw c.get_mut.follows.holds-at-none at c.in_ok-insert-3.ensures.updates) true c.args.client (λ q. rw (copied, missing) (c.in_ok-insert-2.ensures.updates.0 q ∙ ap (cond (is_eq (nat_cmp c.args.client q)) true) (none q))))
