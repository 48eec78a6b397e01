use Rattle.std.proofs.Common.{◌≡◌, ◌+◌, ◌-◌, length, drop, refl, sym, ◌∙◌, ap, arith}
use Rattle.smx_history.specs.Contents.{Member}
use Rattle.smx_history.specs.Answering.{oldest_in}
use Rattle.smx_lane.specs.declared.client_rows.Row.{Row}
use Rattle.smx_lane.specs.Roster.{member_in}
use Rattle.smx_lane.proofs.ClientRows.{at-place, member-at, no-member, members-written, box_counts, front_is, KeepsRows-written}
use Rattle.smx_lane.proofs.roster.Roster.get.Goals as goal

pub returns-in_err-at-clause-oldest : goal.returns-in_err-at-clause-oldest
returns-in_err-at-clause-oldest c =
    let missing = no-member c.self.inside c.args.client c.self.invariant (sym c.place.ensures ∙ c.in_err-at.was) in
    rw (← c.self.view_is) (c.from_residual.ensures ∙ sym (ap oldest_in missing))

pub index_mut-row-requires : goal.index_mut-row-requires
index_mut-row-requires c = at-place c.self.inside c.args.client c.in_ok-at.at c.self.invariant (sym c.place.ensures ∙ c.in_ok-at.was)

pub returns-in_err-response-clause-oldest : goal.returns-in_err-response-clause-oldest
returns-in_err-response-clause-oldest c =
    let row = c.index_mut-row.result.now in
    let found = sym c.place.ensures ∙ c.in_ok-at.was in
    let value = c.index_mut-row.ensures.value in
    let member = member-at c.self.inside c.args.client c.in_ok-at.at row c.self.invariant found value in
    rw (← c.self.view_is) (c.from_residual-in_err-response.ensures ∙ sym (ap oldest_in member ∙ sym c.pop_front.ensures.value ∙ c.in_err-response.was))

pub overflow_sub-row : goal.overflow_sub-row
overflow_sub-row c =
    let row = c.index_mut-row.result.now in
    let found = sym c.place.ensures ∙ c.in_ok-at.was in
    let value = c.index_mut-row.ensures.value in
    let front = front_is row.waiting.items c.in_ok-response.response (sym c.pop_front.ensures.value ∙ c.in_ok-response.was) in
    let few = rw (← c.self.view_is) at (c.requires (member_in (c.args.client, row))) in
    omega (arith, ap length front, few (member-at c.self.inside c.args.client c.in_ok-at.at row c.self.invariant found value))

pub overflow_sub-self : goal.overflow_sub-self
overflow_sub-self c =
    let row = c.index_mut-row.result.now in
    let found = sym c.place.ensures ∙ c.in_ok-at.was in
    let value = c.index_mut-row.ensures.value in
    let front = front_is row.waiting.items c.in_ok-response.response (sym c.pop_front.ensures.value ∙ c.in_ok-response.was) in
    omega (arith, box_counts c.self.inside c.args.client c.in_ok-at.at row c.self.invariant found value, ap length front)

pub invariant_of-self-2 : goal.invariant_of-self-2
invariant_of-self-2 c =
    let row = c.index_mut-row.result.now in
    let found = sym c.place.ensures ∙ c.in_ok-at.was in
    let value = c.index_mut-row.ensures.value in
    let front = front_is row.waiting.items c.in_ok-response.response (sym c.pop_front.ensures.value ∙ c.in_ok-response.was) in
    let f : Member → Member = λ n. record n { pending = n.pending - 1; waiting = drop 1 n.waiting } in
    let new : Row = record row { pending = row.pending - 1; waiting = c.pop_front.new.self } in
    let popped = c.pop_front.ensures.items in
    let change : member_in (c.args.client, new) ≡ f (member_in (c.args.client, row)) = rw popped refl in
    let count : length row.waiting.items ≡ length c.pop_front.new.self.items + 1 = rw popped (omega (arith, ap length front)) in
    let some = box_counts c.self.inside c.args.client c.in_ok-at.at row c.self.invariant found value in
    KeepsRows-written c.self.inside _ f c.args.client c.in_ok-at.at row new c.self.invariant (λ _. refl) found value change refl (rw popped refl) refl refl refl (omega (arith, count, some))

pub returns-clause-oldest : goal.returns-clause-oldest
returns-clause-oldest c =
    let row = c.index_mut-row.result.now in
    let found = sym c.place.ensures ∙ c.in_ok-at.was in
    let value = c.index_mut-row.ensures.value in
    let member = member-at c.self.inside c.args.client c.in_ok-at.at row c.self.invariant found value in
    rw (← c.self.view_is) (sym (ap oldest_in member ∙ sym c.pop_front.ensures.value ∙ c.in_ok-response.was))

pub returns-clause-some : goal.returns-clause-some
returns-clause-some c =
    let row = c.index_mut-row.result.now in
    let found = sym c.place.ensures ∙ c.in_ok-at.was in
    let value = c.index_mut-row.ensures.value in
    let f : Member → Member = λ n. record n { pending = n.pending - 1; waiting = drop 1 n.waiting } in
    let new : Row = record row { pending = row.pending - 1; waiting = c.pop_front.new.self } in
    let popped = c.pop_front.ensures.items in
    let change : member_in (c.args.client, new) ≡ f (member_in (c.args.client, row)) = rw popped refl in
    rw (← c.self.view_is, members-written c.self.inside f c.args.client c.in_ok-at.at row new c.self.invariant found value change) refl
