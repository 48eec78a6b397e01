use Rattle.std.proofs.Common.{true, false, ◌≡◌, ◌+◌, [], ◌∷◌, ◌++◌, length, length-append, is_some, refl, sym, ◌∙◌, ap, arith}
use Rattle.smx_history.specs.Contents.{Member}
use Rattle.smx_lane.specs.declared.client_rows.Row.{Row}
use Rattle.smx_lane.specs.Roster.{member_in}
use Rattle.smx_lane.proofs.ClientRows.{at-place, member-at, no-member, members-written, box_places, KeepsRows-written}
use Rattle.smx_lane.proofs.roster.Roster.put.Goals as goal

pub index_mut-row-requires : goal.index_mut-row-requires
index_mut-row-requires c = at-place c.self.inside c.args.client c.in-Some.at c.self.invariant (sym c.place.ensures ∙ c.in-Some.is)

pub invariant_of-self : goal.invariant_of-self
invariant_of-self c =
    let row = c.index_mut-row.result.now in
    let f : Member → Member = λ n. record n { waiting = n.waiting ++ c.args.response ∷ [] } in
    let new : Row = record row { waiting = c.try_push_back.new.self } in
    let pushed = c.in-Ok.ensures.ok in
    let change : member_in (c.args.client, new) ≡ f (member_in (c.args.client, row)) = rw pushed refl in
    let count : length c.try_push_back.new.self.items ≡ length row.waiting.items + 1 = rw pushed (length-append row.waiting.items (c.args.response ∷ [])) in
    KeepsRows-written c.self.inside _ f c.args.client c.in-Some.at row new c.self.invariant (λ _. refl) (sym c.place.ensures ∙ c.in-Some.is) c.index_mut-row.ensures.value
    change refl (rw pushed refl) refl refl refl (omega (arith, count))

pub returns-in_default-clause-absent : goal.returns-in_default-clause-absent
returns-in_default-clause-absent c = λ _. rw (← c.self.view_is) (no-member c.self.inside c.args.client c.self.invariant (sym c.place.ensures ∙ c.in_default.is))

pub returns-clause-there : goal.returns-clause-there
returns-clause-there c = λ _.
    let row = c.index_mut-row.result.now in
    let f : Member → Member = λ n. record n { waiting = n.waiting ++ c.args.response ∷ [] } in
    let new : Row = record row { waiting = c.try_push_back.new.self } in
    let pushed = c.in-Ok.ensures.ok in
    let change : member_in (c.args.client, new) ≡ f (member_in (c.args.client, row)) = rw pushed refl in
    let found = sym c.place.ensures ∙ c.in-Some.is in
    let value = c.index_mut-row.ensures.value in
    rw (← c.self.view_is, members-written c.self.inside f c.args.client c.in-Some.at row new c.self.invariant found value change)
    (ap is_some (member-at c.self.inside c.args.client c.in-Some.at row c.self.invariant found value), refl)

pub unreachable-requires : goal.unreachable-requires
unreachable-requires c =
    let row = c.index_mut-row.result.now in
    let found = sym c.place.ensures ∙ c.in-Some.is in
    let value = c.index_mut-row.ensures.value in
    let room = rw (← c.self.view_is) at (c.requires.room (member_in (c.args.client, row))) in
    let free = room (member-at c.self.inside c.args.client c.in-Some.at row c.self.invariant found value) in
    let places = box_places c.self.inside c.args.client c.in-Some.at row c.self.invariant found value in
    let bad : false ≡ true = c.in-Err.ensures.variant.1 (omega (arith, places, free)) in
    cc
