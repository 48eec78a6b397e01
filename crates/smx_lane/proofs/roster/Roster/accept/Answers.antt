use Rattle.std.proofs.Common.{arith, ◌+◌, refl, sym, ◌∙◌, ap}
use Rattle.smx_history.specs.Contents.{Member}
use Rattle.smx_lane.specs.declared.client_rows.Row.{Row}
use Rattle.smx_lane.specs.Members.{refusal_by}
use Rattle.smx_lane.specs.Roster.{member_in}
use Rattle.smx_lane.proofs.ClientRows.{at-place, member-at, no-member, members-written, refused_row, refused_by_lane, KeepsRows-written}
use Rattle.smx_lane.proofs.roster.Roster.accept.Goals as goal

pub returns-in_default-clause-reply : goal.returns-in_default-clause-reply
returns-in_default-clause-reply c =
    let missing = no-member c.self.inside c.args.client c.self.invariant (sym c.place.ensures ∙ c.in_default.is) in
    rw (← c.self.view_is) (ap (refusal_by c.self.inside.places c.args.by_lane) missing)

pub index_mut-row-requires : goal.index_mut-row-requires
index_mut-row-requires c = at-place c.self.inside c.args.client c.in-Some.at c.self.invariant (sym c.place.ensures ∙ c.in-Some.is)

pub returns-then-row-self-clause-reply : goal.returns-then-row-self-clause-reply
returns-then-row-self-clause-reply c =
    let row = c.index_mut-row.result.now in
    let member = member-at c.self.inside c.args.client c.in-Some.at row c.self.invariant (sym c.place.ensures ∙ c.in-Some.is) c.index_mut-row.ensures.value in
    rw (← c.self.view_is) (ap (refusal_by c.self.inside.places c.args.by_lane) member ∙ refused_row c.self.inside.places c.args.by_lane (member_in (c.args.client, row)) (omega (arith, c.if-row-self.true)))

pub returns-in-Some-by_lane-clause-reply : goal.returns-in-Some-by_lane-clause-reply
returns-in-Some-by_lane-clause-reply c =
    let row = c.index_mut-row.result.now in
    let member = member-at c.self.inside c.args.client c.in-Some.at row c.self.invariant (sym c.place.ensures ∙ c.in-Some.is) c.index_mut-row.ensures.value in
    rw (← c.self.view_is) (ap (refusal_by c.self.inside.places c.args.by_lane) member
    ∙ refused_by_lane c.self.inside.places c.args.by_lane (member_in (c.args.client, row)) (omega (arith, c.if-row-self.false)) ∙ c.in-Some-by_lane.is)

pub invariant_of-self-2 : goal.invariant_of-self-2
invariant_of-self-2 c =
    let row = c.index_mut-row.result.now in
    let f : Member → Member = λ n. record n { last = c.args.ordinal; pending = n.pending + 1 } in
    let new : Row = record row { last = c.args.ordinal; pending = row.pending + 1 } in
    KeepsRows-written c.self.inside _ f c.args.client c.in-Some.at row new c.self.invariant (λ _. refl) (sym c.place.ensures ∙ c.in-Some.is) c.index_mut-row.ensures.value refl refl refl refl refl refl refl

pub returns-clause-reply : goal.returns-clause-reply
returns-clause-reply c =
    let row = c.index_mut-row.result.now in
    let member = member-at c.self.inside c.args.client c.in-Some.at row c.self.invariant (sym c.place.ensures ∙ c.in-Some.is) c.index_mut-row.ensures.value in
    rw (← c.self.view_is) (ap (refusal_by c.self.inside.places c.args.by_lane) member
    ∙ refused_by_lane c.self.inside.places c.args.by_lane (member_in (c.args.client, row)) (omega (arith, c.if-row-self.false)) ∙ c.in_default-by_lane.is)

pub returns-clause-ok : goal.returns-clause-ok
returns-clause-ok c =
    let row = c.index_mut-row.result.now in
    let f : Member → Member = λ n. record n { last = c.args.ordinal; pending = n.pending + 1 } in
    let new : Row = record row { last = c.args.ordinal; pending = row.pending + 1 } in
    let members = members-written c.self.inside f c.args.client c.in-Some.at row new c.self.invariant (sym c.place.ensures ∙ c.in-Some.is) c.index_mut-row.ensures.value refl in
    rw (← c.self.view_is, members) refl
