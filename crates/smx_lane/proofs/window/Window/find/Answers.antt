use Rattle.std.proofs.Common.{◌≡◌, ◌∙◌, sym, ap, arith, true, false, Some, None, slice_get}
use Rattle.std.proofs.lemmas.Option.{slice_get_within}
use Rattle.smx_pdu.specs.Command.{is_response_to}
use Rattle.smx_history.specs.declared.place.Place.{Place}
use Rattle.smx_history.specs.Numbers.{place_in}
use Rattle.smx_lane.proofs.WindowRows.{found_at, not_found, place_at_number}
use Rattle.smx_lane.proofs.window.Window.find.Goals as goal

pub returns-in-Some-clause-found : goal.returns-in-Some-clause-found
returns-in-Some-clause-found c =
    let rows = c.self.inside.rows in
    let good : is_response_to c.in-Some.place.command c.args.command ≡ true = sym c.is_response_to.ensures ∙ c.if-is_response_to.true in
    rw (← c.self.view_is) (sym (found_at (λ (q : Place). is_response_to q.command c.args.command) rows 0 c.place_in-at.result c.args.number c.in-Some.place c.self.invariant.numbered c.in-Some.ensures c.if-place-number.true good))

pub returns-in-Some-clause-place : goal.returns-in-Some-clause-place
returns-in-Some-clause-place c =
    rw (← c.self.view_is) (place_at_number c.self.inside.rows c.args.number c.place_in-at.result c.in-Some.place c.if-place-number.true c.in-Some.ensures)

pub returns-in_default-clause-found : goal.returns-in_default-clause-found
returns-in_default-clause-found c =
    let rows = c.self.inside.rows in
    let bad : is_response_to c.in-Some.place.command c.args.command ≡ false = sym c.is_response_to.ensures ∙ c.if-is_response_to.false in
    rw (← c.self.view_is) (sym (not_found (λ (q : Place). is_response_to q.command c.args.command) rows c.args.number (λ k q there is.
    let named = (c.self.invariant.numbered k q there).1 in
    let here : c.place_in-at.result ≡ k = omega (arith, named, c.place_in-at.ensures, ap place_in is) in
    let e : Some (Some c.in-Some.place) ≡ Some (Some q) = sym c.in-Some.ensures ∙ ap (slice_get rows) here ∙ there in
    let place : c.in-Some.place ≡ q = cc in
    ap (λ (p : Place). is_response_to p.command c.args.command) (sym place) ∙ bad)))

pub returns-in_default-2-clause-found : goal.returns-in_default-2-clause-found
returns-in_default-2-clause-found c =
    let rows = c.self.inside.rows in
    rw (← c.self.view_is) (sym (not_found (λ (q : Place). is_response_to q.command c.args.command) rows c.args.number (λ k q there is.
    let named = (c.self.invariant.numbered k q there).1 in
    let here : c.place_in-at.result ≡ k = omega (arith, named, c.place_in-at.ensures, ap place_in is) in
    let e : Some (Some c.in-Some.place) ≡ Some (Some q) = sym c.in-Some.ensures ∙ ap (slice_get rows) here ∙ there in
    let place : c.in-Some.place ≡ q = cc in
    absurd (c.if-place-number.false (ap (λ (p : Place). p.upstream) place ∙ is)))))

pub returns-in_default-3-clause-found : goal.returns-in_default-3-clause-found
returns-in_default-3-clause-found c =
    let rows = c.self.inside.rows in
    rw (← c.self.view_is) (sym (not_found (λ (q : Place). is_response_to q.command c.args.command) rows c.args.number (λ k q there is.
    let named = (c.self.invariant.numbered k q there).1 in
    let here : c.place_in-at.result ≡ k = omega (arith, named, c.place_in-at.ensures, ap place_in is) in
    let clash : Some None ≡ Some (Some q) = sym (c.get.ensures ∙ ap Some c.in_default.is) ∙ ap (slice_get rows) here ∙ there in
    cc)))

pub returns-then-at-len-clause-found : goal.returns-then-at-len-clause-found
returns-then-at-len-clause-found c =
    let rows = c.self.inside.rows in
    rw (← c.self.view_is) (sym (not_found (λ (q : Place). is_response_to q.command c.args.command) rows c.args.number (λ k q there is.
    let named = (c.self.invariant.numbered k q there).1 in
    absurd (omega (arith, named, ap place_in is, c.place_in-at.ensures, c.if-at-len.true, slice_get_within rows k (Some q) there, c.len.ensures)))))
