use Rattle.std.proofs.Common.{arith, subst, sym, ap, refl, ◌∙◌, ◌≡◌, ℕ, ◌≤◌, Ok, Err, length}
use lib.ListN.{get_elem?}
use Rattle.smx_ticket_core.specs.Machine.{Machine, after, Turn}
use Rattle.smx_ticket_core.proofs.Changes.{row_changes}
use Rattle.smx_ticket_core.proofs.Lists.{at_index}
use Rattle.smx_ticket_core.proofs.Rows.{nobody, refused, row_after, changed}
use Rattle.smx_ticket_core.proofs.Soundness.{changes_sound}
use Rattle.smx_ticket_core.proofs.machine.Core.step.Goals as goal

pub returns-then-i-len : goal.returns-then-i-len
returns-then-i-len c = (nobody c.args.self.now c.args.event c.caller_of-i.result c.caller_of-i.ensures (subst (λ (m : Machine). length m.callers ≤ c.caller_of-i.result) c.self.view_is (omega arith)), refl)

pub turn-requires-clause-fits : goal.turn-requires-clause-fits
turn-requires-clause-fits c = c.self.invariant.each c.caller_of-i.result c.index.result.now (at_index c.self.inside.callers.items c.caller_of-i.result c.index.result.now (omega arith) c.index.ensures)

pub returns-in-Err : goal.returns-in-Err
returns-in-Err c = let m : Machine = record { next = c.self.inside.next; serving = c.self.inside.serving; callers = c.self.inside.callers.items } in
    let there = at_index c.self.inside.callers.items c.caller_of-i.result c.index.result.now (omega arith) c.index.ensures in
    (subst (λ (z : Machine). after z c.args.event ≡ Err c.in-Err.illegal) c.self.view_is (refused m c.args.event c.index.result.now c.in-Err.illegal (sym (ap (get_elem? m.callers) c.caller_of-i.ensures) ∙ there) c.in-Err.ensures), refl)

pub invariant_of-self : goal.invariant_of-self
invariant_of-self c = let m : Machine = record { next = c.self.inside.next; serving = c.self.inside.serving; callers = c.self.inside.callers.items } in
    let there = at_index c.self.inside.callers.items c.caller_of-i.result c.index.result.now (omega arith) c.index.ensures in let s = c.self.invariant in let t : Turn = (c.in-Ok.next, (c.in-Ok.serving, c.in-Ok.caller)) in
    changes_sound m c.caller_of-i.result c.index.result.now t s there (row_changes m.next m.serving c.args.event c.index.result.now t c.in-Ok.ensures s.behind s.bounded (s.each c.caller_of-i.result c.index.result.now there))

pub returns-in-Ok : goal.returns-in-Ok
returns-in-Ok c = let m : Machine = record { next = c.self.inside.next; serving = c.self.inside.serving; callers = c.self.inside.callers.items } in
    let there = at_index c.self.inside.callers.items c.caller_of-i.result c.index.result.now (omega arith) c.index.ensures in let t : Turn = (c.in-Ok.next, (c.in-Ok.serving, c.in-Ok.caller)) in
    subst (λ (z : Machine). after z c.args.event ≡ Ok (changed m c.caller_of-i.result t)) c.self.view_is
    (row_after m c.args.event c.index.result.now t (sym (ap (get_elem? m.callers) c.caller_of-i.ensures) ∙ there) c.in-Ok.ensures ∙ ap (λ (k : ℕ). Ok (changed m k t)) (sym c.caller_of-i.ensures))
