use Rattle.std.proofs.Common.{rules, arith, sym, ap, subst, ◌∙◌}
use Rattle.smx_ticket_core.specs.declared.callers.Caller.TheVariants.{Waiting}
use Rattle.smx_lock.specs.Steps.{Takes}
use Rattle.smx_lock.proofs.Moves.{looks}
use Rattle.smx_lock.proofs.Uses.{has_slot, out, holds_on, finds, never_empty, waiting_same}
use Rattle.smx_lock.proofs.lock.TicketLock.wait_for.Goals as goal

pub load-requires : goal.load-requires
load-requires g c = (search rules, omega arith, looks _ _ _ _ _ _ _ _ c.args.ticket (ap (λ m. m.0.caller) c.loop.invariant.1 ∙ c.requires.waiting.0))

pub exchange-requires : goal.exchange-requires
exchange-requires g c = let took = c.load.ensures.2.0 (ap (λ m. m.0.caller) c.loop.invariant.1 ∙ c.requires.waiting.0 ∙ ap (λ k. Waiting k) (sym c.if-load-ticket.true)) in
    (search rules, has_slot g.S.Kept.writer g.S.Kept.fixed g.S.Kept.agrees c.loop.seat.me c.load.new.seat.me c.load.result took)

pub invariant_of-result : goal.invariant_of-result
invariant_of-result g c = let took = c.load.ensures.2.0 (ap (λ m. m.0.caller) c.loop.invariant.1 ∙ c.requires.waiting.0 ∙ ap (λ k. Waiting k) (sym c.if-load-ticket.true)) in
    let took' = subst (λ k. Takes g.S.Kept.writer g.S.Kept.fixed g.S.Kept.agrees c.loop.seat.me k c.load.new.seat.me) c.if-load-ticket.true took in
    let o = out g.S.Kept.writer g.S.Kept.fixed g.S.Kept.agrees c.loop.seat.me c.load.new.seat.me c.args.ticket c.in-Some-exchange.field-0 (ap (λ m. m.1) c.loop.invariant.1 ∙ c.requires.waiting.1) took' c.in-Some-exchange.ensures.2 in
    holds_on g.S.Kept.writer g.S.Kept.fixed g.S.Kept.agrees _ _ _ _ _ o c.exchange.ensures.3 c.args.number (c.requires.number ∙ ap (λ m. m.0.number) (sym c.loop.invariant.1) ∙ sym o.found.number)

pub returns-in-Some-exchange : goal.returns-in-Some-exchange
returns-in-Some-exchange g c = let took = c.load.ensures.2.0 (ap (λ m. m.0.caller) c.loop.invariant.1 ∙ c.requires.waiting.0 ∙ ap (λ k. Waiting k) (sym c.if-load-ticket.true)) in
    let took' = subst (λ k. Takes g.S.Kept.writer g.S.Kept.fixed g.S.Kept.agrees c.loop.seat.me k c.load.new.seat.me) c.if-load-ticket.true took in
    let o = out g.S.Kept.writer g.S.Kept.fixed g.S.Kept.agrees c.loop.seat.me c.load.new.seat.me c.args.ticket c.in-Some-exchange.field-0 (ap (λ m. m.1) c.loop.invariant.1 ∙ c.requires.waiting.1) took' c.in-Some-exchange.ensures.2 in
    finds g.S.Kept.writer g.S.Kept.fixed g.S.Kept.agrees c.args.from.table_id c.exchange.new.seat.table_id c.args.from.me.0 _ _ _ _ _ (c.exchange.ensures.0 ∙ c.load.ensures.0 ∙ c.loop.invariant.0) c.args.from.me.0.caller (ap (λ m. m.0) c.loop.invariant.1) o c.exchange.ensures.3

pub unreachable-requires : goal.unreachable-requires
unreachable-requires g c = let took = c.load.ensures.2.0 (ap (λ m. m.0.caller) c.loop.invariant.1 ∙ c.requires.waiting.0 ∙ ap (λ k. Waiting k) (sym c.if-load-ticket.true)) in
    never_empty g.S.Kept.writer g.S.Kept.fixed g.S.Kept.agrees c.loop.seat.me c.load.new.seat.me c.load.result took c.in-None-exchange.ensures.2

pub loop-preserved : goal.loop-preserved
loop-preserved g c = (c.load.ensures.0 ∙ c.loop.invariant.0, c.load.ensures.2.1 (λ e. c.if-load-ticket.false (waiting_same _ _ (sym e ∙ ap (λ m. m.0.caller) c.loop.invariant.1 ∙ c.requires.waiting.0))) ∙ c.loop.invariant.1)
