use Rattle.std.proofs.Common.{rules, arith, subst}
use Rattle.smx_lock.specs.Invariants.{is_free}
use Rattle.smx_lock.proofs.Moves.{reads_next}
use Rattle.smx_lock.proofs.Uses.{draws_at}
use Rattle.smx_lock.proofs.lock.TicketLock.acquire.Goals as goal

pub load-ticket-requires : goal.load-ticket-requires
load-ticket-requires g c = (search rules, omega arith, reads_next _ _ _ _ _ _ _ _ (subst (λ b. is_free b c.from.inside.seat.me.0.caller) c.if-from.false c.from.invariant.caller) c.from.invariant.stands)

pub compare_exchange-found-requires : goal.compare_exchange-found-requires
compare_exchange-found-requires g c = (search rules, omega arith, draws_at g.S.Kept.writer g.S.Kept.fixed g.S.Kept.agrees _ _ _ _ _ c.load-ticket.new.seat.me.0 _ c.loop.invariant.1 c.if-ticket-eq-MOST.false)
