use Rattle.std.proofs.Common.{rules, arith, ap, subst}
use Rattle.smx_lock.specs.Invariants.{is_free}
use Rattle.smx_lock.proofs.Moves.{reads_serving, tries}
use Rattle.smx_lock.proofs.Uses.{has_slot}
use Rattle.smx_lock.proofs.lock.TicketLock.try_acquire.Goals as goal

pub load-ticket-requires : goal.load-ticket-requires
load-ticket-requires g c = (search rules, omega arith, reads_serving _ _ _ _ _ _ _ _ (subst (λ b. is_free b c.from.inside.seat.me.0.caller) c.if-from.false c.from.invariant.caller) c.from.invariant.stands)

pub compare_exchange-requires : goal.compare_exchange-requires
compare_exchange-requires g c = (search rules, omega arith, tries _ _ _ _ _ _ _ _ _ (ap (λ m. m.0.caller) c.load-ticket.ensures.2.0) (λ e. omega arith))

pub exchange-requires : goal.exchange-requires
exchange-requires g c = (search rules, has_slot _ _ _ _ _ c.compare_exchange.result (c.compare_exchange.ensures.2.0 c.if-compare_exchange-ticket.false))
