use Rattle.std.proofs.Common.{◌≡◌, ◌≤◌, []}
use Rattle.smx_ticket_core.specs.Machine.{most}
use Rattle.smx_ticket_core.specs.declared.callers.Caller.TheVariants.{Read}
use Rattle.smx_lock.specs.Steps.{turned}
use Rattle.smx_lock.proofs.lock.TicketLock.acquire.Given as goal

abbrev pub invariant-loop : goal.invariant-loop
invariant-loop g l = (l.seat.table_id ≡ l.initial.seat.table_id) × (l.seat.me ≡ (turned l.initial.seat.me.0 (Read l.ticket), [])) × (l.ticket ≤ most)
