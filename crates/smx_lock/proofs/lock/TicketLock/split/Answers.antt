use Rattle.std.proofs.Common.{rules, arith}
use Rattle.smx_lock.proofs.Moves.{splits}
use Rattle.smx_lock.proofs.Uses.{free_guest}
use Rattle.smx_lock.proofs.lock.TicketLock.split.Goals as goal

pub split_seat-seat-requires : goal.split_seat-seat-requires
split_seat-seat-requires g c = (search rules, omega arith, splits _ _ _ _ _ _ _ c.held.inside.ticket c.held.invariant.caller (let is = c.held.invariant.seats_is in omega arith))

pub free-requires : goal.free-requires
free-requires g c = let v = c.held.inside.seat.me.0 in let i = c.held.invariant in free_guest g.S.Kept.writer g.S.Kept.fixed g.S.Kept.agrees _ v c.split_seat-seat.ensures.4 (i.no_others v.seats (omega (arith, i.seats_is))) _ i.seats_is
