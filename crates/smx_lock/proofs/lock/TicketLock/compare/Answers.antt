use Rattle.std.proofs.Common.{rules, arith, ap}
use Rattle.smx_lock.proofs.Moves.{tells, meets, compares}
use Rattle.smx_lock.proofs.lock.TicketLock.compare.Goals as goal

pub split_seat-message-requires : goal.split_seat-message-requires
split_seat-message-requires g c = (search rules, omega arith, tells _ _ _ _ _ _ _)

pub join_seat-requires : goal.join_seat-requires
join_seat-requires g c = let message = c.split_seat-message.ensures.4 in (search rules, search rules, ap (λ m. m.1) message, omega arith, meets _ _ _ _ _ _ _ _ _ _ (ap (λ m. m.0.is_seat) message) (ap (λ m. m.0.caller) message))

pub load-requires : goal.load-requires
load-requires g c = (search rules, omega arith, compares _ _ _ _ _ _ _ _)
