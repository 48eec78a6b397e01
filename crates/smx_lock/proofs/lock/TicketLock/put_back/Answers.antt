use Rattle.std.proofs.Common.{rules, arith, sym, ap, subst, ◌∙◌, ◌∷◌, Some}
use Rattle.atomic_table.specs.Table.{rest}
use Rattle.smx_lock.specs.Steps.{left}
use Rattle.smx_lock.specs.Fronts.{MayLeave}
use Rattle.smx_lock.proofs.Uses.{puts_back, free_after}
use Rattle.smx_lock.proofs.lock.TicketLock.put_back.Goals as goal

pub store-requires : goal.store-requires
store-requires g c = let held = c.held.inside in let may = subst (λ h. MayLeave g.S.Kept.writer g.S.Kept.fixed g.S.Kept.agrees h g.M.Noted.notes) (sym c.held.view_is) c.requires.notes in (
  search rules,
  omega arith,
  puts_back _ _ _ _ _ _ _ _ held.seat.me.0 held.ticket record { value = held.value; seats = held.seats } _ (c.exchange.ensures.3 ∙ ap (λ l. (held.seat.me.0, (0, Some record { value = held.value; seats = held.seats }) ∷ rest l)) c.held.invariant.slot)
      c.held.invariant.caller may.own may.agrees may.fixed c.held.invariant.seats_is,
)

pub free-requires : goal.free-requires
free-requires g c = let held = c.held.inside in let may = subst (λ h. MayLeave g.S.Kept.writer g.S.Kept.fixed g.S.Kept.agrees h g.M.Noted.notes) (sym c.held.view_is) c.requires.notes in
    free_after g.S.Kept.writer g.S.Kept.fixed g.S.Kept.agrees _ held.seat.me.0 g.M.Noted.notes
    (c.store.ensures.2 ∙ ap (λ m. (left m.0 g.M.Noted.notes, rest m.1)) (c.exchange.ensures.3 ∙ ap (λ l. (held.seat.me.0, (0, Some record { value = held.value; seats = held.seats }) ∷ rest l)) c.held.invariant.slot)) c.held.invariant.own may.own c.held.invariant.stands _ c.held.invariant.number_is
