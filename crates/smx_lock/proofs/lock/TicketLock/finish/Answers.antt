use Rattle.std.proofs.Common.{◌≡◌, sym, ap, subst, ◌∙◌}
use mathlib.Core.Option.{some}
use Rattle.smx_lock.specs.Fronts.{IsLast}
use Rattle.smx_lock.proofs.Moves.{ends, Ended}
use Rattle.smx_lock.proofs.Uses.{last_one}
use Rattle.smx_lock.proofs.lock.TicketLock.finish.Goals as goal

pub unreachable-requires : goal.unreachable-requires
unreachable-requires g c = let e = ends _ _ _ _ _ _ _ _ _ c.word-next.result c.close_with-closed.ensures.values.2 c.word-next.ensures (c.word-serving.ensures ∙ ap some (sym c.if-next-serving.false)) c.last.invariant.stands in absurd (cc (e.1, c.in-None.ensures.value))

pub returns : goal.returns
returns g c = let e = ends _ _ _ _ _ _ _ _ _ c.word-next.result c.close_with-closed.ensures.values.2 c.word-next.ensures (c.word-serving.ensures ∙ ap some (sym c.if-next-serving.false)) c.last.invariant.stands in
    let same : e.0 ≡ c.in-Some.field-0 = cc (e.1, c.in-Some.ensures.value) in let l = c.last.inside in
    subst (IsLast g.S.Kept.writer g.S.Kept.fixed g.S.Kept.agrees c.args.last) (sym c.into_inner.ensures)
    (last_one g.S.Kept.writer g.S.Kept.fixed g.S.Kept.agrees c.args.last l.seat.table_id l.seat.me.0 c.in-Some.field-0.value.value c.self.inside.table.shared.key.first (g.S.Kept.fixed c.self.inside.table.shared.key.opened.value) (sym c.last.view_is)
    (subst (λ x. Ended g.S.Kept.writer g.S.Kept.fixed g.S.Kept.agrees c.self.inside.table.shared.key.first (g.S.Kept.fixed c.self.inside.table.shared.key.opened.value) l.seat.me.0 x.value.value) same e.2)
    (ap (λ z. z.fixed) c.requires ∙ ap (λ z. z.fixed) (sym c.self.view_is)))
