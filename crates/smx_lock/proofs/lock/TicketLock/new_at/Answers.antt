use Rattle.std.proofs.Common.{sym, ap, subst, refl, ◌∙◌, ◌++◌, ◌∷◌, [], Some}
use Rattle.smx_lock.proofs.Uses.{makes}
use Rattle.smx_lock.proofs.lock.TicketLock.new_at.Goals as goal

pub new-requires-2 : goal.new-requires-2
new-requires-2 g c = let boxed = c.in-Ok.ensures.ok in makes _ _ _ c.args.first _ record { value = c.in-Ok.value; seats = 1 } c.push.new.self.items
    (c.in_default.ensures.items ∙ ap (λ l. l ++ Some record { value = c.in-Ok.value; seats = 1 } ∷ []) c.new-slots.ensures.items) c.requires.low
    (subst (λ x. g.S.Kept.agrees x []) (sym boxed) c.requires.agrees) (ap g.S.Kept.fixed (boxed ∙ sym c.of-opened.ensures)) refl
