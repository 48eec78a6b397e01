use Rattle.std.proofs.Common.{rules, ◌+◌, ◌++◌, drop, take, ap, ◌∙◌}
use Rattle.std.proofs.lemmas.List.{take_rest}
use Rattle.smx_link.proofs.Octets.{sends}
use Rattle.smx_link.proofs.wire.Wire.offer.Goals as goal

pub invariant_of-self : goal.invariant_of-self
invariant_of-self g c =
    let i = c.self.inside in
    let n = c.in-Ok.count in
    let offer = take_rest c.deref.result.now i.sent ∙ ap (drop i.sent) c.deref.ensures.value in (
      search rules,
      record {
        hears = search rules;
        says = ap (λ l. l ++ drop (i.sent + n) i.waiting.items) (c.in-Ok.ensures.taken ∙ ap (λ l. g.L.Link.taken i.link ++ take n l) offer)
            ∙ sends (g.L.Link.taken i.link) i.waiting.items i.sent n ∙ c.self.invariant.1.says;
      },
    )
