use Rattle.std.proofs.Common.{◌≡◌, ℕ, ◌+◌, List, length, drop, take, Option, Some, Err, refl, sym, ap, subst, ◌∙◌, arith, inr}
use Rattle.std.proofs.lemmas.List.{length-drop, length-take, drop-drop}
use Rattle.smx_frame.specs.declared.fault.FrameFault.{FrameFault}
use Rattle.smx_frame.specs.declared.front.Front.TheVariants.{Part, Bad, Whole}
use Rattle.smx_pdu.specs.declared.pdu.Pdu.{Pdu}
use Rattle.smx_pdu.specs.Pdu.{Spells, length_field}
use Rattle.smx_frame.specs.Stream.{Framing, Stream}
use Rattle.smx_frame.specs.Private.Front.{front_of}
use Rattle.smx_frame.proofs.Fronts.{fault_front, whole_front, part_has_none, not_failed, taken, at, same_fault, not_memory, whole_field, begins}
use Rattle.smx_frame.proofs.framer.Framer.next_pdu.Goals as goal

abbrev made : ℕ → List ℕ → Option FrameFault → Stream
made m r f = record { max = m; rest = r; failed = f }

pub invariant_of-self : goal.invariant_of-self
invariant_of-self c =
    let kept = c.self.invariant in
    let rest : c.rest.result.now ≡ drop c.self.inside.start (take c.self.inside.end c.self.inside.octets.items) = c.rest.ensures ∙ sym (ap (λ (s : Framing). s.stream.rest) c.self.view_is) in
    let bad = fault_front _ _ (Bad c.in-Bad.fault) (at c.in-Bad.ensures refl rest) in
    record { order = kept.order; within = kept.within; least = kept.least; most = kept.most; failed = λ e h. bad ∙ h }

pub returns-in-Part-clause-none : goal.returns-in-Part-clause-none
returns-in-Part-clause-none c = λ _.
    let e : Part ≡ front_of c.args.self.now.stream.max c.args.self.now.stream.rest = at (sym c.in-Part.is ∙ c.front_of.ensures) (ap (λ (s : Framing). s.stream.max) c.self.view_is) c.rest.ensures in
    (part_has_none _ _ e, fault_front _ _ Part e, refl)

pub returns-in-Part-clause-faults : goal.returns-in-Part-clause-faults
returns-in-Part-clause-faults c = λ f h.
    let e : Part ≡ front_of c.args.self.now.stream.max c.args.self.now.stream.rest = at (sym c.in-Part.is ∙ c.front_of.ensures) (ap (λ (s : Framing). s.stream.max) c.self.view_is) c.rest.ensures in
    let none = fault_front _ _ Part e in
    absurd cc

pub returns-in-Bad-clause-only : goal.returns-in-Bad-clause-only
returns-in-Bad-clause-only c = inr (fault_front _ _ (Bad c.in-Bad.fault) (at c.in-Bad.ensures (ap (λ (s : Framing). s.stream.max) c.self.view_is) c.rest.ensures))

pub returns-in-Bad-clause-faults : goal.returns-in-Bad-clause-faults
returns-in-Bad-clause-faults c = λ f h.
    let same = same_fault _ _ c.in-Bad.fault f (at c.in-Bad.ensures (ap (λ (s : Framing). s.stream.max) c.self.view_is) c.rest.ensures) h in
    (ap (λ (x : FrameFault). Err x) same, ap (λ (t : Framing). record { max = t.stream.max; rest = t.stream.rest; failed = Some c.in-Bad.fault }) c.self.view_is ∙ ap (λ (x : FrameFault). made c.args.self.now.stream.max c.args.self.now.stream.rest (Some x)) same)

pub returns-in-Bad-clause-memory : goal.returns-in-Bad-clause-memory
returns-in-Bad-clause-memory c = λ h. absurd (not_memory _ _ c.in-Bad.fault c.in-Bad.ensures cc)

pub split_at-requires : goal.split_at-requires
split_at-requires c = (whole_front _ _ _ (at (sym c.in-Whole.is ∙ c.front_of.ensures) refl (c.rest.ensures ∙ sym (ap (λ (s : Framing). s.stream.rest) c.self.view_is) ∙ sym c.rest-in-Whole.ensures))).here

pub decode_whole-requires-clause-least : goal.decode_whole-requires-clause-least
decode_whole-requires-clause-least c =
    let whole = whole_front _ _ _ (at (sym c.in-Whole.is ∙ c.front_of.ensures) refl (c.rest.ensures ∙ sym (ap (λ (s : Framing). s.stream.rest) c.self.view_is) ∙ sym c.rest-in-Whole.ensures)) in
    let least = whole.least in
    omega (arith, c.split_at.ensures.front_len)

pub decode_whole-requires-clause-most : goal.decode_whole-requires-clause-most
decode_whole-requires-clause-most c =
    let whole = whole_front _ _ _ (at (sym c.in-Whole.is ∙ c.front_of.ensures) refl (c.rest.ensures ∙ sym (ap (λ (s : Framing). s.stream.rest) c.self.view_is) ∙ sym c.rest-in-Whole.ensures)) in
    let most = whole.most in
    omega (arith, c.split_at.ensures.front_len, c.self.invariant.most)

pub decode_whole-requires-clause-field : goal.decode_whole-requires-clause-field
decode_whole-requires-clause-field c =
    let whole = whole_front _ _ _ (at (sym c.in-Whole.is ∙ c.front_of.ensures) refl (c.rest.ensures ∙ sym (ap (λ (s : Framing). s.stream.rest) c.self.view_is) ∙ sym c.rest-in-Whole.ensures)) in
    subst (λ (bs : List ℕ). length_field bs ≡ length bs) (sym c.split_at.ensures.front) (whole_field _ _ _ whole)

pub invariant_of-self-in-Whole-2 : goal.invariant_of-self-in-Whole-2
invariant_of-self-in-Whole-2 c =
    let kept = c.self.invariant in
    let rest : c.rest.result.now ≡ drop c.self.inside.start (take c.self.inside.end c.self.inside.octets.items) = c.rest.ensures ∙ sym (ap (λ (s : Framing). s.stream.rest) c.self.view_is) in
    let e : Whole c.in-Whole.length ≡ front_of c.self.inside.max (drop c.self.inside.start (take c.self.inside.end c.self.inside.octets.items)) = at (sym c.in-Whole.is ∙ c.front_of.ensures) refl rest in
    let here = (whole_front _ _ _ e).here in
    let within = kept.within in
    let order = kept.order in
    let none = not_failed c.self.inside.failed _ kept.failed (fault_front _ _ (Whole c.in-Whole.length) e) in
    record { order = omega (arith, length-drop c.self.inside.start (take c.self.inside.end c.self.inside.octets.items), length-take c.self.inside.end c.self.inside.octets.items); within = within; least = kept.least; most = kept.most; failed = λ f h. absurd cc }

pub returns-in-Ok-clause-some : goal.returns-in-Ok-clause-some
returns-in-Ok-clause-some c =
    let most = ap (λ (s : Framing). s.stream.max) c.self.view_is in
    let rests = ap (λ (s : Framing). s.stream.rest) c.self.view_is in
    let fails = ap (λ (s : Framing). s.stream.failed) c.self.view_is in
    let e : Whole c.in-Whole.length ≡ front_of c.args.self.now.stream.max c.args.self.now.stream.rest = at (sym c.in-Whole.is ∙ c.front_of.ensures) most c.rest.ensures in
    let inner : Whole c.in-Whole.length ≡ front_of c.self.inside.max (drop c.self.inside.start (take c.self.inside.end c.self.inside.octets.items)) = at e (sym most) (sym rests) in
    let none = not_failed c.self.inside.failed _ c.self.invariant.failed (fault_front _ _ (Whole c.in-Whole.length) inner) in
    let text : c.split_at.result.0.now ≡ take c.in-Whole.length c.args.self.now.stream.rest = c.split_at.ensures.front ∙ ap (take c.in-Whole.length) (c.rest-in-Whole.ensures ∙ ap (λ (s : Framing). s.stream.rest) c.self.view_is) in
    let spells = subst (λ (o : List ℕ). Spells c.in-Ok.pdu o) text c.in-Ok.ensures.ok in
    let after : drop (c.self.inside.start + c.in-Whole.length) (take c.self.inside.end c.self.inside.octets.items) ≡ drop c.in-Whole.length c.args.self.now.stream.rest = sym (drop-drop c.in-Whole.length c.self.inside.start (take c.self.inside.end c.self.inside.octets.items)) ∙ ap (drop c.in-Whole.length) rests in (
      taken c.args.self.now.stream.max c.args.self.now.stream.rest c.in-Whole.length c.in-Ok.pdu _ (whole_front _ _ _ e) spells after,
      ap (λ (m : ℕ). made m (drop (c.self.inside.start + c.in-Whole.length) (take c.self.inside.end c.self.inside.octets.items)) c.self.inside.failed) most ∙ ap (made c.args.self.now.stream.max (drop (c.self.inside.start + c.in-Whole.length) (take c.self.inside.end c.self.inside.octets.items))) none,
    )

pub returns-in-Ok-clause-faults : goal.returns-in-Ok-clause-faults
returns-in-Ok-clause-faults c = λ f h.
    let none = fault_front _ _ (Whole c.in-Whole.length) (at (sym c.in-Whole.is ∙ c.front_of.ensures) (ap (λ (s : Framing). s.stream.max) c.self.view_is) c.rest.ensures) in
    absurd cc

pub returns-in_default-clause-faults : goal.returns-in_default-clause-faults
returns-in_default-clause-faults c = λ f h.
    let none = fault_front _ _ (Whole c.in-Whole.length) (at (sym c.in-Whole.is ∙ c.front_of.ensures) (ap (λ (s : Framing). s.stream.max) c.self.view_is) c.rest.ensures) in
    absurd cc

pub returns-in_default-clause-memory : goal.returns-in_default-clause-memory
returns-in_default-clause-memory c = λ _.
    let e : Whole c.in-Whole.length ≡ front_of c.args.self.now.stream.max c.args.self.now.stream.rest = at (sym c.in-Whole.is ∙ c.front_of.ensures) (ap (λ (s : Framing). s.stream.max) c.self.view_is) c.rest.ensures in
    let text : c.split_at.result.0.now ≡ take c.in-Whole.length c.args.self.now.stream.rest = c.split_at.ensures.front ∙ ap (take c.in-Whole.length) (c.rest-in-Whole.ensures ∙ ap (λ (s : Framing). s.stream.rest) c.self.view_is) in
    (begins _ _ _ (whole_front _ _ _ e) (subst (λ (o : List ℕ). (p : Pdu) × Spells p o) text c.in_default.ensures.err), c.self.view_is)
