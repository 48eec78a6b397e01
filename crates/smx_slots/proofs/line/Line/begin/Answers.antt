use Rattle.std.proofs.Common.{◌≡◌, ◌==◌, ◌∷◌, ◌∙◌, ℕ, List, false, ap, subst, arith}
use Rattle.std.specs.Prelude.{slice_index_or}
use Rattle.std.specs.List.{IsDistinct}
use Rattle.std.proofs.lemmas.Grind.{common_steps}
use Rattle.smx_slots.specs.Lines.{stands}
use Rattle.smx_slots.proofs.Joining.{first_within, distinct_left, marks_left}
use Rattle.smx_slots.proofs.line.Line.begin.Goals as goal

pub index_mut-requires : goal.index_mut-requires
index_mut-requires c =
    let marks = c.self.inside.marks.items in
    let rest = c.pop_front.new.self.items in
    let here : (q : ℕ) → slice_index_or marks q false ≡ stands q (c.in_ok-party.party ∷ rest) = λ q. c.self.invariant.marks q ∙ ap (λ (l : List ℕ). stands q l) c.in_ok-party.ensures.items in
    let distinct : IsDistinct (λ a b. a == b) (c.in_ok-party.party ∷ rest) = subst (λ (l : List ℕ). IsDistinct (λ a b. a == b) l) c.in_ok-party.ensures.items c.self.invariant.distinct in
    let low = first_within c.in_ok-party.party rest marks here distinct in
    grind (arith, common_steps, low)

pub invariant_of-self-2 : goal.invariant_of-self-2
invariant_of-self-2 c =
    let marks = c.self.inside.marks.items in
    let rest = c.pop_front.new.self.items in
    let here : (q : ℕ) → slice_index_or marks q false ≡ stands q (c.in_ok-party.party ∷ rest) = λ q. c.self.invariant.marks q ∙ ap (λ (l : List ℕ). stands q l) c.in_ok-party.ensures.items in
    let distinct : IsDistinct (λ a b. a == b) (c.in_ok-party.party ∷ rest) = subst (λ (l : List ℕ). IsDistinct (λ a b. a == b) l) c.in_ok-party.ensures.items c.self.invariant.distinct in
    record {
      distinct = distinct_left c.in_ok-party.party rest marks here distinct;
      marks = marks_left c.in_ok-party.party rest marks here distinct;
      room = grind (arith, common_steps);
    }
