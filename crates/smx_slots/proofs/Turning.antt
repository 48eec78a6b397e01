-- While a party waits in a line, those ahead of it begin.
use Rattle.std.proofs.Common.{◌≡◌, ◌==◌, ◌&&◌, ◌||◌, ℕ, Bool, true, false, not, List, [], ◌∷◌, ◌++◌, refl, ap, sym, ◌∙◌, append_assoc}
use Rattle.std.specs.Prelude.{if◌then◌else◌, nat_lt}
use Rattle.std.proofs.lemmas.Bool.{eq-eqb}
use Rattle.smx_turns.specs.Runs.{Runs}
use Rattle.smx_slots.specs.Lines.{Standing, Call, stands, Makes, turns_of, Waits}
use Rattle.smx_slots.specs.Lines.Call.{Added, Begun}

-- who joins stands behind all that are there
kept : (b : Bool) (p : ℕ) (before : Standing) (ahead behind : List ℕ) (party : ℕ) → before.parties ≡ ahead ++ party ∷ behind → (more : List ℕ) × ((if b then record before { parties = before.parties ++ p ∷ [] } else before).parties ≡ ahead ++ party ∷ more)
kept true p before ahead behind party here = (behind ++ p ∷ [], ap (λ (l : List ℕ). l ++ p ∷ []) here ∙ append_assoc ahead (party ∷ behind) (p ∷ []))
kept false p before ahead behind party here = (behind, here)

or_right : (a b : Bool) → (a || b) ≡ false → b ≡ false
or_right true b neither = cc
or_right false b neither = neither

pub waits : (before after : Standing) (calls : List Call) (ahead behind : List ℕ) (party : ℕ) → before.parties ≡ ahead ++ party ∷ behind → Runs Makes before calls after → stands party (turns_of calls) ≡ false → Waits ahead party calls after
unfolding Runs turns_of
waits before after [] ahead behind party here runs free = record {
  rest = ahead;
  behind = behind;
  front = refl;
  place = ap (λ (s : Standing). s.parties) runs ∙ here;
}
waits before after (Added p ∷ calls) ahead behind party here runs free =
    let more = kept (nat_lt p before.count && not (stands p before.parties)) p before ahead behind party here in
    let there : runs.0.parties ≡ ahead ++ party ∷ more.0 = ap (λ (s : Standing). s.parties) runs.1 ∙ more.1 in
    let later = waits runs.0 after calls ahead more.0 party there runs.2 free in
    record { rest = later.rest; behind = later.behind; front = later.front; place = later.place }
waits before after (Begun p ∷ calls) [] behind party here runs free =
    let first : p ∷ runs.0.parties ≡ party ∷ behind = sym (ap (λ (s : Standing). s.parties) runs.1) ∙ here in
    let same : party ≡ p = cc in
    let is : (party == p) ≡ true = eq-eqb party p same in
    let both : true ≡ false = rw is at free in
    cc
waits before after (Begun p ∷ calls) (a ∷ ahead) behind party here runs free =
    let first : p ∷ runs.0.parties ≡ a ∷ (ahead ++ party ∷ behind) = sym (ap (λ (s : Standing). s.parties) runs.1) ∙ here in
    let same : a ≡ p = cc in
    let rest : runs.0.parties ≡ ahead ++ party ∷ behind = cc in
    let later = waits runs.0 after calls ahead behind party rest runs.2 (or_right (party == p) _ free) in
    record { rest = later.rest; behind = later.behind; front = ap (λ (x : ℕ). x ∷ ahead) same ∙ ap (λ (l : List ℕ). p ∷ l) later.front; place = later.place }
