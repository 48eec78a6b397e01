-- A pair of octets leaves the differences at 0 exactly where both are one octet.
use Rattle.std.proofs.Common.{◌≡◌, ℕ, ◌+◌, ◌<◌, ◌/◌, ◌%◌, ◌^◌, List, length, take, get_or, bit_or, bit_xor, sym, ap, ◌∙◌, nat_eq, arith, rules}
use Rattle.std.specs.Iterator.Adapters.{zip_first, zip_second}
use Rattle.std.specs.Slice.Iter.{iter_rest}
use Rattle.std.specs.Prelude.{◌↔◌}
use Rattle.std.specs.Str.{bytes_eq}
use Rattle.std.proofs.lemmas.Grind.{common_steps}
use Rattle.std.proofs.lemmas.List.{length_push, take_more_same}
use Rattle.std.proofs.lemmas.Nat.{le_or_l, le_or_r}
use Rattle.std.proofs.lemmas.Nat.Bits.{same_from_bits, bit_at_xor, bit_at-zero, bit_at-lt}
use Rattle.std.proofs.lemmas.Slice.Eq.{bytes_eq-Decides}
use Rattle.std.proofs.lemmas.Slice.Zip.{zip_turn, zip_end}
use Rattle.smx_session.proofs.account.same_octets.Goals as goal

same_from_xor : (a b : ℕ) → bit_xor a b ≡ 0 → a ≡ b
same_from_xor a b none =
    same_from_bits a b (λ i. omega (arith, sym (bit_at_xor a b i) ∙ ap (λ n. n / 2 ^ i % 2) none ∙ bit_at-zero i, bit_at-lt a i, bit_at-lt b i))

none_differ : (d a b : ℕ) → bit_or d (bit_xor a b) ≡ 0 → (d ≡ 0) × (a ≡ b)
none_differ d a b none =
    (omega (arith, le_or_l d (bit_xor a b), none), same_from_xor a b (omega (arith, le_or_r d (bit_xor a b), none)))

none_so_far : (xs ys : List ℕ) (i d : ℕ) → i < length xs → i < length ys → (d ≡ 0 → take i xs ≡ take i ys) → bit_or d (bit_xor (get_or xs i 0) (get_or ys i 0)) ≡ 0 → take (i + 1) xs ≡ take (i + 1) ys
none_so_far xs ys i d in_xs in_ys before none =
    let both = none_differ d (get_or xs i 0) (get_or ys i 0) none in
    take_more_same xs ys i 0 in_xs in_ys (before both.0) both.1

fronts_to_zero : (xs ys : List ℕ) (i d : ℕ) → i < length xs → i < length ys → (take i xs ≡ take i ys → d ≡ 0) → take (i + 1) xs ≡ take (i + 1) ys → bit_or d (bit_xor (get_or xs i 0) (get_or ys i 0)) ≡ 0
fronts_to_zero xs ys i d in_xs in_ys before fronts =
    let front : take i xs ≡ take i ys = grind (arith, common_steps, ap (take i) fronts) in
    let octet : get_or xs i 0 ≡ get_or ys i 0 = grind (arith, common_steps, ap (λ (l : List ℕ). get_or l i 0) fronts) in
    grind (arith, common_steps, before front, octet)

pair_more : (xs ys : List ℕ) (i d : ℕ) → i < length xs → i < length ys → (d ≡ 0) ↔ (take i xs ≡ take i ys) → (a b j : ℕ) → a ≡ get_or xs i 0 → b ≡ get_or ys i 0 → j ≡ i + 1 → (bit_or d (bit_xor a b) ≡ 0) ↔ (take j xs ≡ take j ys)
pair_more xs ys i d in_xs in_ys before a b j own said next =
    rw (own, said, next) (none_so_far xs ys i d in_xs in_ys before.0, fronts_to_zero xs ys i d in_xs in_ys before.1)

all_met : (xs ys : List ℕ) (d n : ℕ) → n ≡ length xs → n ≡ length ys → (d ≡ 0) ↔ (take n xs ≡ take n ys) → nat_eq d 0 ≡ bytes_eq xs ys
all_met xs ys d n all_xs all_ys met = grind (arith, common_steps, bytes_eq-Decides xs ys, met, all_xs, all_ys)

pub loop-own-preserved : goal.loop-own-preserved
loop-own-preserved c =
    let first : iter_rest (zip_first c.into_iter-own-iterator.result) ≡ c.args.one.now = search (rules, c.zip-own-items.ensures.first, c.iter.ensures.rest, c.into_iter-own-iterator.ensures.into_iter_gives) in
    let second : iter_rest (zip_second c.into_iter-own-iterator.result) ≡ c.args.other.now = search (rules, c.zip-own-items.ensures.second, c.into_iter-own-iterator.ensures.into_iter_gives) in
    let turn = zip_turn c.args.one.now c.args.other.now c.loop-own.yielded c.into_iter-own-iterator.result c.loop-own.own-iterator c.next.new.self _ first second c.loop-own.yielded_by _ c.in-Some.is c.next.ensures.steps in
    pair_more c.args.one.now c.args.other.now (length c.loop-own.yielded) c.loop-own.differences turn.0 turn.1 c.loop-own.invariant c.in-Some.own.now c.in-Some.said.now _ (turn.2 0) (turn.3 0) (length_push c.loop-own.yielded _)

pub returns : goal.returns
returns c =
    let first : iter_rest (zip_first c.into_iter-own-iterator.result) ≡ c.args.one.now = search (rules, c.zip-own-items.ensures.first, c.iter.ensures.rest, c.into_iter-own-iterator.ensures.into_iter_gives) in
    let second : iter_rest (zip_second c.into_iter-own-iterator.result) ≡ c.args.other.now = search (rules, c.zip-own-items.ensures.second, c.into_iter-own-iterator.ensures.into_iter_gives) in
    let turns = zip_end c.args.one.now c.args.other.now c.loop-own.yielded c.into_iter-own-iterator.result c.loop-own.own-iterator c.next.new.self _ first second c.loop-own.yielded_by c.in-None.is c.next.ensures.steps in
    all_met c.args.one.now c.args.other.now c.loop-own.differences (length c.loop-own.yielded) (omega (arith, turns, c.if-one-other.false)) (omega (arith, turns, c.if-one-other.false)) c.loop-own.invariant
