-- Accounts that move, one after another.
use Rattle.std.proofs.Common.{◌≡◌, ◌<◌, ◌≤◌, ◌+◌, ℕ, true, false, List, [], ◌∷◌, length, get_or, drop, Option, Some, None, refl, ap, sym, ◌∙◌, arith, add-one, drop-cons, zero, suc}
use Rattle.std.specs.Prelude.{if◌then◌else◌, min, nat_eq, IfSome}
use Rattle.std.specs.Option.{option_eq}
use Rattle.smx_slots.specs.declared.limits.AccountLimits.{AccountLimits}
use Rattle.smx_slots.specs.Ledger.{Accounts, moves_to, key_moved, with_account, with_accounts}

one_moved : (moves : List (Option ℕ)) (keys : List ℕ) (n index : ℕ) → n < length moves → n < length keys
    → key_moved (drop n moves) (drop n keys) index ≡ (if moves_to index (get_or moves n None) then Some (get_or keys n 0) else key_moved (drop (suc n) moves) (drop (suc n) keys) index)
one_moved [] keys n index low within = absurd (omega (arith, low))
one_moved (m ∷ moves) [] n index low within = absurd (omega (arith, within))
one_moved (m ∷ moves) (k ∷ keys) zero index low within = refl
one_moved (m ∷ moves) (k ∷ keys) (suc n) index low within = one_moved moves keys n index (omega (arith, low)) (omega (arith, within))

-- what `==` answers
pub is_there : (move : Option ℕ) (index : ℕ) → option_eq nat_eq move (Some index) ≡ moves_to index move
is_there None index = refl
is_there (Some new) index = refl

pub here_moved : (moves : List (Option ℕ)) (keys : List ℕ) (n index : ℕ) → n < length moves → n < length keys → moves_to index (get_or moves n None) ≡ true → key_moved (drop n moves) (drop n keys) index ≡ Some (get_or keys n 0)
here_moved moves keys n index low within is = one_moved moves keys n index low within ∙ rw is refl

pub later_moved : (moves : List (Option ℕ)) (keys : List ℕ) (n index : ℕ) → n < length moves → n < length keys → moves_to index (get_or moves n None) ≡ false → key_moved (drop (n + 1) moves) (drop (n + 1) keys) index ≡ key_moved (drop n moves) (drop n keys) index
later_moved moves keys n index low within is = rw (add-one n) (sym (one_moved moves keys n index low within ∙ rw is refl))

no_keys : (moves : List (Option ℕ)) (index : ℕ) → key_moved moves [] index ≡ None
no_keys [] index = refl
no_keys (m ∷ moves) index = refl

-- past the shorter list nothing moved
pub none_moved : (moves : List (Option ℕ)) (keys : List ℕ) (n index : ℕ) → min (length moves) (length keys) ≤ n → key_moved (drop n moves) (drop n keys) index ≡ None
none_moved [] keys zero index past = refl
none_moved [] keys (suc n) index past = refl
none_moved (m ∷ moves) [] zero index past = refl
none_moved (m ∷ moves) [] (suc n) index past = no_keys (drop n moves) index
none_moved (m ∷ moves) (k ∷ keys) zero index past = absurd (omega (arith, past))
none_moved (m ∷ moves) (k ∷ keys) (suc n) index past = none_moved moves keys n index (omega (arith, past))

-- one account more
pub account_entered : (key_of : ℕ → Option ℕ) (limits : List AccountLimits) (index : ℕ) (key : Option ℕ) (d : AccountLimits) (a b : Accounts) → index < length limits → key ≡ key_of index → b ≡ with_account key (get_or limits index d) a
    → with_accounts key_of (index + 1) (drop (index + 1) limits) b ≡ with_accounts key_of index (drop index limits) a
account_entered key_of limits index key d a b low known entered =
    let parts : drop index limits ≡ get_or limits index d ∷ drop (index + 1) limits = rw (add-one index) (drop-cons limits index d low) in
    ap (with_accounts key_of (index + 1) (drop (index + 1) limits)) (entered ∙ ap (λ (o : Option ℕ). with_account o (get_or limits index d) a) known) ∙ sym (ap (λ (ls : List AccountLimits). with_accounts key_of index ls a) parts)

pub some_within : (o : Option ℕ) (n m : ℕ) → n ≤ m → IfSome o (λ k. k < n) → IfSome o (λ k. k < m)
some_within None n m le low = low
some_within (Some k) n m le low = omega (arith, le, low)
