-- A new lane agrees with the empty history.
use Rattle.std.proofs.Common.{◌≡◌, ◌≤◌, ℕ, List, [], ◌∷◌, refl, sym, ◌∙◌, arith, zero, suc, replicate, Option}
use Rattle.std.specs.List.{IsDistinct}
use Rattle.std.proofs.lemmas.List.{ext_get_or, get_or-replicate, length-replicate}
use Rattle.std.proofs.lemmas.List.FromFn.{get_or-map-range_with_len, length-map-range_with_len}
use Rattle.smx_history.specs.declared.entry.Entry.{Entry}
use Rattle.smx_history.specs.declared.limits.Limits.{Limits}
use Rattle.smx_history.specs.Prefixes.{AtEachPrefix, AtEach}
use Rattle.smx_history.specs.Legal.{IsLegal, KeepsRules, IsFifo, AreApart, IsBounded, IsWithin, HasForm, StandsWell, IsPaired}
use Rattle.smx_history.specs.Contents.{AgreesWith}
use Rattle.smx_history.specs.Numbers.{place_in, generation_in, generation_after, generations_after}
use Rattle.smx_history.specs.Room.{AreLimits}
use Rattle.smx_history.proofs.Updates.{empty}

AtEach-empty : {X : Type 0} (Q : List X → X → Type 0) → AtEach Q []
AtEach-empty Q k x at = cc

AtEachPrefix-empty : {X : Type 0} (P : List X → Type 0) → P [] → AtEachPrefix P []
AtEachPrefix-empty P h zero = h
AtEachPrefix-empty P h (suc k) = h

apart-empty : AreApart []
unfolding IsDistinct
apart-empty = tt

-- no entries are legal
pub KeepsRules-empty : (limits : Limits) → KeepsRules limits []
KeepsRules-empty limits = record {
  form = AtEach-empty (λ before e. HasForm e.kind e);
  fifo = AtEachPrefix-empty IsFifo (record { taken = refl; collected = λ c. refl });
  once = record { ordinals = λ c. tt; takes = λ c n. omega arith; settlings = λ c n. omega arith };
  membership = record { clients = tt; retires = λ c. omega arith };
  standing = AtEach-empty (λ before e. StandsWell e.kind before e);
  pairing = AtEach-empty (λ before e. IsPaired e.kind before e);
  apart = AtEachPrefix-empty AreApart apart-empty;
  spaced = λ i j u lt first second. cc;
  bounds = AtEachPrefix-empty (IsBounded limits) (record { queue = omega arith; window = omega arith; client = λ c gone. omega arith });
}

-- a lane that is up owes its down
pub IsLegal-empty : (limits : Limits) → 1 ≤ limits.history → IsLegal limits []
IsLegal-empty limits some = record { rules = KeepsRules-empty limits; size = AtEachPrefix-empty (IsWithin limits) (omega (arith, some)) }

-- so there is room for one entry in each legal history
pub IsLegal-some : (limits : Limits) (marks : List (Option Entry)) → IsLegal limits marks → 1 ≤ limits.history
IsLegal-some limits [] h = omega (arith, h.size 0)
IsLegal-some limits (mark ∷ marks) h = omega (arith, h.size 0)

zeros : (n : ℕ) → replicate n 0 ≡ generations_after n []
zeros n = ext_get_or 0 (replicate n 0) (generations_after n []) (length-replicate {A = ℕ} n 0 ∙ sym (length-map-range_with_len (λ k. generation_after k []) 0 n))
    (λ i lt. get_or-replicate n i 0 0 (omega (arith, lt, length-replicate {A = ℕ} n 0)) ∙ sym (get_or-map-range_with_len (λ k. generation_after k []) 0 n i i 0 (omega (arith, lt, length-replicate {A = ℕ} n 0)) (omega arith)))

pub AgreesWith-new : (limits : Limits) → AreLimits limits → AgreesWith [] (empty limits)
AgreesWith-new limits are = record {
  legal = IsLegal-empty limits (omega (arith, are.history.0));
  numbered = record { within = tt; placed = AtEach-empty (λ before u. generation_in u ≡ generation_after (place_in u) before) };
  after = record { limits = refl; queue = refl; window = λ test. refl; members = refl; greatest = refl; up = refl; generations = zeros limits.window; latest = refl; entries = refl };
}
