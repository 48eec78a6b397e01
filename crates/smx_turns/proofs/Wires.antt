-- One read more, and whether octets wait.
use Rattle.std.proofs.Common.{◌≡◌, ◌↔◌, ℕ, Bool, true, false, not, List, [], ◌∷◌, ◌++◌, Result, IsTrue, refl, sym, true≢false}
use Rattle.smx_link.specs.declared.link.Polled.{Polled}
use Rattle.smx_link.specs.declared.link.LinkFault.{LinkFault}
use Rattle.smx_turns.specs.Wires.{answers_end, has_ended, some_wait}

-- a read's answer is its link's last
pub ended_by : (rs : List (Result Polled LinkFault)) (r : Result Polled LinkFault) → has_ended (rs ++ r ∷ []) ≡ answers_end r
unfolding has_ended
ended_by [] r = refl
ended_by (x ∷ []) r = refl
ended_by (x ∷ y ∷ ys) r = ended_by (y ∷ ys) r

-- octets wait just where not all was taken
pub clear_so : (c : Bool) (xs : List ℕ) → (IsTrue c ↔ (xs ≡ [])) → not c ≡ some_wait xs
clear_so true [] h = refl
clear_so true (x ∷ xs) h = let e = h.0 refl in absurd (cc)
clear_so false [] h = absurd (true≢false (sym (h.1 refl)))
clear_so false (x ∷ xs) h = refl
