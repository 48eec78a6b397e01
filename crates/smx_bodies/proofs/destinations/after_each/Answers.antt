use Rattle.std.proofs.Common.{◌≡◌, ℕ, zero, suc, ◌+◌, ◌-◌, ◌<◌, List, Ok, ap, ◌∙◌, arith, refl}
use Rattle.smx_bodies.specs.Reading.{Rest, after_destination, after_each, ◌>>=◌}
use Rattle.smx_bodies.proofs.destinations.after_each.Goals as goal

-- one of those that are left is read first
one_more : (n k i : ℕ) (octets rest : List ℕ) → k ≡ n - i → i < n → after_destination octets ≡ Ok rest → after_each k octets ≡ after_each (n - (i + 1)) rest
one_more n zero i octets rest e lt read = absurd (omega (arith, e, lt))
one_more n (suc k) i octets rest e lt read =
    let fewer : k ≡ n - (i + 1) = omega (arith, e, lt) in
    ap (λ (r : Rest). r >>= after_each k) read ∙ ap (λ j. after_each j rest) fewer

pub loop-preserved : goal.loop-preserved
loop-preserved c = c.loop.invariant ∙ one_more c.args.count _ c.loop.counter c.loop.rest.now c.in_ok-rest.rest.now refl (omega (arith, c.loop-test.true)) c.in_ok-rest.ensures
