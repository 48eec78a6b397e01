-- Whom the gate was told of, one request after another.
use Rattle.std.proofs.Common.{◌≡◌, ◌+◌, ◌++◌, ◌∷◌, [], List, ℕ, length, suc, refl, sym, ap, ◌∙◌, append_assoc, arith}
use Rattle.std.specs.List.{flat_map}
use Rattle.std.proofs.lemmas.List.{append-nil, length-append}
use Rattle.smx_history.specs.declared.reply.Failed.{Failed}
use Rattle.smx_history.specs.declared.reply.Failed.TheVariants as failed
use Rattle.smx_turns.proofs.Chains.{pushed}
use Rattle.smx_turns.specs.declared.gate.Party.{Party}
use Rattle.smx_upstream.specs.declared.abandoning.Abandoned.{Abandoned}
use Rattle.smx_upstream.specs.declared.abandoning.Round.{Round}
use Rattle.smx_upstream.specs.declared.event.Event.TheVariants.{GaveUp}
use Rattle.smx_upstream.specs.declared.event.GivenUp.{GivenUp}
use Rattle.smx_upstream.specs.declared.losing.Lost.{Lost}
use Rattle.smx_upstream.specs.Events.{failed_tells, lost_tells, rounds_tells, worth}

-- nothing was given up yet
pub told_none : {A B : Type 0} (f : A → List B) (told : List B) (xs : List A) → xs ≡ [] → told ≡ told ++ flat_map f xs
told_none f told xs none = sym (append-nil told) ∙ ap (λ l. told ++ flat_map f l) (sym none)

-- one thing more
pub told_push : {A B : Type 0} (f : A → List B) (start told told' : List B) (xs xs' : List A) (x : A) → xs' ≡ xs ++ x ∷ [] → told' ≡ told ++ f x → told ≡ start ++ flat_map f xs
    → told' ≡ start ++ flat_map f xs'
told_push f start told told' xs xs' x grown more was =
    more ∙ ap (λ l. l ++ f x) was ∙ append_assoc start (flat_map f xs) (f x) ∙ ap (λ l. start ++ l) (sym (pushed f xs x)) ∙ ap (λ l. start ++ flat_map f l) (sym grown)

-- of each request that was given up just one client is told
pub told_each : (lane : ℕ) (given : List Failed) → length (flat_map (failed_tells lane) given) ≡ length given
told_each lane [] = refl
told_each lane (failed.Queued c ∷ given) = ap suc (told_each lane given)
told_each lane (failed.Late c ∷ given) = ap suc (told_each lane given)

pub count_push : (lane n : ℕ) (rs rs' : List Round) (r : Round) → rs' ≡ rs ++ r ∷ [] → n ≡ length (rounds_tells lane rs) → r.lost.failed ≡ length r.lost.given
    → n + r.lost.failed ≡ length (rounds_tells lane rs')
count_push lane n rs rs' r grown was count =
    omega (
      arith,
      was,
      count,
      told_each lane r.lost.given,
      length-append (rounds_tells lane rs) (lost_tells lane r.lost),
      ap length (pushed (λ x. lost_tells lane x.lost) rs r),
      ap (λ l. length (rounds_tells lane l)) grown,
    )

-- all that a lane held was given up, first what was taken and then what was queued
pub gave_told : (given : GivenUp) (lost : Lost) (done : Abandoned) (m n : ℕ) (start mid last : List Party) → given.lane ≡ m → n ≡ m → given.lost.value ≡ lost → given.abandoned.value ≡ done
    → mid ≡ start ++ lost_tells m lost → last ≡ mid ++ rounds_tells n done.rounds → last ≡ start ++ (worth (GaveUp given)).tells
gave_told given lost done m n start mid last l k x y first more =
    rw (l, x, y) (more ∙ ap (λ t. t ++ rounds_tells n done.rounds) first ∙ append_assoc start (lost_tells m lost) (rounds_tells n done.rounds)
    ∙ ap (λ j. start ++ (lost_tells m lost ++ rounds_tells j done.rounds)) k)

pub gave_count : (given : GivenUp) (lost : Lost) (done : Abandoned) (m n : ℕ) → given.lane ≡ m → n ≡ m → given.lost.value ≡ lost → given.abandoned.value ≡ done
    → lost.failed ≡ length lost.given → done.failed ≡ length (rounds_tells n done.rounds) → lost.failed + done.failed ≡ length (worth (GaveUp given)).tells
gave_count given lost done m n l k x y count total =
    rw (l, x, y) (omega (
      arith,
      count,
      total,
      told_each m lost.given,
      length-append (lost_tells m lost) (rounds_tells m done.rounds),
      ap (λ j. length (rounds_tells j done.rounds)) k,
    ))
