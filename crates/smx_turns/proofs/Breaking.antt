-- What is known of a bad length, over one event more.
use Rattle.std.proofs.Common.{◌≡◌, ◌≢◌, List, [], ◌∷◌, ◌++◌, ◌⊎◌, ⊎_elim, Bool, true, false, ◌||◌, true≢false, Some, None, IsSome, sym, ◌∙◌, ap, subst, refl}
use Rattle.smx_frame.specs.declared.fault.FrameFault.{FrameFault}
use Rattle.smx_frame.specs.declared.fault.FrameFault.TheVariants.{NoMemory}
use Rattle.smx_frame.specs.Stream.{fault_at}
use Rattle.smx_link.specs.Wiring.{Wiring}
use Rattle.smx_turns.specs.Wires.{IsBad}
use Rattle.smx_turns.specs.Worth.{Worth, has_broken}
use Rattle.smx_turns.proofs.Worths.{broken_push}

module _ {L : Type 0} where
  -- the same wire, as far as a bad length goes
  pub bad_as : (v w : Wiring L) → w.failed ≡ v.failed → w.rest ≡ v.rest → IsBad v → IsBad w
  bad_as v w failed rest b = (subst IsSome (sym failed) b.0, ap (fault_at 65536) rest ∙ b.1 ∙ sym failed)

  -- none was met
  pub none_bad : {A : Type 0} (v : Wiring L) → v.failed ≡ None → IsBad v → A
  none_bad v none b = absurd (true≢false (sym (subst IsSome none b.0)))

  -- one that is met stands at the front
  pub bad_front : (v w : Wiring L) (e : FrameFault) → ((e ≡ NoMemory) × (w ≡ v)) ⊎ ((fault_at 65536 v.rest ≡ Some e) × (w ≡ record v { failed = Some e })) → e ≢ NoMemory → IsBad w
  bad_front v w e found other = ⊎_elim (λ p. absurd (other p.0)) (λ p. subst (λ (x : Wiring L). IsBad x) (sym p.1) (refl, p.0)) found

  -- it leaves what was heard
  pub bad_heard : (v w : Wiring L) (e : FrameFault) → ((e ≡ NoMemory) × (w ≡ v)) ⊎ ((fault_at 65536 v.rest ≡ Some e) × (w ≡ record v { failed = Some e })) → w.heard ≡ v.heard
  bad_heard v w e found = ⊎_elim (λ p. ap (λ (x : Wiring L). x.heard) p.1) (λ p. ap (λ (x : Wiring L). x.heard) p.1) found

  -- an event leaves it as it was, or answered it
  pub record BadKept (breaks : Bool) (v w : Wiring L) : Type 0 where
    pub stays : IsBad v → IsBad w
    pub met : breaks ≡ true → IsBad w

  pub stays_bad : {b : Bool} {v w : Wiring L} → b ≡ false → w.failed ≡ v.failed → w.rest ≡ v.rest → BadKept b v w
  stays_bad {v = v} {w = w} not failed rest = record { stays = bad_as v w failed rest; met = λ breaks. absurd (true≢false (sym breaks ∙ not)) }

-- either told of one
either : {A : Type 0} (a b : Bool) → (a ≡ true → A) → (b ≡ true → A) → (a || b) ≡ true → A
either true b before now is = before refl
either false b before now is = now is

module _ {E L : Type 0} (worth : E → Worth) (v w : Wiring L) where
  -- an event that tells of one only where it was met
  pub still_bad : (es es' : List E) (e : E) → es' ≡ es ++ e ∷ [] → (has_broken worth es ≡ true → IsBad v) → BadKept (worth e).breaks v w → has_broken worth es' ≡ true → IsBad w
  still_bad es es' e grown was kept broken =
      either (has_broken worth es) (worth e).breaks (λ told. kept.stays (was told)) kept.met (sym (broken_push worth es es' e grown) ∙ broken)

  -- where none was met, none was told
  pub unbroken : (es : List E) → v.failed ≡ None → (has_broken worth es ≡ true → IsBad v) → has_broken worth es ≡ true → IsBad w
  unbroken es none was broken = none_bad v none (was broken)

-- of no event
pub none_broken : {E A : Type 0} (worth : E → Worth) (es : List E) → es ≡ [] → has_broken worth es ≡ true → A
unfolding has_broken
none_broken worth es none broken = absurd (true≢false (sym broken ∙ ap (has_broken worth) none))
