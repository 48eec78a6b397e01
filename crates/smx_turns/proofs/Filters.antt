-- What the steps of a turn come to, list by list.
use Rattle.std.proofs.Common.{◌≡◌, ℕ, ◌+◌, List, [], ◌∷◌, ◌++◌, sym, ◌∙◌, ap, refl, subst, append_assoc, arith}
use Rattle.std.proofs.lemmas.List.{append-nil}
use Rattle.std.proofs.lemmas.List.Concat.{flat_map-append}
use Rattle.std.specs.List.{flat_map}
use Rattle.smx_turns.specs.declared.mark.Mark.{Mark}
use Rattle.smx_turns.specs.declared.mark.Mark.TheVariants.{Offered, WriteFailed, Waited, Full, NoRoom, Part, Entered}
use Rattle.smx_turns.specs.declared.step.Step.{Step}
use Rattle.smx_turns.specs.declared.step.Step.TheVariants.{Asked, Read, Marked, Did}
use Rattle.smx_turns.specs.Runs.{Runs, RunsOn}
use Rattle.smx_turns.specs.Scenes.{Scene, Marks, Acts, Changed, fault_of, faults}
use Rattle.smx_turns.specs.Steps.{asks, ask_of, polls, poll_of, events, event_of}
use Rattle.smx_turns.specs.Worth.{Worth, tells}
use Rattle.smx_turns.proofs.Chains.{runs_append, runs_one, runs_none, ran_more}

module _ {S E : Type 0} where
  -- a mark leaves all this
  record Kept (a b : Scene S E) : Type 0 where
    asked : b.asked ≡ a.asked
    told : b.told ≡ a.told
    events : b.events ≡ a.events
    stand : b.stand ≡ a.stand
    polls : b.polls ≡ a.polls

  kept : (a b c : Scene S E) → b ≡ c → Kept a c → Kept a b
  kept a b c same k = subst (Kept a) (sym same) k

  mark_keeps : (a : Scene S E) (m : Mark) (b : Scene S E) → Marks a m b → Kept a b
  mark_keeps a (Offered waited wrote left) b h = kept a b _ h.same (record { asked = refl; told = refl; events = refl; stand = refl; polls = refl })
  mark_keeps a WriteFailed b h = kept a b _ h (record { asked = refl; told = refl; events = refl; stand = refl; polls = refl })
  mark_keeps a Waited b h = kept a b _ h (record { asked = refl; told = refl; events = refl; stand = refl; polls = refl })
  mark_keeps a Full b h = kept a b _ h.1 (record { asked = refl; told = refl; events = refl; stand = refl; polls = refl })
  mark_keeps a NoRoom b h = kept a b _ h (record { asked = refl; told = refl; events = refl; stand = refl; polls = refl })
  mark_keeps a Part b h = kept a b _ h (record { asked = refl; told = refl; events = refl; stand = refl; polls = refl })
  mark_keeps a (Entered account whole) b h = kept a b _ h (record { asked = refl; told = refl; events = refl; stand = refl; polls = refl })

  mark_fails : (a : Scene S E) (m : Mark) (b : Scene S E) → Marks a m b → b.failures ≡ a.failures + fault_of {E = E} (Marked m)
  mark_fails a (Offered waited wrote left) b h = let k = ap (λ o. o.failures) h.same in omega (arith, k)
  mark_fails a WriteFailed b h = ap (λ o. o.failures) h
  mark_fails a Waited b h = let k = ap (λ o. o.failures) h in omega (arith, k)
  mark_fails a Full b h = let k = ap (λ o. o.failures) h.1 in omega (arith, k)
  mark_fails a NoRoom b h = let k = ap (λ o. o.failures) h in omega (arith, k)
  mark_fails a Part b h = let k = ap (λ o. o.failures) h in omega (arith, k)
  mark_fails a (Entered account whole) b h = let k = ap (λ o. o.failures) h in omega (arith, k)

  abbrev pub More : Scene S E → Scene S E → Type 0
  More a b = (more : List ℕ) × (b.offered ≡ a.offered ++ more)

  no_more : (a b : Scene S E) → b.offered ≡ a.offered → More a b
  no_more a b same = ([], same ∙ sym (append-nil a.offered))

  mark_offers : (a : Scene S E) (m : Mark) (b : Scene S E) → Marks a m b → More a b
  mark_offers a (Offered waited wrote left) b h = (a.unsent, ap (λ o. o.offered) h.same)
  mark_offers a WriteFailed b h = (a.unsent, ap (λ o. o.offered) h)
  mark_offers a Waited b h = no_more a b (ap (λ o. o.offered) h)
  mark_offers a Full b h = no_more a b (ap (λ o. o.offered) h.1)
  mark_offers a NoRoom b h = no_more a b (ap (λ o. o.offered) h)
  mark_offers a Part b h = no_more a b (ap (λ o. o.offered) h)
  mark_offers a (Entered account whole) b h = no_more a b (ap (λ o. o.offered) h)

module _ {S E : Type 0} (does : S → E → S → Type 0) (worth : E → Worth) (n : ℕ) where
  step_asked : (a : Scene S E) (s : Step E) (b : Scene S E) → Acts does worth n a s b → b.asked ≡ a.asked ++ ask_of n s
  step_asked a (Asked p x) b h = ap (λ o. o.asked) h
  step_asked a (Read r) b h = ap (λ o. o.asked) h ∙ sym (append-nil a.asked)
  step_asked a (Marked m) b h = (mark_keeps a m b h).asked ∙ sym (append-nil a.asked)
  step_asked a (Did e) b h = ap (λ o. o.asked) h.same ∙ sym (append-nil a.asked)

  step_told : (a : Scene S E) (s : Step E) (b : Scene S E) → Acts does worth n a s b → b.told ≡ a.told ++ flat_map (λ x. (worth x).tells) (event_of s)
  step_told a (Asked p x) b h = ap (λ o. o.told) h ∙ sym (append-nil a.told)
  step_told a (Read r) b h = ap (λ o. o.told) h ∙ sym (append-nil a.told)
  step_told a (Marked m) b h = (mark_keeps a m b h).told ∙ sym (append-nil a.told)
  step_told a (Did e) b h = ap (λ o. o.told) h.same ∙ ap (λ l. a.told ++ l) (sym (append-nil (worth e).tells))

  step_events : (a : Scene S E) (s : Step E) (b : Scene S E) → Acts does worth n a s b → b.events ≡ a.events ++ event_of s
  step_events a (Asked p x) b h = ap (λ o. o.events) h ∙ sym (append-nil a.events)
  step_events a (Read r) b h = ap (λ o. o.events) h ∙ sym (append-nil a.events)
  step_events a (Marked m) b h = (mark_keeps a m b h).events ∙ sym (append-nil a.events)
  step_events a (Did e) b h = ap (λ o. o.events) h.same

  step_runs : (a : Scene S E) (s : Step E) (b : Scene S E) → Acts does worth n a s b → Runs does a.stand (event_of s) b.stand
  step_runs a (Asked p x) b h = subst (λ o. Runs does a.stand [] o) (sym (ap (λ o. o.stand) h)) (runs_none does a.stand)
  step_runs a (Read r) b h = subst (λ o. Runs does a.stand [] o) (sym (ap (λ o. o.stand) h)) (runs_none does a.stand)
  step_runs a (Marked m) b h = subst (λ o. Runs does a.stand [] o) (sym (mark_keeps a m b h).stand) (runs_none does a.stand)
  step_runs a (Did e) b h = runs_one does a.stand b.stand e h.does

  step_polls : (a : Scene S E) (s : Step E) (b : Scene S E) → Acts does worth n a s b → b.polls ≡ a.polls ++ poll_of s
  step_polls a (Asked p x) b h = ap (λ o. o.polls) h ∙ sym (append-nil a.polls)
  step_polls a (Read r) b h = ap (λ o. o.polls) h
  step_polls a (Marked m) b h = (mark_keeps a m b h).polls ∙ sym (append-nil a.polls)
  step_polls a (Did e) b h = ap (λ o. o.polls) h.same ∙ sym (append-nil a.polls)

  step_fails : (a : Scene S E) (s : Step E) (b : Scene S E) → Acts does worth n a s b → b.failures ≡ a.failures + fault_of s
  step_fails a (Asked p x) b h = let k = ap (λ o. o.failures) h in omega (arith, k)
  step_fails a (Read r) b h = ap (λ o. o.failures) h
  step_fails a (Marked m) b h = mark_fails a m b h
  step_fails a (Did e) b h = let k = ap (λ o. o.failures) h.same in omega (arith, k)

  step_offers : (a : Scene S E) (s : Step E) (b : Scene S E) → Acts does worth n a s b → More a b
  step_offers a (Asked p x) b h = no_more a b (ap (λ o. o.offered) h)
  step_offers a (Read r) b h = no_more a b (ap (λ o. o.offered) h)
  step_offers a (Marked m) b h = mark_offers a m b h
  step_offers a (Did e) b h = no_more a b (ap (λ o. o.offered) h.same)

module _ {S E : Type 0} (does : S → E → S → Type 0) (worth : E → Worth) (May : Scene S E → Step E → Scene S E → Type 0) (n : ℕ) where
  pub all_asks : (a b : Scene S E) (ss : List (Step E)) → Changed does worth May n a ss b → b.asked ≡ a.asked ++ asks n ss
  unfolding asks Runs
  all_asks a b [] r = ap (λ o. o.asked) r ∙ sym (append-nil a.asked)
  all_asks a b (s ∷ ss) r = all_asks r.0 b ss r.2 ∙ ap (λ l. l ++ asks n ss) (step_asked does worth n a s r.0 r.1.1) ∙ append_assoc a.asked (ask_of n s) (asks n ss)

  pub all_events : (a b : Scene S E) (ss : List (Step E)) → Changed does worth May n a ss b → b.events ≡ a.events ++ events ss
  unfolding events Runs
  all_events a b [] r = ap (λ o. o.events) r ∙ sym (append-nil a.events)
  all_events a b (s ∷ ss) r = all_events r.0 b ss r.2 ∙ ap (λ l. l ++ events ss) (step_events does worth n a s r.0 r.1.1) ∙ append_assoc a.events (event_of s) (events ss)

  pub all_tells : (a b : Scene S E) (ss : List (Step E)) → Changed does worth May n a ss b → b.told ≡ a.told ++ tells worth (events ss)
  unfolding tells events Runs
  all_tells a b [] r = ap (λ o. o.told) r ∙ sym (append-nil a.told)
  all_tells a b (s ∷ ss) r =
      all_tells r.0 b ss r.2 ∙ ap (λ l. l ++ flat_map (λ x. (worth x).tells) (flat_map event_of ss)) (step_told does worth n a s r.0 r.1.1)
      ∙ append_assoc a.told (flat_map (λ x. (worth x).tells) (event_of s)) (flat_map (λ x. (worth x).tells) (flat_map event_of ss))
      ∙ ap (λ l. a.told ++ l) (sym (flat_map-append (λ x. (worth x).tells) (event_of s) (flat_map event_of ss)))

  pub all_runs : (a b : Scene S E) (ss : List (Step E)) → Changed does worth May n a ss b → Runs does a.stand (events ss) b.stand
  unfolding events Runs
  all_runs a b [] r = ap (λ o. o.stand) r
  all_runs a b (s ∷ ss) r = runs_append does a.stand r.0.stand b.stand (event_of s) (flat_map event_of ss) (step_runs does worth n a s r.0 r.1.1) (all_runs r.0 b ss r.2)

  pub all_polls : (a b : Scene S E) (ss : List (Step E)) → Changed does worth May n a ss b → b.polls ≡ a.polls ++ polls ss
  unfolding polls Runs
  all_polls a b [] r = ap (λ o. o.polls) r ∙ sym (append-nil a.polls)
  all_polls a b (s ∷ ss) r = all_polls r.0 b ss r.2 ∙ ap (λ l. l ++ polls ss) (step_polls does worth n a s r.0 r.1.1) ∙ append_assoc a.polls (poll_of s) (polls ss)

  pub all_faults : (a b : Scene S E) (ss : List (Step E)) → Changed does worth May n a ss b → b.failures ≡ a.failures + faults ss
  unfolding faults Runs
  all_faults a b [] r = let k = ap (λ o. o.failures) r in omega (arith, k)
  all_faults a b (s ∷ ss) r = let k = all_faults r.0 b ss r.2 in let h = step_fails does worth n a s r.0 r.1.1 in omega (arith, k, h)

  -- nothing but what was offered before and more
  pub all_offers : (a b : Scene S E) (ss : List (Step E)) → Changed does worth May n a ss b → More a b
  unfolding Runs
  all_offers a b [] r = no_more a b (ap (λ o. o.offered) r)
  all_offers a b (s ∷ ss) r =
      let first = step_offers does worth n a s r.0 r.1.1 in
      let rest = all_offers r.0 b ss r.2 in
      (first.0 ++ rest.0, rest.1 ∙ ap (λ l. l ++ rest.0) first.1 ∙ append_assoc a.offered first.0 rest.0)

  -- after a turn more events were done
  pub ran_turn : (s : S) (es : List E) (a b : Scene S E) (ss : List (Step E)) → RunsOn does s es a.stand a.events → Changed does worth May n a ss b → RunsOn does s es b.stand b.events
  ran_turn s es a b ss f r = ran_more does s a.stand b.stand es a.events b.events (events ss) f (all_events a b ss r) (all_runs a b ss r)
