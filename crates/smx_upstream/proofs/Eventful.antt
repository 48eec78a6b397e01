-- One event more, and what a worker keeps.
use Rattle.std.proofs.Common.{arith, max, ◌≡◌, ℕ, List, [], ◌∷◌, ◌++◌, Bool, true, false, true≢false, Option, IfSome, Some, None, Result, if◌then◌else◌, slice_get, sym, ◌∙◌, ap, refl, subst, append_assoc}
use Rattle.std.proofs.Math.Bool.{or-false}
use Rattle.std.proofs.lemmas.List.{append-nil}
use Rattle.std.specs.List.{flat_map, list_any}
use Rattle.smx_pdu.specs.declared.pdu.Pdu.{Pdu}
use Rattle.smx_lock.specs.Fronts.{LockId}
use Rattle.smx_history.specs.declared.limits.Limits.{Limits}
use Rattle.smx_box.specs.Boxes.{Receiving, Sending}
use Rattle.smx_session.specs.Moments.{Upstream, at}
use Rattle.smx_shared.specs.Views.{TapView}
use Rattle.smx_routes.specs.Window.{Window}
use Rattle.smx_turns.specs.declared.gate.Question.{Question}
use Rattle.smx_turns.specs.declared.gate.Party.{Party}
use Rattle.smx_turns.specs.declared.directory.Query.{Query}
use Rattle.smx_turns.specs.declared.mo_item.MoItem.{MoItem}
use Rattle.smx_turns.specs.declared.step.Step.{Step}
use Rattle.smx_turns.specs.declared.step.Step.TheVariants.{Did}
use Rattle.smx_turns.specs.Runs.{Runs}
use Rattle.smx_turns.specs.Scenes.{scene, Acts}
use Rattle.smx_turns.proofs.Chains.{chain_push, chain_first}
use Rattle.smx_turns.proofs.Scenes.{step_more, nothing_yet, happens}
use Rattle.smx_turns.specs.Steps.{phase_from}
use Rattle.smx_upstream.specs.Last.{last_after, last_request}
use Rattle.smx_turns.proofs.Logged.{phase_push}
use Rattle.smx_link.specs.declared.link.Polled.{Polled}
use Rattle.smx_link.specs.declared.link.LinkFault.{LinkFault}
use Rattle.smx_link.specs.Wiring.{spellings}
use Rattle.smx_upstream.specs.declared.age.Age.{Age}
use Rattle.smx_upstream.specs.declared.event.Event.{Event}
use Rattle.smx_upstream.specs.declared.event.Fate.{Fate}
use Rattle.smx_turns.specs.Worth.{those, ins, outs, has_broken}
use Rattle.smx_turns.proofs.Worths.{ending_push, heard_push, ins_push, outs_push}
use Rattle.smx_turns.proofs.Breaking.{BadKept, still_bad, unbroken}
use Rattle.smx_turns.specs.declared.end.End.{End}
use Rattle.smx_turns.specs.Endings.{or_end, ending_of}
use Rattle.smx_upstream.specs.Events.{worth, unless_kept, kept_by, fate_worth}
use Rattle.smx_upstream.specs.Standing.{Stand, Does, HoldNone, stand}
use Rattle.smx_upstream.specs.May.{Scene, May, MayDo}
use Rattle.smx_upstream.specs.Working.{Working, IsWorker, IsSameLane, Changes, Leads}

-- the last moment once more
pub same_moment : (u : Upstream) → at u u.latest ≡ u
same_moment u = let same : max u.latest u.latest ≡ u.latest = omega arith in ap (λ n. record u { latest = n }) same

-- an event that ends nothing
pub goes_on : (o : Option End) → o ≡ or_end o None
goes_on None = refl
goes_on (Some end) = refl

-- one that ends the work, where none had
pub ends_so : (o end : Option End) → o ≡ None → end ≡ or_end o end
ends_so o end none = sym (ap (λ x. or_end x end) none)

-- a worker that did one thing more, and has heard what it decided and what waits
heard_and_did : {L : Type 0} (w w' : Working L) (e : Event) → IsWorker w → w'.events ≡ w.events ++ e ∷ [] → w'.wire.heard ≡ ins worth w'.events ++ those w'.held
    → w'.wire.said ≡ w.wire.said ++ (worth e).said → w'.first ≡ w.first → Does w.stand e w'.stand → (w'.ending ≡ None → w'.wire.failed ≡ None) → w'.ending ≡ or_end w.ending (worth e).ends → BadKept (worth e).breaks w.wire w'.wire → w'.last ≡ last_after w.last e → IsSameLane w.stand.tap w'.stand.tap → IsWorker w'
unfolding last_request
heard_and_did w w' e was grown heard said first does on ends bad last tap = record {
  heard = heard;
  said = said ∙ ap (λ l. l ++ (worth e).said) was.said ∙ sym (outs_push worth w.events w'.events e grown);
  runs = chain_push Does w'.first w.stand w'.stand w.events w'.events e grown does (subst_first w.first w'.first (sym first) was.runs);
  tap = (tap.0 ∙ was.tap.0 ∙ ap (λ (s : Stand). s.tap.lane) (sym first), tap.1 ∙ was.tap.1 ∙ ap (λ (s : Stand). s.tap.front.lock) (sym first));
  none_owed = subst (λ (s : Stand). HoldNone s.owed) (sym first) was.none_owed;
  over = ending_push worth w.events w'.events e w.ending w'.ending grown was.over ends;
  goes_on = on;
  broke = still_bad worth w.wire w'.wire w.events w'.events e grown was.broke bad;
  last = last ∙ sym (phase_push last_after None w.events w'.events e w.last (last_after w.last e) grown refl (sym was.last));
}
  where
    subst_first : (a b : Stand) → a ≡ b → ∥ Runs Does a w.events w.stand ∥₁ → ∥ Runs Does b w.events w.stand ∥₁
    subst_first a b same r = subst (λ (x : Stand). ∥ Runs Does x w.events w.stand ∥₁) same r

-- a worker that did one thing more
pub did : {L : Type 0} (w w' : Working L) (e : Event) → IsWorker w → w'.events ≡ w.events ++ e ∷ [] → w'.wire.heard ≡ w.wire.heard → (worth e).decided ++ those w'.held ≡ those w.held
    → w'.wire.said ≡ w.wire.said ++ (worth e).said → w'.first ≡ w.first → Does w.stand e w'.stand → (w'.ending ≡ None → w'.wire.failed ≡ None) → w'.ending ≡ or_end w.ending (worth e).ends → BadKept (worth e).breaks w.wire w'.wire → w'.last ≡ last_after w.last e → IsSameLane w.stand.tap w'.stand.tap → IsWorker w'
did w w' e was grown heard settled = heard_and_did w w' e was grown (heard_push worth w.wire.heard w'.wire.heard w.events w'.events e w.held w'.held grown was.heard heard settled)

-- so did one that heard more PDUs, and decided all behind the one that waited
pub did_hearing : {L : Type 0} (w w' : Working L) (e : Event) (ps : List Pdu) → IsWorker w → w'.events ≡ w.events ++ e ∷ [] → w'.wire.heard ≡ w.wire.heard ++ ps → (worth e).decided ≡ those w.held ++ ps → w'.held ≡ None
    → w'.wire.said ≡ w.wire.said ++ (worth e).said → w'.first ≡ w.first → Does w.stand e w'.stand → (w'.ending ≡ None → w'.wire.failed ≡ None) → w'.ending ≡ or_end w.ending (worth e).ends → BadKept (worth e).breaks w.wire w'.wire → w'.last ≡ last_after w.last e → IsSameLane w.stand.tap w'.stand.tap → IsWorker w'
did_hearing w w' e ps was grown heard decided none = heard_and_did w w' e was grown
    (heard ∙ ap (λ l. l ++ ps) was.heard ∙ append_assoc (ins worth w.events) (those w.held) ps ∙ ap (λ l. ins worth w.events ++ l) (sym decided)
    ∙ sym (ins_push worth w.events w'.events e grown) ∙ sym (append-nil (ins worth w'.events)) ∙ ap (λ o. ins worth w'.events ++ those o) (sym none))

-- the lock of its tap, as it is now and as it was handed over
abbrev IsAt : List (LockId Limits) → TapView → Type 0
IsAt at t = slice_get at t.lane ≡ Some t.front.lock

pub lock_now : {L : Type 0} (at : List (LockId Limits)) (w v : Working L) → w ≡ v → IsWorker w → IsAt at v.first.tap → IsAt at w.stand.tap
lock_now at w v same was known = let first = ap (λ x. x.first.tap) same in ap (slice_get at) (was.tap.0 ∙ ap (λ t. t.lane) first) ∙ known ∙ ap Some (sym (was.tap.1 ∙ ap (λ t. t.front.lock) first))

pub lock_then : {L : Type 0} (at : List (LockId Limits)) (w v : Working L) → w ≡ v → IsWorker w → IsAt at v.stand.tap → IsAt at v.first.tap
lock_then at w v same was known = subst (λ x. IsAt at x.first.tap) same
    (ap (slice_get at) (sym was.tap.0) ∙ subst (λ x. IsAt at x.stand.tap) (sym same) known ∙ ap Some was.tap.1)

pub some_of : {A : Type 0} (P : A → Type 0) (o : Option A) (x : A) → o ≡ Some x → IfSome o P → P x
some_of P o x is h = subst (λ y. IfSome y P) is h

-- a worker that decides PDUs still, and did no more than read or hear
pub on_hearing : {L : Type 0} (w w' : Working L) → IsWorker w → w.ending ≡ None → w' ≡ record w { wire = w'.wire; held = w'.held } → w'.wire.heard ≡ ins worth w.events ++ those w'.held
    → w'.wire.said ≡ w.wire.said → w'.wire.failed ≡ None → IsWorker w'
on_hearing w w' was on same heard said fine = subst IsWorker (sym same) (record {
  heard = heard;
  said = said ∙ was.said;
  runs = was.runs;
  tap = was.tap;
  none_owed = was.none_owed;
  over = was.over;
  last = was.last;
  goes_on = λ _. fine;
  broke = unbroken worth w.wire w'.wire w.events (was.goes_on on) was.broke;
})

-- a new worker
pub began : {L : Type 0} (w : Working L) (e : Event) (p : Pdu) → w.events ≡ e ∷ [] → w.wire.heard ≡ [] → w.held ≡ None → (worth e).decided ≡ [] → (worth e).said ≡ p ∷ [] → w.wire.said ≡ p ∷ []
    → w.first ≡ w.stand → HoldNone w.first.owed → Does w.first e w.stand → w.wire.failed ≡ None → w.ending ≡ (worth e).ends → (worth e).breaks ≡ false → w.last ≡ last_after None e → IsWorker w
unfolding ins outs ending_of has_broken last_request
began w e p one heard held nothing sends said first none does on ends unbroken last = record {
  heard = heard ∙ sym (ap (λ l. flat_map (λ x. (worth x).decided) l ++ those w.held) one ∙ ap (λ l. (l ++ []) ++ those w.held) nothing ∙ ap those held);
  said = said ∙ sym (ap (flat_map (λ x. (worth x).said)) one ∙ ap (λ l. l ++ []) sends);
  runs = chain_first Does w.first w.first w.stand [] w.events e refl refl one does;
  tap = (sym (ap (λ (s : Stand). s.tap.lane) first), sym (ap (λ (s : Stand). s.tap.front.lock) first));
  none_owed = none;
  over = ends ∙ sym (ap (phase_from (λ x y. or_end x (worth y).ends) None) one);
  last = last ∙ sym (ap (phase_from last_after None) one);
  goes_on = λ _. on;
  broke = λ h. absurd (true≢false (sym h ∙ ap (list_any (λ x. (worth x).breaks)) one ∙ or-false (worth e).breaks ∙ unbroken));
}

module _ (n : ℕ) where
  -- a turn with one step more
  pub goes_by : (a b : Scene) (ss ss' : List (Step Event)) (s : Step Event) → ss' ≡ ss ++ s ∷ [] → May a s b → Acts Does worth n a s b → Leads n a ss b ss'
  goes_by a b ss ss' s grown may acts = λ start was. step_more Does worth May n a b ss ss' s start grown may acts was

  pub goes_then : (a b c : Scene) (ss ss' ss'' : List (Step Event)) → Leads n a ss b ss' → Leads n b ss' c ss'' → Leads n a ss c ss''
  goes_then a b c ss ss' ss'' f g = λ start was. g start (f start was)

  -- the same scenes by other names
  pub goes_from : (a a' b : Scene) (ss ss' : List (Step Event)) → a' ≡ a → Leads n a' ss b ss' → Leads n a ss b ss'
  goes_from a a' b ss ss' same f = subst (λ (x : Scene). Leads n x ss b ss') same f

  pub goes_to : (a b b' : Scene) (ss ss' : List (Step Event)) → b' ≡ b → Leads n a ss b ss' → Leads n a ss b' ss'
  goes_to a b b' ss ss' same f = subst (λ (x : Scene). Leads n a ss x ss') (sym same) f

  -- the first steps of a turn are all its steps
  pub goes_first : (a b : Scene) (ss ss' : List (Step Event)) → ss ≡ [] → Leads n a ss b ss' → Changes n a ss' b
  goes_first a b ss ss' none f = f a (nothing_yet Does worth May n a ss none)

pub goes_at : (n n' : ℕ) (a b : Scene) (ss ss' : List (Step Event)) → n' ≡ n → Leads n a ss b ss' → Leads n' a ss b ss'
goes_at n n' a b ss ss' same f = subst (λ (k : ℕ). Leads k a ss b ss') (sym same) f

module _ {L : Type 0} (offered : L → List ℕ) (polls : L → List (Result Polled LinkFault)) (failures : L → ℕ) where
  -- a turn with one event more, of which nobody is told and for which nobody is asked
  pub goes_alone : (n : ℕ) (asked : List Question) (told : List Party) (queries : List Query) (es es' : List Event) (v v' : Stand) (u u' : List ℕ) (l l' : L) (ss ss' : List (Step Event)) (e : Event)
      → ss' ≡ ss ++ Did e ∷ [] → MayDo (scene asked told queries es v u (offered l) (polls l) (failures l)) e → Does v e v' → (worth e).tells ≡ [] → (worth e).finds ≡ [] → es' ≡ es ++ e ∷ []
      → u' ≡ u ++ spellings (worth e).said → l' ≡ l
      → Leads n (scene asked told queries es v u (offered l) (polls l) (failures l)) ss (scene asked told queries es' v' u' (offered l') (polls l') (failures l')) ss'
  goes_alone n asked told queries es es' v v' u u' l l' ss ss' e grown may does mute deaf more says link =
      goes_by n _ _ _ _ (Did e) grown may (happens offered polls failures Does worth asked asked told told queries queries _ _ _ _ _ _ l l' e does refl
      (sym (ap (λ x. told ++ x) mute ∙ append-nil told)) (sym (ap (λ x. queries ++ x) deaf ∙ append-nil queries)) more says link)

-- a PDU is decided, or waits
pub kept_or_in : (p : Pdu) (f : Fate) → unless_kept p (kept_by p f) ++ those (kept_by p f) ≡ p ∷ []
kept_or_in p f = by_spent (fate_worth p f).spent
  where
    by_spent : (b : Bool) → unless_kept p (if b then Some p else None) ++ those (if b then Some p else None) ≡ p ∷ []
    by_spent true = refl
    by_spent false = refl

pub stands_same : {u u' : Upstream} {t t' : TapView} {a a' : Receiving Pdu} {ss ss' : List (Sending MoItem)} {o o' : List Window} {b b' : Age} → u' ≡ u → t' ≡ t → a' ≡ a → ss' ≡ ss → o' ≡ o → b' ≡ b
    → stand u' t' a' ss' o' b' ≡ stand u t a ss o b
stands_same d e f g h i = cc
