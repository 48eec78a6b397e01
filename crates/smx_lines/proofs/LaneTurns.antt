-- The turns of one lane, from what its calls say.
use Rattle.std.proofs.Common.{◌≡◌, ◌≢◌, ◌<◌, ◌≤◌, ◌==◌, ℕ, Bool, true, false, not, List, [], ◌∷◌, ◌++◌, length, max, refl, sym, ◌∙◌, ap, subst, arith, Option, Some, None, nat_le, nat_lt, slice_get, codes, if◌then◌else◌, inl, inr}
use Rattle.std.specs.Fmt.{decimal}
use Rattle.std.proofs.lemmas.Bool.{cases_lt, eqb-true, eqb-false, leb-true, le-leb, lt-ltb, le-ltb}
use Rattle.smx_history.specs.Entries.{is_up}
use Rattle.smx_history.proofs.AdmitAgrees.{empty_of}
use Rattle.smx_pdu.specs.declared.pdu.Pdu.{Pdu}
use Rattle.smx_history.specs.declared.request.Request.{Request}
use Rattle.smx_history.specs.declared.note.Note.{Note}
use Rattle.smx_history.specs.declared.note.Event.TheVariants as event
use Rattle.smx_history.specs.declared.reply.Answered.TheVariants.{Queued, Late, Unknown}
use Rattle.smx_history.specs.declared.reply.TakeRefusal.{TakeRefusal}
use Rattle.smx_history.specs.declared.reply.TakeRefusal.TheVariants.{QueueEmpty, WindowFull, Down}
use Rattle.smx_history.specs.Legal.{IsLegal}
use Rattle.smx_history.specs.History.{marks_of, entries_of, note}
use Rattle.smx_history.specs.Contents.{AgreesWith, Content, queue_after, window_after}
use Rattle.smx_history.specs.Replies.{is_present, member_with, moment_at, take_refusal}
use Rattle.smx_history.specs.Answering.{IsAnswered}
use Rattle.smx_history.proofs.Counts.{length-same}
use Rattle.smx_history.proofs.WindowOrder.{place_same}
use Rattle.smx_history.proofs.Rows.{absent, found_present}
use Rattle.smx_lines.specs.Texts.{text_line, pdu_line, up_lane, upstream_of, down_line}
use Rattle.smx_lines.specs.Relay.{moment_on, take_with, take_on, back_on}
use Rattle.smx_lines.specs.Turns.{IsFreeNumber}
use Rattle.smx_lines.specs.Private.Lanes.{TurnsLane}
use Rattle.smx_lines.proofs.FreeNumbers.{some_free, taken_free}

window_length : (h : List Note) (v : Content) → AgreesWith h v → length v.window ≡ length (window_after h)
window_length h v a = length-same (window_after h) v.window a.after.window

not_le : (a b : ℕ) → nat_le a b ≡ false → b < a
not_le a b h = elim (cases_lt b a) [
  | inl below ↦ below
  | inr above ↦ absurd (let x : false ≡ true = sym h ∙ le-leb a b above in cc)
]

-- what a refusal to take says of queue, window and link
record IsTakable (v : Content) (o : Option TakeRefusal) : Type 0 where
  pub takes : o ≡ None → (length v.window < v.limits.window) × (v.up ≡ true)
  pub empty : o ≡ Some QueueEmpty → v.queue ≡ []
  pub full : o ≡ Some WindowFull → (v.limits.window ≤ length v.window) × (length v.queue ≢ 0)
  pub down : o ≡ Some Down → (length v.window < v.limits.window) × (v.up ≡ false) × (length v.queue ≢ 0)

-- by its three tests
takable_by : (v : Content) (e w u : Bool) → (length v.queue == 0) ≡ e → nat_le v.limits.window (length v.window) ≡ w → v.up ≡ u
    → IsTakable v (if e then Some QueueEmpty else if w then Some WindowFull else if not u then Some Down else None)
takable_by v true w u e l s = record { takes = λ x. cc; empty = λ x. empty_of v.queue (eqb-true (length v.queue) 0 e); full = λ x. cc; down = λ x. cc }
takable_by v false true u e l s = record { takes = λ x. cc; empty = λ x. cc; full = λ x. (leb-true _ _ l, eqb-false (length v.queue) 0 e); down = λ x. cc }
takable_by v false false true e l s = record { takes = λ x. (not_le v.limits.window (length v.window) l, s); empty = λ x. cc; full = λ x. cc; down = λ x. cc }
takable_by v false false false e l s = record { takes = λ x. cc; empty = λ x. cc; full = λ x. cc; down = λ x. (not_le v.limits.window (length v.window) l, s, eqb-false (length v.queue) 0 e) }

takable : (v : Content) → IsTakable v (take_refusal v)
takable v = takable_by v (length v.queue == 0) (nat_le v.limits.window (length v.window)) v.up refl refl refl

first_of_queue : (queue : List Request) (r : Request) → slice_get queue 0 ≡ Some r → (rest : List Request) × (queue ≡ r ∷ rest)
first_of_queue [] r e = absurd (let x : None ≡ Some r = e in cc)
first_of_queue (x ∷ xs) r e = let same : x ≡ r = cc in (xs, ap (λ y. y ∷ xs) same)

pub took : (h : List Note) (old new : Content) (at moment u : ℕ) (r : Request) (text : List ℕ) → AgreesWith h old → take_refusal old ≡ None → slice_get old.queue 0 ≡ Some r
    → ((g : List Note) → AgreesWith g old → AgreesWith (g ++ note 0 (event.Take r.client r.ordinal u (moment_at old moment)) ∷ []) new) → new.limits ≡ old.limits
    → text ≡ pdu_line (up_lane at) (upstream_of r u) → (n : ℕ) × IsFreeNumber h n × TurnsLane (take_on old.limits moment n at h) old new text
unfolding take_on
took h old new at moment u r text a taken front goes limits e =
    let now : moment_at old moment ≡ moment_on moment h = ap (max moment) a.after.latest in
    let longer = subst (λ t. AgreesWith (h ++ note 0 (event.Take r.client r.ordinal u t) ∷ []) new) now (goes h a) in
    let free = taken_free h new 0 r.client r.ordinal u (moment_on moment h) (subst (λ l. IsLegal l (marks_of h)) (sym limits) a.legal) longer in
    let there = first_of_queue old.queue r front in
    let queue : queue_after h ≡ r ∷ there.0 = sym a.after.queue ∙ there.1 in
    let room : nat_lt (length (window_after h)) old.limits.window ≡ true = lt-ltb (length (window_after h)) old.limits.window (omega (arith, window_length h old a, ((takable old).takes taken).0)) in
    let up : is_up (entries_of h) ≡ true = sym a.after.up ∙ ((takable old).takes taken).1 in
    (u, free, rw (up, queue, room) (record { text = e; agrees = longer; limits_are = limits }))

pub took_none : (h : List Note) (old new : Content) (at moment : ℕ) (text : List ℕ) → AgreesWith h old → old.up ≡ true → take_refusal old ≡ Some QueueEmpty → new ≡ old
    → text ≡ text_line (codes "take " ++ (decimal at ++ codes " empty")) → (n : ℕ) × IsFreeNumber h n × TurnsLane (take_on old.limits moment n at h) old new text
unfolding take_on
took_none h old new at moment text a up refused same e =
    let free = some_free h a.numbered.placed in
    let queue : queue_after h ≡ [] = sym a.after.queue ∙ (takable old).empty refused in
    let up' : is_up (entries_of h) ≡ true = sym a.after.up ∙ up in
    (free.0, free.1, rw (up', queue) (record { text = e; agrees = rw same a; limits_are = ap (λ (v : Content). v.limits) same }))

take_with_full : (moment u at : ℕ) (h : List Note) (queue : List Request) → length queue ≢ 0 → take_with moment u at h queue false ≡ (text_line (codes "take " ++ (decimal at ++ codes " full")), h)
take_with_full moment u at h [] some = absurd (some refl)
take_with_full moment u at h (r ∷ rs) some = refl

pub took_full : (h : List Note) (old new : Content) (at moment : ℕ) (text : List ℕ) → AgreesWith h old → old.up ≡ true → take_refusal old ≡ Some WindowFull → new ≡ old
    → text ≡ text_line (codes "take " ++ (decimal at ++ codes " full")) → (n : ℕ) × IsFreeNumber h n × TurnsLane (take_on old.limits moment n at h) old new text
unfolding take_on
took_full h old new at moment text a up refused same e =
    let free = some_free h a.numbered.placed in
    let full = (takable old).full refused in
    let none : nat_lt (length (window_after h)) old.limits.window ≡ false = le-ltb (length (window_after h)) old.limits.window (omega (arith, window_length h old a, full.0)) in
    let some : length (queue_after h) ≢ 0 = λ zero. full.1 (ap length a.after.queue ∙ zero) in
    let up' : is_up (entries_of h) ≡ true = sym a.after.up ∙ up in
    (free.0, free.1, rw (up', none, take_with_full moment free.0 at h (queue_after h) some) (record { text = e; agrees = rw same a; limits_are = ap (λ (v : Content). v.limits) same }))

pub took_down : (h : List Note) (v : Content) (at moment : ℕ) (text : List ℕ) → AgreesWith h v → v.up ≡ false → text ≡ down_line at → (n : ℕ) × IsFreeNumber h n × TurnsLane (take_on v.limits moment n at h) v v text
unfolding take_on
took_down h v at moment text a down e =
    let free = some_free h a.numbered.placed in
    let down' : is_up (entries_of h) ≡ false = sym a.after.up ∙ down in
    (free.0, free.1, rw down' (record { text = e; agrees = a; limits_are = refl }))

pub answered_queued : (h : List Note) (old new : Content) (p : Pdu) (c : ℕ) (text : List ℕ) → AgreesWith h old → IsAnswered old 0 p (Queued c) new → new.limits ≡ old.limits
    → text ≡ text_line (codes "queued " ++ decimal c) → TurnsLane (back_on p h) old new text
unfolding back_on
answered_queued h old new p c text a x limits e =
    let found = place_same h old p a ∙ x.2 in
    let here : is_present x.0.client h ≡ true = subst (λ d. is_present d h ≡ true) (sym x.3) (found_present h old c x.1 a x.4) in
    rw (found, here) (record { text = e ∙ ap (λ d. text_line (codes "queued " ++ decimal d)) (sym x.3); agrees = x.5 h a; limits_are = limits })

pub answered_late : (h : List Note) (old new : Content) (p : Pdu) (c : ℕ) (text : List ℕ) → AgreesWith h old → IsAnswered old 0 p (Late c) new → new.limits ≡ old.limits
    → text ≡ text_line (codes "late") → TurnsLane (back_on p h) old new text
unfolding back_on
answered_late h old new p c text a x limits e =
    let found = place_same h old p a ∙ x.1 in
    let gone : is_present x.0.client h ≡ false = absent h old x.0.client a (subst (λ d. member_with d old.members ≡ None) (sym x.2) x.3) in
    rw (found, gone) (record { text = e; agrees = x.4 h a; limits_are = limits })

pub answered_unknown : (h : List Note) (old new : Content) (p back : Pdu) (text : List ℕ) → AgreesWith h old → IsAnswered old 0 p (Unknown back) new
    → text ≡ text_line (codes "unknown") → TurnsLane (back_on p h) old new text
unfolding back_on
answered_unknown h old new p back text a x e =
    rw (place_same h old p a ∙ x.0) (record { text = e; agrees = rw x.2 a; limits_are = ap (λ (v : Content). v.limits) x.2 })
