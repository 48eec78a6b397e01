-- The link of one lane is lost, what was taken fails, and there is a link again.
use Rattle.std.proofs.Common.{◌≡◌, ◌<◌, ◌==◌, true, false, List, [], ◌∷◌, ◌++◌, length, map, drop, get_or, refl, sym, ◌∙◌, ap, subst, arith, Some, None, slice_get, append_assoc, count_by, cond, Result, Ok, Err, inl, inr}
use Rattle.std.specs.Prelude.{MatchResult, OnOk, OnErr}
use Rattle.std.specs.List.{remove}
use Rattle.std.proofs.lemmas.Bool.{cases_Bool, eqb-true}
use Rattle.std.proofs.lemmas.List.{append-nil, map_push}
use Rattle.std.proofs.lemmas.List.Sums.{sum_by-append}
use Rattle.smx_history.specs.declared.entry.Kind.TheVariants as kind
use Rattle.smx_history.specs.declared.note.Note.{Note}
use Rattle.smx_history.specs.declared.note.Event.TheVariants as event
use Rattle.smx_history.specs.declared.place.Place.{Place}
use Rattle.smx_history.specs.declared.reply.Failed.{Failed}
use Rattle.smx_history.specs.declared.reply.Failed.TheVariants as failed
use Rattle.smx_history.specs.declared.reply.FailRefusal.{FailRefusal}
use Rattle.smx_history.specs.Prefixes.{SameCounts}
use Rattle.smx_history.specs.Entries.{is_up}
use Rattle.smx_history.specs.History.{entries_of, note}
use Rattle.smx_history.specs.Contents.{AgreesWith, Content, window_after}
use Rattle.smx_history.specs.Answering.{IsFailed, failing}
use Rattle.smx_history.specs.Replies.{fail_refusal}
use Rattle.smx_history.proofs.AdmitAgrees.{empty_of}
use Rattle.smx_history.proofs.Counts.{length-same}
use Rattle.smx_history.proofs.FitsSettle.{settles_fail}
use Rattle.smx_history.proofs.Frames.{is_up-other}
use Rattle.smx_history.proofs.Reading.{entries_of-push}
use Rattle.smx_history.proofs.SettleAgrees.{window-settled}
use Rattle.smx_history.proofs.Updates.{failing_entry}
use Rattle.smx_lines.specs.LaneLinks.{give_up_lane, lower_lane}

-- failures leave the link as it is
is_up_failing : (h : List Note) (qs : List Place) → is_up (entries_of (h ++ map (failing 0) qs)) ≡ is_up (entries_of h)
is_up_failing h [] = ap (λ g. is_up (entries_of g)) (append-nil h)
is_up_failing h (q ∷ qs) =
    ap (λ g. is_up (entries_of g)) (sym (append_assoc h (failing 0 q ∷ []) (map (failing 0) qs)))
    ∙ is_up_failing (h ++ failing 0 q ∷ []) qs
    ∙ ap is_up (entries_of-push h (failing 0 q) (failing_entry 0 q) refl)
    ∙ is_up-other (entries_of h) (failing_entry 0 q) refl

-- some of what was taken has failed, and the rest is in the window
abbrev pub GivingUp : Content → Content → Type 0
GivingUp old now = (h : List Note) → AgreesWith h old → (qs : List Place) × SameCounts (window_after h) (qs ++ now.window) × AgreesWith (h ++ map (failing 0) qs) now

pub giving_up_start : (old : Content) → GivingUp old old
giving_up_start old h a = ([], a.after.window, subst (λ g. AgreesWith g old) (sym (append-nil h)) a)

-- the first of the window failed
record FailsFirst (v new : Content) (q : Place) : Type 0 where
  pub first : slice_get v.window 0 ≡ Some q
  pub agrees : (h : List Note) → AgreesWith h v → AgreesWith (h ++ failing 0 q ∷ []) new

fails_first : (v new : Content) (r : Failed) → IsFailed v 0 r new → (q : Place) × FailsFirst v new q
fails_first v new (failed.Queued c) x = (x.0, record { first = x.1; agrees = x.2.2 })
fails_first v new (failed.Late c) x = (x.0, record { first = x.1; agrees = x.2.2 })

front_of : (ps : List Place) (q : Place) → slice_get ps 0 ≡ Some q → ps ≡ q ∷ drop 1 ps
front_of [] q e = absurd (let x : None ≡ Some q = e in cc)
front_of (x ∷ xs) q e = let same : x ≡ q = cc in ap (λ y. y ∷ xs) same

-- the rest of the window is left
rest_left : (g : List Note) (v new : Content) (q : Place) → AgreesWith g v → AgreesWith (g ++ failing 0 q ∷ []) new → v.window ≡ q ∷ drop 1 v.window → SameCounts (drop 1 v.window) new.window
rest_left g v new q a longer front test =
    let within : 0 < length v.window = omega (arith, ap length front) in
    let is : q ≡ get_or v.window 0 q = sym (ap (λ ws. get_or ws 0 q) front) in
    let left : SameCounts (window_after (g ++ failing 0 q ∷ [])) (remove v.window 0) =
    window-settled g v (failing 0 q) (failing_entry 0 q) q 0 a refl (settles_fail kind.Fail refl) refl refl within is in
    let same : remove v.window 0 ≡ drop 1 v.window = ap (λ ws. remove ws 0) front in
    longer.after.window test ∙ sym (left test) ∙ ap (count_by test) same

pub giving_up_more : (old v new : Content) (r : Failed) → IsFailed v 0 r new → GivingUp old v → GivingUp old new
giving_up_more old v new r x so_far h a =
    let y = so_far h a in
    let qs = y.0 in
    let f = fails_first v new r x in
    let q = f.0 in
    let front = front_of v.window q f.1.first in
    let rest = drop 1 v.window in
    let longer = f.1.agrees (h ++ map (failing 0) qs) y.2 in
    let left = rest_left (h ++ map (failing 0) qs) v new q y.2 longer front in
    let history : h ++ map (failing 0) (qs ++ q ∷ []) ≡ (h ++ map (failing 0) qs) ++ failing 0 q ∷ [] =
    ap (λ ns. h ++ ns) (map_push (failing 0) qs q) ∙ sym (append_assoc h (map (failing 0) qs) (failing 0 q ∷ [])) in (
      qs ++ q ∷ [],
      λ test. omega (
        arith,
        y.1 test,
        left test,
        ap (λ ws. count_by test (qs ++ ws)) front,
        ap (count_by test) (append_assoc qs (q ∷ []) rest),
        sum_by-append (λ z. cond (test z) 1 0) (qs ++ q ∷ []) rest,
        sum_by-append (λ z. cond (test z) 1 0) (qs ++ q ∷ []) new.window,
      ),
      subst (λ ns. AgreesWith ns new) (sym history) longer,
    )

pub fails_smaller : (old v new : Content) (r : Failed) → IsFailed v 0 r new → (h : List Note) × AgreesWith h old → GivingUp old v → length new.window < length v.window
fails_smaller old v new r x fed so_far =
    let y = so_far fed.0 fed.1 in
    let f = fails_first v new r x in
    let front = front_of v.window f.0 f.1.first in
    let g = fed.0 ++ map (failing 0) y.0 in
    let left = rest_left g v new f.0 y.2 (f.1.agrees g y.2) front in
    omega (arith, length-same (drop 1 v.window) new.window left, ap length front)

window_empty : (v : Content) (e : FailRefusal) → fail_refusal v ≡ Some e → v.up ≡ false → v.window ≡ []
window_empty v e refused down =
    elim (cases_Bool (length v.window == 0)) [
      | inl none ↦ empty_of v.window (eqb-true (length v.window) 0 none)
      | inr some ↦ absurd (
          let goes : fail_refusal v ≡ None = rw (down, some) refl in
          let x : None ≡ Some e = sym goes ∙ refused in
          cc
          )
    ]

-- what a lane is left with whose requests have failed
abbrev pub GivenUp : Content → Content → Type 0
GivenUp old new = (h : List Note) → AgreesWith h old → (qs : List Place) × SameCounts (window_after h) qs × AgreesWith (give_up_lane qs h) new

pub giving_up_end : (old now new : Content) (e : FailRefusal) → old.up ≡ false → fail_refusal now ≡ Some e → new ≡ now → GivingUp old now → GivenUp old new
unfolding give_up_lane
giving_up_end old now new e was refused same so_far h a =
    let y = so_far h a in
    let down : is_up (entries_of h) ≡ false = sym a.after.up ∙ was in
    let none = window_empty now e refused (y.2.after.up ∙ is_up_failing h y.0 ∙ down) in
    (y.0, subst (SameCounts (window_after h)) (ap (λ ws. y.0 ++ ws) none ∙ append-nil y.0) y.1, rw (down, same) y.2)

pub nothing_given_up : (v : Content) → v.up ≡ true → GivenUp v v
unfolding give_up_lane
nothing_given_up v up h a =
    let up' : is_up (entries_of h) ≡ true = sym a.after.up ∙ up in
    (window_after h, λ test. refl, rw up' a)

-- the link is lost, or there was none
pub lowers : {U E : Type 0} (old new : Content) (r : Result U E) → MatchResult r (λ _. old.up ≡ true) (λ _. old.up ≡ false) → OnOk r ((h : List Note) → AgreesWith h old → AgreesWith (h ++ note 0 event.Down ∷ []) new) → OnErr r (new ≡ old)
    → (h : List Note) → AgreesWith h old → AgreesWith (lower_lane h) new
unfolding lower_lane
lowers old new (Ok u) up goes same h a =
    let up' : is_up (entries_of h) ≡ true = sym a.after.up ∙ up in
    rw up' (goes h a)
lowers old new (Err e) down goes same h a =
    let down' : is_up (entries_of h) ≡ false = sym a.after.up ∙ down in
    rw (down', same) a
