-- Requests that were taken too long ago fail on one lane, one by one.
use Rattle.std.proofs.Common.{◌≡◌, ◌≢◌, ◌<◌, ◌==◌, ◌&&◌, ℕ, Bool, true, false, cond, List, [], ◌∷◌, ◌++◌, length, map, filter, get_or, refl, sym, ◌∙◌, ap, subst, arith, Option, Some, None, append_assoc, count_by, suc}
use Rattle.std.specs.Prelude.{max, if◌then◌else◌, is_some}
use Rattle.std.specs.List.{AllByRecursion, find, flat_map, list_any}
use Rattle.std.proofs.lemmas.List.{append-nil, map_push}
use Rattle.std.proofs.lemmas.List.Sums.{sum_by-append, sum_by-cons}
use Rattle.std.proofs.lemmas.Grind.{flat_map-append}
use Rattle.smx_history.specs.declared.entry.Kind.TheVariants as kind
use Rattle.smx_history.specs.declared.note.Note.{Note}
use Rattle.smx_history.specs.declared.place.Place.{Place}
use Rattle.smx_history.specs.declared.reply.Failed.{Failed}
use Rattle.smx_history.specs.declared.reply.Failed.TheVariants.{Queued, Late}
use Rattle.smx_history.specs.Prefixes.{SameCounts}
use Rattle.smx_history.specs.Entries.{is_up, present}
use Rattle.smx_history.specs.History.{entries_of, latest_after}
use Rattle.smx_history.specs.Contents.{AgreesWith, Content, Member, window_after}
use Rattle.smx_history.specs.Answering.{IsExpired, failing}
use Rattle.smx_history.specs.Replies.{expired_in, is_expired, is_present, member_with, moment_at}
use Rattle.smx_history.proofs.AdmitAgrees.{empty_of}
use Rattle.smx_history.proofs.Counts.{count_and-le, count_by-filter, count_by-push, count_by-remove}
use Rattle.smx_history.proofs.Rows.{absent, found_present, is_present-any}
use Rattle.smx_history.proofs.FitsSettle.{settles_fail}
use Rattle.smx_history.proofs.Frames.{present-other}
use Rattle.smx_history.proofs.ListPushes.{All-push}
use Rattle.smx_history.proofs.Numbering.{latest-other}
use Rattle.smx_history.proofs.Reading.{entries_of-push}
use Rattle.smx_history.proofs.SettleAgrees.{window-settled}
use Rattle.smx_history.proofs.Updates.{failing_entry}
use Rattle.smx_lines.specs.Texts.{kept_line, failed_line}
use Rattle.smx_lines.specs.Relay.{moment_on}
use Rattle.smx_lines.specs.Expiring.{expire_on, expired_after, failed_to, or_kept}
use Rattle.smx_lines.specs.Private.Lanes.{TurnsLane}

-- failures leave who is present and the moment of the last take
present_failing : (h : List Note) (qs : List Place) (c : ℕ) → is_present c (h ++ map (failing 0) qs) ≡ is_present c h
present_failing h [] c = ap (is_present c) (append-nil h)
present_failing h (q ∷ qs) c =
    ap (is_present c) (sym (append_assoc h (failing 0 q ∷ []) (map (failing 0) qs)))
    ∙ present_failing (h ++ failing 0 q ∷ []) qs c
    ∙ is_present-any (h ++ failing 0 q ∷ []) c ∙ ap (list_any (λ a. a.client == c)) (ap present (entries_of-push h (failing 0 q) (failing_entry 0 q) refl) ∙ present-other (entries_of h) (failing_entry 0 q) refl refl) ∙ sym (is_present-any h c)

latest_failing : (h : List Note) (qs : List Place) → latest_after (h ++ map (failing 0) qs) ≡ latest_after h
latest_failing h [] = ap latest_after (append-nil h)
latest_failing h (q ∷ qs) =
    ap latest_after (sym (append_assoc h (failing 0 q ∷ []) (map (failing 0) qs)))
    ∙ latest_failing (h ++ failing 0 q ∷ []) qs
    ∙ latest-other h (failing 0 q) refl

-- where an element is found, and that none is
record IsFoundAt {X : Type 0} (test : X → Bool) (xs : List X) (x : X) (i : ℕ) : Type 0 where
  pub within : i < length xs
  pub is : x ≡ get_or xs i x
  pub passes : test x ≡ true

found_at : {X : Type 0} (test : X → Bool) (xs : List X) (x : X) → find test xs ≡ Some x → (i : ℕ) × IsFoundAt test xs x i
found_at test [] x found = absurd (let e : None ≡ Some x = found in cc)
found_at test (y ∷ xs) x found = at (test y) refl found (found_at test xs x)
  where
    at : (b : Bool) → test y ≡ b → cond b (Some y) (find test xs) ≡ Some x → (find test xs ≡ Some x → (i : ℕ) × IsFoundAt test xs x i) → (i : ℕ) × IsFoundAt test (y ∷ xs) x i
    at true e f later = let same : y ≡ x = cc in (0, record { within = omega arith; is = sym same; passes = subst (λ z. test z ≡ true) same e })
    at false e f later = let w = later f in (suc w.0, record { within = omega (arith, w.1.within); is = w.1.is; passes = w.1.passes })

none_found : {X : Type 0} (test : X → Bool) (xs : List X) → find test xs ≡ None → count_by test xs ≡ 0
none_found test [] found = refl
none_found test (y ∷ xs) found = at (test y) refl found (none_found test xs)
  where
    at : (b : Bool) → test y ≡ b → cond b (Some y) (find test xs) ≡ None → (find test xs ≡ None → count_by test xs ≡ 0) → count_by test (y ∷ xs) ≡ 0
    at true e f later = absurd (let z : Some y ≡ None = f in cc)
    at false e f later = let z = later f in omega (arith, z, sum_by-cons (λ x. cond (test x) 1 0) y xs, ap {B = ℕ} (λ b. cond b 1 0) e)

-- what passes a test each, another test counts together with it
count_passing : {X : Type 0} (p test : X → Bool) (xs : List X) → AllByRecursion (λ x. test x ≡ true) xs → count_by (λ x. p x && test x) xs ≡ count_by p xs
count_passing p test [] pass = refl
count_passing p test (x ∷ xs) pass =
    omega (arith, count_passing p test xs pass.1, sum_by-cons (λ y. cond (p y) 1 0) x xs, sum_by-cons (λ y. cond (p y && test y) 1 0) x xs, one (p x) (test x) pass.0)
  where
    one : (a b : Bool) → b ≡ true → ◌≡◌ {A = ℕ} (cond (a && b) 1 0) (cond a 1 0)
    one true b e = ap {B = ℕ} (λ c. cond c 1 0) e
    one false b e = refl

-- these have failed of a lane's window, each was old enough and printed its line
pub record IsExpiring (moment age : ℕ) (h : List Note) (qs : List Place) (now : Content) (text : List ℕ) : Type 0 where
  pub counts : SameCounts (window_after h) (qs ++ now.window)
  pub aged : AllByRecursion (λ q. is_expired (moment_on moment h) age q ≡ true) qs
  pub lines : text ≡ flat_map (λ q. failed_line (failed_to h q)) qs
  pub agrees : AgreesWith (h ++ map (failing 0) qs) now

abbrev pub Expiring : ℕ → ℕ → Content → Content → List ℕ → Type 0
Expiring moment age old now text = (h : List Note) → AgreesWith h old → (qs : List Place) × IsExpiring moment age h qs now text

pub expiring_start : (moment age : ℕ) (old : Content) (text : List ℕ) → text ≡ [] → Expiring moment age old old text
expiring_start moment age old text none h a =
    ([], record { counts = a.after.window; aged = tt; lines = none; agrees = subst (λ g. AgreesWith g old) (sym (append-nil h)) a })

-- the note of a failure, and whom it reaches
record FailsOne (v new : Content) (q : Place) (r : Failed) : Type 0 where
  pub agrees : (g : List Note) → AgreesWith g v → AgreesWith (g ++ failing 0 q ∷ []) new
  pub told : (g : List Note) → AgreesWith g v → r ≡ failed_to g q

here_told : (v : Content) (q : Place) (g : List Note) (o : Option Member) → AgreesWith g v → member_with q.client v.members ≡ o → is_some o ≡ true → Queued q.client ≡ failed_to g q
here_told v q g None a found some = absurd (let z : false ≡ true = some in cc)
here_told v q g (Some m) a found some = rw (found_present g v q.client m a found) refl

gone_told : (v : Content) (q : Place) (g : List Note) → AgreesWith g v → member_with q.client v.members ≡ None → Late q.client ≡ failed_to g q
gone_told v q g a gone = rw (absent g v q.client a gone) refl

fails_of : (moment age : ℕ) (v new : Content) (r : Failed) (x : IsExpired v 0 moment age r new) → FailsOne v new x.0 r
fails_of moment age v new (Queued c) x = record {
  agrees = x.2.2;
  told = λ g a. ap Queued (sym x.2.0) ∙ here_told v x.0 g (member_with x.0.client v.members) a refl (subst (λ d. is_some (member_with d v.members) ≡ true) (sym x.2.0) x.2.1);
}
fails_of moment age v new (Late c) x = record {
  agrees = x.2.2;
  told = λ g a. ap Late (sym x.2.0) ∙ gone_told v x.0 g a (subst (λ d. member_with d v.members ≡ None) (sym x.2.0) x.2.1);
}

pub expiring_more : (moment age : ℕ) (old v new : Content) (r : Failed) (text more all : List ℕ) → IsExpired v 0 moment age r new → more ≡ failed_line r → all ≡ text ++ more → Expiring moment age old v text → Expiring moment age old new all
expiring_more moment age old v new r text more all x line e so_far h a =
    let y = so_far h a in
    let qs = y.0 in
    let is = y.1 in
    let q = x.0 in
    let g = h ++ map (failing 0) qs in
    let at = found_at (is_expired (moment_at v moment) age) v.window q x.1 in
    let f = fails_of moment age v new r x in
    let longer = f.agrees g is.agrees in
    let left = window-settled g v (failing 0 q) (failing_entry 0 q) q at.0 is.agrees refl (settles_fail kind.Fail refl) refl refl at.1.within at.1.is in
    let now : moment_at v moment ≡ moment_on moment h = ap (max moment) (is.agrees.after.latest ∙ latest_failing h qs) in
    let told : r ≡ failed_to h q = f.told g is.agrees ∙ ap (λ b. if b then Queued q.client else Late q.client) (present_failing h qs q.client) in
    let history : h ++ map (failing 0) (qs ++ q ∷ []) ≡ g ++ failing 0 q ∷ [] =
    ap (λ ns. h ++ ns) (map_push (failing 0) qs q) ∙ sym (append_assoc h (map (failing 0) qs) (failing 0 q ∷ [])) in
    let lines : text ++ failed_line r ≡ flat_map (λ p. failed_line (failed_to h p)) (qs ++ q ∷ []) =
    ap (λ t. t ++ failed_line r) is.lines ∙ ap (λ f. flat_map (λ p. failed_line (failed_to h p)) qs ++ failed_line f) told
    ∙ ap (λ t. flat_map (λ p. failed_line (failed_to h p)) qs ++ t) (sym (append-nil (failed_line (failed_to h q))))
    ∙ sym (flat_map-append (λ p. failed_line (failed_to h p)) qs (q ∷ [])) in (
      qs ++ q ∷ [],
      record {
        counts = λ test. omega (
          arith,
          is.counts test,
          left test,
          longer.after.window test,
          count_by-remove test v.window at.0 q at.1.within at.1.is,
          count_by-push test qs q,
          sum_by-append (λ z. cond (test z) 1 0) qs v.window,
          sum_by-append (λ z. cond (test z) 1 0) (qs ++ q ∷ []) new.window,
        );
        aged = All-push (λ p. is_expired (moment_on moment h) age p ≡ true) qs q is.aged (subst (λ m. is_expired m age q ≡ true) now at.1.passes);
        lines = e ∙ ap (λ t. text ++ t) line ∙ lines;
        agrees = subst (λ ns. AgreesWith ns new) (sym history) longer;
      },
    )

pub expires_smaller : (moment age : ℕ) (old v new : Content) (r : Failed) (text : List ℕ) → IsExpired v 0 moment age r new → (h : List Note) × AgreesWith h old → Expiring moment age old v text → length new.window < length v.window
expires_smaller moment age old v new r text x fed so_far =
    let is = (so_far fed.0 fed.1).1 in
    let g = fed.0 ++ map (failing 0) (so_far fed.0 fed.1).0 in
    let q = x.0 in
    let at = found_at (is_expired (moment_at v moment) age) v.window q x.1 in
    let longer = (fails_of moment age v new r x).agrees g is.agrees in
    let left = window-settled g v (failing 0 q) (failing_entry 0 q) q at.0 is.agrees refl (settles_fail kind.Fail refl) refl refl at.1.within at.1.is in
    omega (arith, left (λ _. true), longer.after.window (λ _. true), count_by-remove (λ _. true) v.window at.0 q at.1.within at.1.is, all_counted new.window, all_counted v.window)
  where
    all_counted : (qs : List Place) → count_by (λ _. true) qs ≡ length qs
    all_counted [] = refl
    all_counted (q ∷ qs) = omega (arith, all_counted qs, sum_by-cons (λ p. 1) q qs)

-- what a line printed and left of a lane
abbrev pub ExpiresLane : ℕ → ℕ → ℕ → Content → Content → List ℕ → Type 0
ExpiresLane at moment age old new text = (h : List Note) → AgreesWith h old → (qs : List Place) × SameCounts (expired_after moment age h) qs × TurnsLane (expire_on at qs h) old new text

expiring_end : (at moment age : ℕ) (old now new : Content) (text printed : List ℕ) → old.up ≡ true → expired_in now moment age ≡ None → new ≡ now → new.limits ≡ old.limits → Expiring moment age old now text → printed ≡ or_kept at text → ExpiresLane at moment age old new printed
unfolding expire_on
expiring_end at moment age old now new text printed up none same limits so_far e h a =
    let y = so_far h a in
    let qs = y.0 in
    let is = y.1 in
    let aged = is_expired (moment_on moment h) age in
    let up' : is_up (entries_of h) ≡ true = sym a.after.up ∙ up in
    let at_now : moment_at now moment ≡ moment_on moment h = ap (max moment) (is.agrees.after.latest ∙ latest_failing h qs) in
    let rest : count_by aged now.window ≡ 0 = none_found aged now.window (subst (λ m. find (is_expired m age) now.window ≡ None) at_now none) in
    let counts : SameCounts (filter aged (window_after h)) qs = λ test. omega (
      arith,
      rest,
      count_by-filter test aged (window_after h),
      is.counts (λ q. test q && aged q),
      sum_by-append (λ q. cond (test q && aged q) 1 0) qs now.window,
      count_passing test aged qs is.aged,
      count_and-le test aged now.window,
    ) in
    (qs, rw up' counts, record { text = e ∙ ap (or_kept at) is.lines; agrees = rw same is.agrees; limits_are = limits })

pub expires_none : (at moment age : ℕ) (old now new : Content) (text printed : List ℕ) → old.up ≡ true → expired_in now moment age ≡ None → new ≡ now → new.limits ≡ old.limits → Expiring moment age old now text → length text ≡ 0 → printed ≡ kept_line at → ExpiresLane at moment age old new printed
expires_none at moment age old now new text printed up none same limits so_far empty e = expiring_end at moment age old now new text printed up none same limits so_far (e ∙ ap (or_kept at) (sym (empty_of text empty)))

or_kept-some : (at : ℕ) (text : List ℕ) → length text ≢ 0 → or_kept at text ≡ text
or_kept-some at [] some = absurd (some refl)
or_kept-some at (x ∷ xs) some = refl

pub expires_some : (at moment age : ℕ) (old now new : Content) (text : List ℕ) → old.up ≡ true → expired_in now moment age ≡ None → new ≡ now → new.limits ≡ old.limits → Expiring moment age old now text → length text ≢ 0 → ExpiresLane at moment age old new text
expires_some at moment age old now new text up none same limits so_far some = expiring_end at moment age old now new text text up none same limits so_far (sym (or_kept-some at text some))

-- on a lane that is down nothing fails
pub expires_down : (at moment age : ℕ) (v : Content) (text : List ℕ) → v.up ≡ false → text ≡ kept_line at → ExpiresLane at moment age v v text
unfolding expire_on
expires_down at moment age v text down e h a =
    let down' : is_up (entries_of h) ≡ false = sym a.after.up ∙ down in
    ([], rw down' (λ test. refl), record { text = e; agrees = subst (λ g. AgreesWith g v) (sym (append-nil h)) a; limits_are = refl })
