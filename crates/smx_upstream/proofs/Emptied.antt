-- All that was accepted is settled, once the queue and then the window were found empty.
use Rattle.std.proofs.Common.{◌≡◌, ◌≤◌, ◌==◌, ◌&&◌, ◌||◌, ℕ, Bool, true, false, not, cond, List, [], ◌∷◌, length, map, filter, take, Option, Some, None, Result, Ok, Err, if◌then◌else◌, refl, sym, ap, ◌∙◌, subst, arith}
use mathlib.Core.List.{IsPrefix}
use Rattle.std.specs.List.{list_any}
use Rattle.std.proofs.lemmas.Bool.{and_parts, eqb-true}
use Rattle.std.proofs.lemmas.List.{length-map}
use Rattle.std.proofs.Math.Seq.{take-length}
use Rattle.smx_lock.specs.Fronts.{Front}
use Rattle.smx_history.specs.declared.entry.Entry.{Entry}
use Rattle.smx_history.specs.declared.limits.Limits.{Limits}
use Rattle.smx_history.specs.declared.note.Note.{Note}
use Rattle.smx_history.specs.declared.reply.Failed.{Failed}
use Rattle.smx_history.specs.declared.reply.TakeRefusal.TheVariants as taking
use Rattle.smx_history.specs.declared.reply.FailRefusal.TheVariants as failing
use Rattle.smx_history.specs.Contents.{Content, AgreesWith}
use Rattle.smx_history.specs.Entries.{is_accept, is_take, Name, name_of, has_name, accepts, takes, is_accepted, is_taken, is_settled, is_up, unanswered_takes}
use Rattle.smx_history.specs.History.{entries_of}
use Rattle.smx_history.specs.Legal.{IsFifo}
use Rattle.smx_history.specs.Replies.{take_refusal, fail_refusal}
use Rattle.smx_history.proofs.ListPushes.{any_kept, AtEachPrefix-whole}
use Rattle.smx_history.proofs.Reading.{entries_of-append}
use Rattle.smx_history.proofs.Sizes.{length-queue, length-window, takes-le-accepts}
use Rattle.smx_history.proofs.TakeAgrees.{any-map}
use Rattle.smx_lane.specs.declared.sent.Sent.{Sent}
use Rattle.smx_shared.specs.declared.fault.DownFault.{DownFault}
use Rattle.smx_shared.specs.declared.fault.DownFault.TheVariants as downs
use Rattle.smx_shared.specs.declared.fault.FailFault.{FailFault}
use Rattle.smx_shared.specs.declared.fault.FailFault.TheVariants as fails
use Rattle.smx_shared.specs.declared.fault.TakeFault.{TakeFault}
use Rattle.smx_shared.specs.declared.fault.TakeFault.TheVariants as takings
use Rattle.smx_shared.specs.Serving.{Fails, FailServes, GoesDown, TakeServes}
use Rattle.smx_turns.specs.Runs.{Runs}
use Rattle.smx_upstream.specs.declared.abandoning.Round.{Round}
use Rattle.smx_upstream.specs.Abandoning.{TakesOne, TakesAll, StopsTaking, GoesRound, AreSettled, LeavesNone, HasEmptied}
use Rattle.smx_upstream.specs.Losing.{GivesUp, StopsGivingUp, Loses}
use Rattle.smx_upstream.specs.Rising.{Rises}
use Rattle.smx_upstream.specs.declared.losing.Lost.{Lost}
use Rattle.smx_upstream.proofs.Seen.{self, longer, served_seen, spent_seen, take_seen, rise_seen}

any_filter : {X : Type 0} (p q : X → Bool) (xs : List X) → list_any (λ x. p x && q x) xs ≡ list_any q (filter p xs)
any_filter p q [] = refl
any_filter p q (x ∷ xs) = any_filter_at (p x) (any_filter p q xs)
  where
    any_filter_at : (b : Bool) → list_any (λ y. p y && q y) xs ≡ list_any q (filter p xs) → ((b && q x) || list_any (λ y. p y && q y) xs) ≡ list_any q (cond b (x ∷ filter p xs) (filter p xs))
    any_filter_at true h = ap (λ r. q x || r) h
    any_filter_at false h = h

abbrev is_named : ℕ → ℕ → Name → Bool
is_named c n m = (m.client == c) && (m.ordinal == n)

named_in : (p : Entry → Bool) (c n : ℕ) (es : List Entry) → list_any (λ e. p e && has_name c n e) es ≡ list_any (is_named c n) (map name_of (filter p es))
named_in p c n es = any_filter p (has_name c n) es ∙ sym (any-map (is_named c n) name_of (filter p es))

-- as many were taken as were accepted, so they are the same
names_same : (es : List Entry) → IsFifo es → length (accepts es) ≤ length (takes es) → map name_of (accepts es) ≡ map name_of (takes es)
names_same es fifo all =
    let same : length (map name_of (takes es)) ≡ length (map name_of (accepts es)) = omega (arith, takes-le-accepts es fifo, all, length-map (takes es) name_of, length-map (accepts es) name_of) in
    sym (take-length (map name_of (accepts es))) ∙ ap (λ k. take k (map name_of (accepts es))) (sym same) ∙ fifo.taken

accepted_taken : (es : List Entry) (c n : ℕ) → IsFifo es → length (accepts es) ≤ length (takes es) → is_accepted c n es ≡ true → is_taken c n es ≡ true
accepted_taken es c n fifo all is =
    named_in (λ e. is_take e.kind) c n es ∙ ap (list_any (is_named c n)) (sym (names_same es fifo all)) ∙ sym (named_in (λ e. is_accept e.kind) c n es) ∙ is

all_answered : (es : List Entry) (c n : ℕ) (xs : List Entry) → filter (λ t. not (is_settled t.client t.ordinal es)) xs ≡ [] → list_any (has_name c n) xs ≡ true → is_settled c n es ≡ true
all_answered es c n [] none any = cc
all_answered es c n (x ∷ xs) none any = at (is_settled x.client x.ordinal es) refl none (has_name c n x) refl any (all_answered es c n xs)
  where
    at : (s : Bool) → is_settled x.client x.ordinal es ≡ s → cond (not s) (x ∷ filter (λ t. not (is_settled t.client t.ordinal es)) xs) (filter (λ t. not (is_settled t.client t.ordinal es)) xs) ≡ []
        → (b : Bool) → has_name c n x ≡ b → (b || list_any (has_name c n) xs) ≡ true
        → (filter (λ t. not (is_settled t.client t.ordinal es)) xs ≡ [] → list_any (has_name c n) xs ≡ true → is_settled c n es ≡ true) → is_settled c n es ≡ true
    at false e h b same some later = cc
    at true e h true same some later =
        let parts = and_parts (x.client == c) (x.ordinal == n) same in
        subst (λ (k : ℕ). is_settled c k es ≡ true) (eqb-true x.ordinal n parts.1) (subst (λ (k : ℕ). is_settled k x.ordinal es ≡ true) (eqb-true x.client c parts.0) e)
    at true e h false same some later = later h some

none_of : {X : Type 0} (xs : List X) → length xs ≡ 0 → xs ≡ []
none_of [] h = refl
none_of (x ∷ xs) h = cc

taken_settled : (es : List Entry) (c n : ℕ) → length (unanswered_takes es) ≡ 0 → is_taken c n es ≡ true → is_settled c n es ≡ true
taken_settled es c n none is = all_answered es c n (takes es) (none_of (unanswered_takes es) none) (sym (any_filter (λ e. is_take e.kind) (has_name c n) es) ∙ is)

-- what the lane said
queue_at : (b x y : Bool) → (if b then Some taking.QueueEmpty else if x then Some taking.WindowFull else if y then Some taking.Down else None) ≡ Some taking.QueueEmpty → b ≡ true
queue_at true x y h = refl
queue_at false true y h = cc
queue_at false false true h = cc
queue_at false false false h = cc

window_at : (b x : Bool) → (if b then Some failing.Up else if x then Some failing.WindowEmpty else None) ≡ Some failing.WindowEmpty → x ≡ true
window_at true x h = cc
window_at false true h = refl
window_at false false h = cc

down_at : (b x : Bool) → (if b then Some failing.Up else if x then Some failing.WindowEmpty else None) ≡ Some failing.WindowEmpty → b ≡ false
down_at true x h = cc
down_at false x h = refl

queue_none : (v : Content) → take_refusal v ≡ Some taking.QueueEmpty → length v.queue ≡ 0
queue_none v h = eqb-true (length v.queue) 0 (queue_at (length v.queue == 0) _ _ h)

window_none : (v : Content) → fail_refusal v ≡ Some failing.WindowEmpty → length v.window ≡ 0
window_none v h = eqb-true (length v.window) 0 (window_at v.up (length v.window == 0) h)

any_later : (p : Entry → Bool) (h h' : List Note) → IsPrefix h h' → list_any p (entries_of h) ≡ true → list_any p (entries_of h') ≡ true
any_later p h h' q any = subst (λ (l : List Note). list_any p (entries_of l) ≡ true) q.1 (rw (entries_of-append h q.0) (any_kept p (entries_of h) (entries_of q.0) any))

-- the queue was found empty, and behind that the window
settled_between : (h h' : List Note) (v v' : Content) → AgreesWith h v → take_refusal v ≡ Some taking.QueueEmpty → IsPrefix h h' → AgreesWith h' v' → fail_refusal v' ≡ Some failing.WindowEmpty → AreSettled h h'
settled_between h h' v v' a empty later a' none = λ c n is.
    let all : length (accepts (entries_of h)) ≤ length (takes (entries_of h)) = omega (arith, length-queue h v a.after, queue_none v empty) in
    let taken = accepted_taken (entries_of h) c n (AtEachPrefix-whole IsFifo (entries_of h) a.legal.rules.fifo) all is in
    taken_settled (entries_of h') c n (sym (length-window h' v' a'.after) ∙ window_none v' none) (any_later (λ e. is_take e.kind && has_name c n e) h h' later taken)

settled_wider : (g h h' k : List Note) → IsPrefix g h → AreSettled h h' → IsPrefix h' k → AreSettled g k
settled_wider g h h' k before s behind = λ c n is. any_later _ h' k behind (s c n (any_later _ g h before is))

-- what the tap has seen grows
down_seen : (f g : Front Note Limits) (r : Result (Unit {0}) DownFault) → GoesDown f g r → IsPrefix f.seen g.seen
down_seen f g (Ok done) h = served_seen f g h.found h.own h.hold.serves
down_seen f g (Err (downs.Refused e)) h = served_seen f g h.found h.own h.hold.serves
down_seen f g (Err downs.Spent) h = spent_seen f g h

fails_seen : (f g : Front Note Limits) (r : Result Failed FailFault) → Fails f g r → IsPrefix f.seen g.seen
fails_seen f g (Ok x) h = served_seen f g h.found h.own h.hold.serves
fails_seen f g (Err (fails.Refused e)) h = served_seen f g h.found h.own h.hold.serves
fails_seen f g (Err fails.Spent) h = spent_seen f g h

stopped_seen : (f g : Front Note Limits) (s : Option FailFault) → StopsGivingUp f g s → IsPrefix f.seen g.seen
stopped_seen f g (Some e) h = fails_seen f g (Err e) h
stopped_seen f g None h = self f.seen g.seen (ap (λ x. x.seen) h)

refused_seen : (now : ℕ) (f g : Front Note Limits) (s : Option TakeFault) → StopsTaking now f g s → IsPrefix f.seen g.seen
refused_seen now f g (Some e) h = take_seen f g now (Err e) h
refused_seen now f g None h = self f.seen g.seen (ap (λ x. x.seen) h)

taken_seen : (now : ℕ) (f g : Front Note Limits) (all : List Sent) → Runs (TakesOne now) f all g → IsPrefix f.seen g.seen
unfolding Runs
taken_seen now f g [] r = self f.seen g.seen (ap (λ x. x.seen) r)
taken_seen now f g (s ∷ all) r = longer f.seen r.0.seen g.seen (take_seen f r.0 now (Ok s) r.1) (taken_seen now r.0 g all r.2)

given_seen : (f g : Front Note Limits) (given : List Failed) → Runs GivesUp f given g → IsPrefix f.seen g.seen
unfolding Runs
given_seen f g [] r = self f.seen g.seen (ap (λ x. x.seen) r)
given_seen f g (x ∷ given) r = longer f.seen r.0.seen g.seen (served_seen f r.0 r.1.found r.1.own r.1.hold.serves) (given_seen r.0 g given r.2)

stops_at : (now : ℕ) (f g : Front Note Limits) (s : Option TakeFault) → s ≡ Some (takings.Refused taking.QueueEmpty) → StopsTaking now f g s → TakeServes f g now (Err taking.QueueEmpty)
stops_at now f g s is h = subst (StopsTaking now f g) is h

gives_at : (f g : Front Note Limits) (s : Option FailFault) → s ≡ Some (fails.Refused failing.WindowEmpty) → StopsGivingUp f g s → FailServes f g (Err failing.WindowEmpty)
gives_at f g s is h = subst (StopsGivingUp f g) is h

lost_settles : (h : List Note) (v : Content) (f g : Front Note Limits) (lost : Lost) → AgreesWith h v → take_refusal v ≡ Some taking.QueueEmpty → IsPrefix h f.seen
    → lost.end ≡ Some (fails.Refused failing.WindowEmpty) → Loses f g lost → AreSettled h g.seen
lost_settles h v f g lost a empty before is (down, falls, (last, given, stops)) =
    let w = gives_at last g lost.end is stops in
    let later = longer h f.seen w.found before (longer f.seen down.seen w.found (down_seen f down lost.down falls) (longer down.seen last.seen w.found (given_seen down last lost.given given) w.hold.serves.begins)) in
    settled_wider h h w.found g.seen (self h h refl) (settled_between h w.found v w.old a empty later w.hold.agrees w.told.0) (w.own, sym w.hold.serves.seen)

-- all that was accepted when the lane came up is settled after a round that found nothing more
round_settles : (now : ℕ) (f g : Front Note Limits) (r : Round) → (d : GoesRound now f r g) → HasEmptied r → AreSettled d.up.seen g.seen
round_settles now f g r d e =
    let t = stops_at now d.takes.last d.full r.stop e.0 d.takes.stops in
    let before = longer d.up.seen d.takes.last.seen t.found (taken_seen now d.up d.takes.last r.taken d.takes.runs) t.hold.serves.begins in
    settled_wider d.up.seen t.found g.seen g.seen before
    (lost_settles t.found t.old d.full g r.lost t.hold.agrees t.told.0 (t.own, sym t.hold.serves.seen) e.1 d.loses) (self g.seen g.seen refl)

-- a lane that said that its window is empty is down
lost_down : (f g : Front Note Limits) (lost : Lost) → lost.end ≡ Some (fails.Refused failing.WindowEmpty) → Loses f g lost → is_up (entries_of g.seen) ≡ false
lost_down f g lost is (down, falls, (last, given, stops)) =
    let w = gives_at last g lost.end is stops in
    sym w.left.after.up ∙ ap (λ (v : Content). v.up) w.told.1.1 ∙ down_at w.old.up (length w.old.window == 0) w.told.0

pub lost_seen : (f g : Front Note Limits) (lost : Lost) → Loses f g lost → IsPrefix f.seen g.seen
lost_seen f g lost (down, falls, (last, given, stops)) =
    longer f.seen down.seen g.seen (down_seen f down lost.down falls) (longer down.seen last.seen g.seen (given_seen down last lost.given given) (stopped_seen last g lost.end stops))

takes_seen : (now : ℕ) (f g : Front Note Limits) (taken : List Sent) (s : Option TakeFault) → TakesAll now f g taken s → IsPrefix f.seen g.seen
takes_seen now f g taken s t = longer f.seen t.last.seen g.seen (taken_seen now f t.last taken t.runs) (refused_seen now t.last g s t.stops)

round_seen : (now : ℕ) (f g : Front Note Limits) (r : Round) (d : GoesRound now f r g) → IsPrefix d.up.seen g.seen
round_seen now f g r d = longer d.up.seen d.full.seen g.seen (takes_seen now d.up d.full r.taken r.stop d.takes) (lost_seen d.full g r.lost d.loses)

pub rounds_seen : (now : ℕ) (f g : Front Note Limits) (rs : List Round) → Runs (GoesRound now) f rs g → IsPrefix f.seen g.seen
unfolding Runs
rounds_seen now f g [] r = self f.seen g.seen (ap (λ x. x.seen) r)
rounds_seen now f g (x ∷ rs) r =
    longer f.seen r.0.seen g.seen (longer f.seen r.1.up.seen r.0.seen (rise_seen f r.1.up x.rise r.1.rises) (round_seen now f r.0 x r.1)) (rounds_seen now r.0 g rs r.2)

-- the first time that the lane came up is no later than the last
pub leaves_none : (now : ℕ) (f m g : Front Note Limits) (rs : List Round) (r : Round) → Runs (GoesRound now) f rs m → GoesRound now m r g → HasEmptied r → LeavesNone f g
unfolding Runs
leaves_none now f m g [] r same d e = record { up = d.up; rise = r.rise; rises = subst (λ (x : Front Note Limits). Rises x d.up r.rise) same d.rises; settled = round_settles now m g r d e; down = lost_down d.full g r.lost e.1 d.loses }
leaves_none now f m g (x ∷ rs) r ran d e = record {
  up = ran.1.up;
  rise = x.rise;
  rises = ran.1.rises;
  settled = settled_wider ran.1.up.seen d.up.seen g.seen g.seen
      (longer ran.1.up.seen ran.0.seen d.up.seen (round_seen now f ran.0 x ran.1) (longer ran.0.seen m.seen d.up.seen (rounds_seen now ran.0 m rs ran.2) (rise_seen m d.up r.rise d.rises)))
      (round_settles now m g r d e) (self g.seen g.seen refl);
  down = lost_down d.full g r.lost e.1 d.loses;
}
