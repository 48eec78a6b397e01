-- Collecting what waits on a lane, one response after another.
use Rattle.std.proofs.Common.{◌≡◌, ◌<◌, ℕ, List, [], ◌∷◌, ◌++◌, length, map, drop, refl, sym, ◌∙◌, ap, subst, arith, Some, None, slice_get, append_assoc}
use Rattle.std.specs.List.{flat_map, AllByRecursion}
use Rattle.std.proofs.lemmas.List.{append-nil, map_push}
use Rattle.std.proofs.lemmas.Grind.{flat_map-append}
use Rattle.smx_pdu.specs.declared.pdu.Pdu.{Pdu}
use Rattle.smx_history.specs.declared.note.Note.{Note}
use Rattle.smx_history.specs.declared.note.Event.TheVariants.{Collect}
use Rattle.smx_history.specs.declared.response.Response.{Response}
use Rattle.smx_history.specs.History.{note, entries_of, entry_by}
use Rattle.smx_history.specs.Contents.{AgreesWith, Content}
use Rattle.smx_history.specs.Replies.{member_with, waiting_in, waiting_after}
use Rattle.smx_history.specs.Answering.{IsCollected}
use Rattle.smx_history.proofs.ListPushes.{All-push}
use Rattle.smx_history.proofs.Reading.{entries_of-push}
use Rattle.smx_history.proofs.CollectAgrees.{waiting-collected}
use Rattle.smx_history.proofs.Rows.{waiting_same}
use Rattle.smx_lines.specs.Texts.{pdu_line, to_client}
use Rattle.smx_lines.specs.Relay.{collect_text, collect_lane}
use Rattle.smx_lines.specs.Private.Lanes.{TurnsLane, AreOurs}

-- the notes of collects
unfoldable pub collects : ℕ → List Response → List Note
collects c rs = map (λ (r : Response). note 0 (Collect c r.ordinal)) rs

unfoldable pub lines : ℕ → List Response → List ℕ
lines c rs = flat_map (λ (r : Response). pdu_line (to_client c) r.pdu) rs

-- some responses were collected and printed, and the rest waits
pub record IsCollecting (c : ℕ) (h : List Note) (v : Content) (text : List ℕ) (done rest : List Response) : Type 0 where
  pub all : waiting_after h c ≡ done ++ rest
  pub agrees : AgreesWith (h ++ collects c done) v
  pub left : waiting_after (h ++ collects c done) c ≡ rest
  pub printed : text ≡ lines c done

abbrev pub Collecting : ℕ → Content → Content → List ℕ → Type 0
Collecting c old v text = (h : List Note) → AgreesWith h old → (done : List Response) × (rest : List Response) × IsCollecting c h v text done rest

pub collecting_start : (c : ℕ) (old : Content) (text : List ℕ) → text ≡ [] → Collecting c old old text
unfolding collects lines
collecting_start c old text none h a = ([], waiting_after h c, record { all = refl; agrees = rw append-nil a; left = ap (λ g. waiting_after g c) (append-nil h); printed = none })

first_of : (rest : List Response) (r : Response) → slice_get rest 0 ≡ Some r → rest ≡ r ∷ drop 1 rest
first_of [] r e = absurd (let x : None ≡ Some r = e in cc)
first_of (x ∷ xs) r e = let same : x ≡ r = cc in ap (λ y. y ∷ xs) same

pub collecting_more : (c : ℕ) (old v new : Content) (p : Pdu) (text more : List ℕ) → IsCollected v 0 c (Some p) new → more ≡ text ++ pdu_line (to_client c) p → Collecting c old v text → Collecting c old new more
unfolding collects lines
collecting_more c old v new p text more got e so_far h a =
    let x = so_far h a in
    let done = x.0 in
    let r = got.0 in
    let g = h ++ collects c done in
    let front : x.1 ≡ r ∷ drop 1 x.1 = first_of x.1 r (ap (λ rs. slice_get rs 0) (sym x.2.left) ∙ ap (λ rs. slice_get rs 0) (sym (waiting_same g v c x.2.agrees)) ∙ got.1) in
    let history : h ++ collects c (done ++ r ∷ []) ≡ g ++ note 0 (Collect c r.ordinal) ∷ [] =
    ap (λ ns. h ++ ns) (map_push (λ (q : Response). note 0 (Collect c q.ordinal)) done r) ∙ sym (append_assoc h (collects c done) (note 0 (Collect c r.ordinal) ∷ [])) in
    let printed : lines c (done ++ r ∷ []) ≡ lines c done ++ pdu_line (to_client c) r.pdu =
    flat_map-append (λ (q : Response). pdu_line (to_client c) q.pdu) done (r ∷ []) ∙ ap (λ t. lines c done ++ t) (append-nil (pdu_line (to_client c) r.pdu)) in (
      done ++ r ∷ [],
      drop 1 x.1,
      record {
        all = x.2.all ∙ ap (λ rs. done ++ rs) front ∙ sym (append_assoc done (r ∷ []) (drop 1 x.1));
        agrees = subst (λ ns. AgreesWith ns new) (sym history) (got.3 g x.2.agrees);
        left = ap (λ ns. waiting_after ns c) history ∙ waiting-collected g v 0 c r.ordinal x.2.agrees ∙ ap (drop 1) x.2.left;
        printed = e ∙ ap (λ t. t ++ pdu_line (to_client c) p) x.2.printed ∙ ap (λ q. lines c done ++ pdu_line (to_client c) q) (sym got.2) ∙ sym printed;
      },
    )

none_left : (rest : List Response) → slice_get rest 0 ≡ None → rest ≡ []
none_left [] e = refl
none_left (x ∷ xs) e = absurd (let y : Some x ≡ None = e in cc)

pub collecting_end : (c : ℕ) (old v new : Content) (text : List ℕ) → IsCollected v 0 c None new → new.limits ≡ old.limits → Collecting c old v text → (h : List Note) → AgreesWith h old → TurnsLane (collect_text c h, collect_lane c h) old new text
unfolding collects lines
collecting_end c old v new text got limits so_far h a =
    let x = so_far h a in
    let g = h ++ collects c x.0 in
    let none : x.1 ≡ [] = none_left x.1 (ap (λ rs. slice_get rs 0) (sym x.2.left) ∙ ap (λ rs. slice_get rs 0) (sym (waiting_same g v c x.2.agrees)) ∙ got.0) in
    let whole : x.0 ≡ waiting_after h c = sym (x.2.all ∙ ap (λ rs. x.0 ++ rs) none ∙ append-nil x.0) in
    record {
      text = x.2.printed ∙ ap (λ rs. lines c rs) whole;
      agrees = subst (λ w. AgreesWith w new) (ap (λ rs. h ++ collects c rs) whole) (rw got.1 x.2.agrees);
      limits_are = limits;
    }

-- only the one caller fed the lane
abbrev pub IsFed : Content → Type 0
IsFed v = (h : List Note) × AgreesWith h v × AreOurs h

pub fed_more : (c : ℕ) (v new : Content) (p : Pdu) → IsCollected v 0 c (Some p) new → IsFed v → IsFed new
fed_more c v new p got fed =
    let n = note 0 (Collect c got.0.ordinal) in
    (fed.0 ++ n ∷ [], got.3 fed.0 fed.1, subst (AllByRecursion (λ e. e.by ≡ 0)) (sym (entries_of-push fed.0 n (entry_by 0 (Collect c got.0.ordinal)) refl)) (All-push (λ e. e.by ≡ 0) (entries_of fed.0) (entry_by 0 (Collect c got.0.ordinal)) fed.2 refl))

pub box_smaller : (c : ℕ) (v new : Content) (p : Pdu) → IsCollected v 0 c (Some p) new → IsFed v → length (waiting_in (member_with c new.members)) < length (waiting_in (member_with c v.members))
box_smaller c v new p got fed =
    let h = fed.0 in
    let longer = got.3 h fed.1 in
    let was = waiting_same h v c fed.1 in
    let front = first_of (waiting_after h c) got.0 (ap (λ rs. slice_get rs 0) (sym was) ∙ got.1) in
    let is : waiting_in (member_with c new.members) ≡ drop 1 (waiting_after h c) = waiting_same (h ++ note 0 (Collect c got.0.ordinal) ∷ []) new c longer ∙ waiting-collected h v 0 c got.0.ordinal fed.1 in
    omega (arith, ap length is, ap length was, ap length front)
