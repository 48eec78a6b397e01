-- The rows of clients after a history, and after a note more.
use Rattle.std.proofs.Common.{◌≡◌, ◌-◌, ◌==◌, ◌||◌, ℕ, Bool, true, false, cond, List, [], ◌∷◌, ◌++◌, length, map, drop, refl, sym, ◌∙◌, ap, subst, Some, None}
use Rattle.std.specs.Prelude.{is_some}
use Rattle.std.specs.List.{list_any, AllByRecursion}
use Rattle.std.proofs.lemmas.Bool.{eqb-true, eqb-false, cond_both}
use Rattle.smx_history.specs.declared.entry.Entry.{Entry}
use Rattle.smx_history.specs.declared.note.Note.{Note}
use Rattle.smx_history.specs.Prefixes.{AtEach, last_or}
use Rattle.smx_history.specs.Entries.{is_admit, is_accept, is_collect, is_retire, accepts_of, collects_of, is_admitted, is_retired, present}
use Rattle.smx_history.specs.Legal.{IsPaired}
use Rattle.smx_history.specs.History.{entry_in, entries_of, responses, response_in}
use Rattle.smx_history.specs.Contents.{AgreesWith, IsAfter, Content, Member, as_shown, member_after, members_after}
use Rattle.smx_history.specs.Replies.{member_with, is_present, waiting_in, waiting_after}
use Rattle.smx_history.proofs.Updates.{with_row}
use Rattle.smx_history.proofs.Frames.{accepts_of-other, collects_of-other, present-other}
use Rattle.smx_history.proofs.Reading.{entries_of-push, responses-other, shown-kept, All-to_map, All-each}
use Rattle.smx_history.proofs.Sizes.{present_served}

-- what the row of a client has, and what the history says of the client
pub record IsRow (h : List Note) (c : ℕ) (m : Member) : Type 0 where
  pub admitted : is_admitted m.by c (entries_of h) ≡ true
  pub stays : is_retired c (entries_of h) ≡ false
  pub last : m.last ≡ last_or 0 (map (λ e. e.ordinal) (accepts_of c (entries_of h)))
  pub pending : m.pending ≡ length (accepts_of c (entries_of h)) - length (collects_of c (entries_of h))
  pub waiting : m.waiting ≡ drop (length (collects_of c (entries_of h))) (map (as_shown (entries_of h) c) (responses c h))

row_found_in : (h : List Note) (c : ℕ) (m : Member) (us : List Entry) → AllByRecursion (λ a. (is_admitted a.by a.client (entries_of h) ≡ true) × (is_retired a.client (entries_of h) ≡ false)) us → member_with c (map (member_after h) us) ≡ Some m → IsRow h c m
row_found_in h c m [] served found = absurd (let e : None ≡ Some m = found in cc)
row_found_in h c m (a ∷ us) served found = at (a.client == c) refl found (row_found_in h c m us served.1)
  where
    at : (b : Bool) → (a.client == c) ≡ b → cond b (Some (member_after h a)) (member_with c (map (member_after h) us)) ≡ Some m → (member_with c (map (member_after h) us) ≡ Some m → IsRow h c m) → IsRow h c m
    at true e f later =
        let same : member_after h a ≡ m = cc in
        let here : IsRow h a.client (member_after h a) = record { admitted = served.0.0; stays = served.0.1; last = refl; pending = refl; waiting = refl } in
        subst (λ x. IsRow h c x) same (subst (λ d. IsRow h d (member_after h a)) (eqb-true a.client c e) here)
    at false e f later = later f

pub row_found : (h : List Note) (v : Content) (c : ℕ) (m : Member) → IsAfter h v → member_with c v.members ≡ Some m → IsRow h c m
row_found h v c m a found = row_found_in h c m (present (entries_of h)) (present_served (entries_of h)) (ap (member_with c) (sym a.members) ∙ found)

-- what holds of the row of each admit that is present holds of each row
pub each_row : (P : Entry → Type 0) (Q : Member → Type 0) (h : List Note) (v : Content) → ((a : Entry) → P a → Q (member_after h a)) → AllByRecursion P (present (entries_of h)) → IsAfter h v → AllByRecursion Q v.members
each_row P Q h v each all a =
    subst (λ ms. AllByRecursion Q ms) (sym a.members) (All-to_map Q (member_after h) (present (entries_of h)) (All-each P (λ x. Q (member_after h x)) each (present (entries_of h)) all))

-- a client has a row where it is present
row_present : (h : List Note) (c : ℕ) (us : List Entry) → is_some (member_with c (map (member_after h) us)) ≡ list_any (λ a. a.client == c) us
row_present h c [] = refl
row_present h c (a ∷ us) = at (a.client == c) (row_present h c us)
  where
    at : (b : Bool) → is_some (member_with c (map (member_after h) us)) ≡ list_any (λ x. x.client == c) us → is_some (cond b (Some (member_after h a)) (member_with c (map (member_after h) us))) ≡ (b || list_any (λ x. x.client == c) us)
    at true later = refl
    at false later = later

pub is_present-any : (h : List Note) (c : ℕ) → is_present c h ≡ list_any (λ a. a.client == c) (present (entries_of h))
unfolding is_present
is_present-any h c = row_present h c (present (entries_of h))

pub absent : (h : List Note) (v : Content) (c : ℕ) → AgreesWith h v → member_with c v.members ≡ None → is_present c h ≡ false
unfolding is_present
absent h v c a none = ap (λ ms. is_some (member_with c ms)) (sym a.after.members) ∙ ap is_some none

pub found_present : (h : List Note) (v : Content) (c : ℕ) (m : Member) → AgreesWith h v → member_with c v.members ≡ Some m → is_present c h ≡ true
unfolding is_present
found_present h v c m a found = ap (λ ms. is_some (member_with c ms)) (sym a.after.members) ∙ ap is_some found

-- and its responses wait there
pub waiting_same : (h : List Note) (v : Content) (c : ℕ) → AgreesWith h v → waiting_in (member_with c v.members) ≡ waiting_after h c
unfolding waiting_after
waiting_same h v c a = ap (λ ms. waiting_in (member_with c ms)) a.after.members

-- a note that adds no accept, collect and response of a client leaves its row
pub row-same : (h : List Note) (n : Note) (e a : Entry) → entry_in n ≡ Some e → accepts_of a.client (entries_of h ++ e ∷ []) ≡ accepts_of a.client (entries_of h) → collects_of a.client (entries_of h ++ e ∷ []) ≡ collects_of a.client (entries_of h)
    → response_in a.client n.event ≡ None → AtEach (λ before e. IsPaired e.kind before e) (entries_of h) → member_after (h ++ n ∷ []) a ≡ member_after h a
row-same h n e a entry accepts collects none paired =
    rw (entries_of-push h n e entry, accepts, collects, responses-other a.client h n none, shown-kept a.client h (e ∷ []) paired) refl

pub row-other : (h : List Note) (n : Note) (e a : Entry) → entry_in n ≡ Some e → is_accept e.kind ≡ false → is_collect e.kind ≡ false → response_in a.client n.event ≡ None
    → AtEach (λ before e. IsPaired e.kind before e) (entries_of h) → member_after (h ++ n ∷ []) a ≡ member_after h a
row-other h n e a entry accept collect none paired = row-same h n e a entry (accepts_of-other a.client (entries_of h) e accept) (collects_of-other a.client (entries_of h) e collect) none paired

cons_same : {X : Type 0} {x y : X} {xs ys : List X} → x ≡ y → xs ≡ ys → x ∷ xs ≡ y ∷ ys
cons_same p q = λ i. p i ∷ q i

pub rows_each : (f g : Entry → Member) → ((a : Entry) → f a ≡ g a) → (us : List Entry) → map f us ≡ map g us
rows_each f g same [] = refl
rows_each f g same (a ∷ us) = cons_same (same a) (rows_each f g same us)

rows_changed : (f g : Entry → Member) (c : ℕ) (change : Member → Member) → ((a : Entry) → (f a).client ≡ c → change (f a) ≡ g a) → ((a : Entry) → ((f a).client ≡ c → ⊥) → f a ≡ g a) → (us : List Entry) → with_row c change (map f us) ≡ map g us
rows_changed f g c change here there [] = refl
rows_changed f g c change here there (a ∷ us) =
    cons_same (cond_both ((f a).client == c) (change (f a)) (f a) (λ m. m ≡ g a) (λ e. here a (eqb-true (f a).client c e)) (λ e. there a (eqb-false (f a).client c e))) (rows_changed f g c change here there us)

rows_without : (f g : Entry → Member) (c : ℕ) → ((a : Entry) → ((f a).client ≡ c → ⊥) → f a ≡ g a) → (us : List Entry) → member_with c (map f us) ≡ None → map f us ≡ map g us
rows_without f g c there [] none = refl
rows_without f g c there (a ∷ us) none = at ((f a).client == c) refl none (rows_without f g c there us)
  where
    at : (b : Bool) → ((f a).client == c) ≡ b → cond b (Some (f a)) (member_with c (map f us)) ≡ None → (member_with c (map f us) ≡ None → map f us ≡ map g us) → map f (a ∷ us) ≡ map g (a ∷ us)
    at true e n later = absurd (let z : Some (f a) ≡ None = n in cc)
    at false e n later = cons_same (there a (eqb-false (f a).client c e)) (later n)

-- where nobody comes or goes, the rows of the present are kept, changed at one client, or kept beside a client without a row
module _ (h : List Note) (n : Note) (e : Entry) (v : Content) (entry : entry_in n ≡ Some e) (admit : is_admit e.kind ≡ false) (retire : is_retire e.kind ≡ false) (a : IsAfter h v) where
  same_present : map (member_after (h ++ n ∷ [])) (present (entries_of h)) ≡ members_after (h ++ n ∷ [])
  same_present = ap (map (member_after (h ++ n ∷ []))) (sym (ap present (entries_of-push h n e entry) ∙ present-other (entries_of h) e admit retire))

  pub rows-kept : ((x : Entry) → member_after (h ++ n ∷ []) x ≡ member_after h x) → v.members ≡ members_after (h ++ n ∷ [])
  rows-kept each = a.members ∙ rows_each (member_after h) (member_after (h ++ n ∷ [])) (λ x. sym (each x)) (present (entries_of h)) ∙ same_present

  pub rows-changed : (c : ℕ) (change : Member → Member) → ((x : Entry) → x.client ≡ c → change (member_after h x) ≡ member_after (h ++ n ∷ []) x) → ((x : Entry) → (x.client ≡ c → ⊥) → member_after (h ++ n ∷ []) x ≡ member_after h x) → with_row c change v.members ≡ members_after (h ++ n ∷ [])
  rows-changed c change here there =
      ap (with_row c change) a.members
      ∙ rows_changed (member_after h) (member_after (h ++ n ∷ [])) c change here (λ x apart. sym (there x apart)) (present (entries_of h)) ∙ same_present

  pub rows-beside : (c : ℕ) → member_with c v.members ≡ None → ((x : Entry) → (x.client ≡ c → ⊥) → member_after (h ++ n ∷ []) x ≡ member_after h x) → v.members ≡ members_after (h ++ n ∷ [])
  rows-beside c none there =
      a.members
      ∙ rows_without (member_after h) (member_after (h ++ n ∷ [])) c (λ x apart. sym (there x apart)) (present (entries_of h)) (ap (member_with c) (sym a.members) ∙ none) ∙ same_present
