-- The rows of a lane that only the one caller fed.
use Rattle.std.proofs.Common.{◌≡◌, ◌<◌, ◌≤◌, ◌+◌, ◌==◌, ◌&&◌, ℕ, Bool, true, false, cond, not, List, [], ◌∷◌, map, refl, ◌∙◌, ap, subst, arith, Option, Some}
use Rattle.std.specs.Prelude.{unwrap_or}
use Rattle.std.specs.List.{AllByRecursion}
use Rattle.std.proofs.lemmas.Bool.{eqb-true, and_parts}
use Rattle.smx_history.specs.declared.entry.Entry.{Entry}
use Rattle.smx_history.specs.declared.note.Note.{Note}
use Rattle.smx_history.specs.Prefixes.{last_or}
use Rattle.smx_history.specs.Entries.{is_accept, is_admit, is_retired, accepts_of, admits, present}
use Rattle.smx_history.specs.History.{entries_of}
use Rattle.smx_history.specs.Contents.{AgreesWith, Content}
use Rattle.smx_history.proofs.Reading.{All-kept, All-each}
use Rattle.smx_history.proofs.Rows.{each_row}
use Rattle.smx_lines.specs.Lanes.{IsOwnEntry, AreOwnEntries, last_of}
use Rattle.smx_lines.specs.Private.Lanes.{AreOurs}

pub ours_of_own : (clients : List (Option ℕ)) (h : List Note) → AreOwnEntries clients h → AreOurs h
ours_of_own clients h own = All-each (IsOwnEntry clients) (λ e. e.by ≡ 0) (λ e is. is.by) (entries_of h) own

ours_present : (h : List Note) → AreOurs h → AllByRecursion (λ e. e.by ≡ 0) (present (entries_of h))
ours_present h ours =
    All-kept (λ (e : Entry). e.by ≡ 0) (λ a. not (is_retired a.client (entries_of h))) (admits (entries_of h)) (All-kept (λ (e : Entry). e.by ≡ 0) (λ e. is_admit e.kind) (entries_of h) ours)

-- each row is the one caller's
pub rows_ours : (h : List Note) (v : Content) (c : ℕ) → AgreesWith h v → AreOurs h → AllByRecursion (λ m. m.client ≡ c → m.by ≡ 0) v.members
rows_ours h v c a ours =
    each_row (λ e. e.by ≡ 0) (λ m. m.client ≡ c → m.by ≡ 0) h v (λ e by _. by) (ours_present h ours) a.after

-- the last of numbers up to n is up to n
last_up_to : (low n : ℕ) (xs : List ℕ) → low ≤ n → AllByRecursion (λ x. x ≤ n) xs → last_or low xs ≤ n
last_up_to low n [] le all = le
last_up_to low n (x ∷ xs) le all = last_up_to x n xs all.0 all.1

accepts_up_to : (clients : List (Option ℕ)) (c n : ℕ) (es : List Entry) → last_of clients c ≡ Some n → AllByRecursion (IsOwnEntry clients) es → AllByRecursion (λ x. x ≤ n) (map (λ e. e.ordinal) (accepts_of c es))
accepts_up_to clients c n [] last own = tt
accepts_up_to clients c n (e ∷ es) last own = at (is_accept e.kind && (e.client == c)) refl (accepts_up_to clients c n es last own.1)
  where
    at : (b : Bool) → (is_accept e.kind && (e.client == c)) ≡ b → AllByRecursion (λ x. x ≤ n) (map (λ e. e.ordinal) (accepts_of c es)) → AllByRecursion (λ x. x ≤ n) (map (λ e. e.ordinal) (cond b (e ∷ accepts_of c es) (accepts_of c es)))
    at true is later =
        let both = and_parts _ _ is in
        let most : unwrap_or (last_of clients e.client) 0 ≡ n = ap (λ d. unwrap_or (last_of clients d) 0) (eqb-true e.client c both.1) ∙ ap (λ o. unwrap_or o 0) last in
        (subst (λ k. e.ordinal ≤ k) most (own.0.known both.0), later)
    at false is later = later

-- the next ordinal of a client is above its last one on each lane
pub rows_below : (clients : List (Option ℕ)) (h : List Note) (v : Content) (c n : ℕ) → AgreesWith h v → AreOwnEntries clients h → last_of clients c ≡ Some n → AllByRecursion (λ m. m.client ≡ c → (m.last < n + 1) × (m.by ≡ 0)) v.members
rows_below clients h v c n a own last =
    each_row (λ e. e.by ≡ 0) (λ m. m.client ≡ c → (m.last < n + 1) × (m.by ≡ 0)) h v
    (λ e by is.
    let most = last_up_to 0 n (map (λ x. x.ordinal) (accepts_of c (entries_of h))) (omega arith) (accepts_up_to clients c n (entries_of h) last own) in
    let here : last_or 0 (map (λ x. x.ordinal) (accepts_of e.client (entries_of h))) ≡ last_or 0 (map (λ x. x.ordinal) (accepts_of c (entries_of h))) = ap (λ d. last_or 0 (map (λ x. x.ordinal) (accepts_of d (entries_of h)))) is in
    (omega (arith, most, here), by))
    (ours_present h (ours_of_own clients h own)) a.after
