-- Takes bear numbers in turn, and no other note tells of numbers and moments.
use Rattle.std.proofs.Common.{◌≡◌, ◌<◌, ◌+◌, ◌%◌, ◌==◌, ℕ, Bool, true, false, cond, List, [], ◌∷◌, ◌++◌, length, set, refl, sym, ◌∙◌, ap, arith, count_by, Option, Some, None, slice_get, zero, suc, inl, inr, filter_map}
use Rattle.std.specs.Prelude.{unwrap_or}
use Rattle.std.specs.List.{cons_option}
use Rattle.std.specs.Option.{option_map}
use Rattle.std.proofs.lemmas.Bool.{cases_eq, eq-eqb, ne_eqb}
use Rattle.std.proofs.lemmas.List.{append-nil, ext_get_or, length-set}
use Rattle.std.proofs.lemmas.List.FromFn.{get_or-map-range_with_len, length-map-range_with_len}
use Rattle.std.proofs.lemmas.List.Elements.{filter_map-append}
use Rattle.std.proofs.lemmas.Option.{slice_get-get_or, unwrap_or-slice_get}
use Rattle.std.proofs.Math.Nat.{mod-add-mod}
use Rattle.smx_history.specs.declared.note.Event.{Event}
use Rattle.smx_history.specs.declared.note.Event.TheVariants.{Admit, Accept, Take, Answer, Late, Collect, Retire, Fail, Down, Up}
use Rattle.smx_history.specs.declared.entry.Entry.{Entry}
use Rattle.smx_history.specs.declared.note.Note.{Note}
use Rattle.smx_history.specs.Prefixes.{last_or}
use Rattle.smx_history.specs.Entries.{is_take, numbers}
use Rattle.smx_history.specs.Numbers.{place_in, generation_in, generation_after, generations_after, AreNumbered}
use Rattle.smx_history.specs.History.{entry_by, entry_in, note, entries_of, moment_in, latest_after}
use Rattle.smx_history.specs.Contents.{Content, IsAfter}
use Rattle.smx_history.proofs.Updates.{following}
use Rattle.smx_history.proofs.ListPushes.{AtEach-push, All-push, last_or-push}
use Rattle.smx_history.proofs.Counts.{count_by-push}
use Rattle.smx_history.proofs.Frames.{numbers-other}
use Rattle.smx_history.proofs.Reading.{entries_of-push}

untimed : (by : ℕ) (event : Option Event) (e : Entry) → option_map (entry_by by) event ≡ Some e → is_take e.kind ≡ false → moment_in event ≡ None
untimed by None e is k = refl
untimed by (Some (Take c n u t)) e is k =
    let same : entry_by by (Take c n u t) ≡ e = cc in
    let clash : true ≡ false = ap (λ (x : Entry). is_take x.kind) same ∙ k in
    cc
untimed by (Some (Admit c)) e is k = refl
untimed by (Some (Accept r)) e is k = refl
untimed by (Some (Answer c n p)) e is k = refl
untimed by (Some (Late c n u x)) e is k = refl
untimed by (Some (Collect c n)) e is k = refl
untimed by (Some (Retire c)) e is k = refl
untimed by (Some (Fail c n u x)) e is k = refl
untimed by (Some Down) e is k = refl
untimed by (Some Up) e is k = refl

pub latest-other : (h : List Note) (n : Note) → moment_in n.event ≡ None → latest_after (h ++ n ∷ []) ≡ latest_after h
latest-other h n none =
    ap (last_or 0) (filter_map-append (λ x. moment_in x.event) h (n ∷ []) ∙ ap (λ o. filter_map (λ (x : Note). moment_in x.event) h ++ cons_option o []) none ∙ append-nil (filter_map (λ x. moment_in x.event) h))

-- a note of another kind leaves the numbers, so the generations, and the moment of the last take
pub numbers_of-other : (h : List Note) (n : Note) (e : Entry) → entry_in n ≡ Some e → is_take e.kind ≡ false → numbers (entries_of (h ++ n ∷ [])) ≡ numbers (entries_of h)
numbers_of-other h n e is k = ap numbers (entries_of-push h n e is) ∙ numbers-other (entries_of h) e k

pub generations-kept : (h : List Note) (n : Note) (e : Entry) (v : Content) → entry_in n ≡ Some e → is_take e.kind ≡ false → IsAfter h v → v.generations ≡ generations_after v.limits.window (numbers (entries_of (h ++ n ∷ [])))
generations-kept h n e v is k a = a.generations ∙ ap (generations_after v.limits.window) (sym (numbers_of-other h n e is k))

pub latest-kept : (h : List Note) (n : Note) (e : Entry) (v : Content) → entry_in n ≡ Some e → is_take e.kind ≡ false → IsAfter h v → v.latest ≡ latest_after (h ++ n ∷ [])
latest-kept h n e v is k a = a.latest ∙ sym (latest-other h n (untimed n.by n.event e is k))

-- what a write at an index leaves
at_written : {X : Type 0} (xs : List X) (i : ℕ) (x : X) → i < length xs → slice_get (set xs i x) i ≡ Some x
at_written [] i x lt = absurd (omega arith)
at_written (y ∷ xs) zero x lt = refl
at_written (y ∷ xs) (suc i) x lt = at_written xs i x (omega (arith, lt))

beside_written : {X : Type 0} (xs : List X) (i k : ℕ) (x : X) → (k ≡ i → ⊥) → slice_get (set xs i x) k ≡ slice_get xs k
beside_written [] i k x apart = refl
beside_written (y ∷ xs) zero zero x apart = absurd (apart refl)
beside_written (y ∷ xs) zero (suc k) x apart = refl
beside_written (y ∷ xs) (suc i) zero x apart = refl
beside_written (y ∷ xs) (suc i) (suc k) x apart = beside_written xs i k x (λ e. apart (ap suc e))

generation-next : (k u : ℕ) (ns : List ℕ) → place_in u ≡ k → generation_after k (ns ++ u ∷ []) ≡ following (generation_after k ns)
generation-next k u ns same =
    let p : ℕ → Bool = λ x. place_in x == k in
    let one : cond (p u) 1 0 ≡ suc 0 = ap {B = ℕ} (λ b. cond b 1 0) (eq-eqb (place_in u) k same) in
    let more : count_by p (ns ++ u ∷ []) ≡ count_by p ns + 1 = omega (arith, count_by-push p ns u, one) in
    ap (λ n. n % 2097151) more ∙ sym (mod-add-mod (count_by p ns) 2097151 1)

generation-beside : (k u : ℕ) (ns : List ℕ) → (place_in u ≡ k → ⊥) → generation_after k (ns ++ u ∷ []) ≡ generation_after k ns
generation-beside k u ns apart =
    let p : ℕ → Bool = λ x. place_in x == k in
    let none : cond (p u) 1 0 ≡ 0 = ap {B = ℕ} (λ b. cond b 1 0) (ne_eqb (place_in u) k apart) in
    let same : count_by p (ns ++ u ∷ []) ≡ count_by p ns = omega (arith, count_by-push p ns u, none) in
    ap (λ n. n % 2097151) same

-- the number is that of a place of the window, and of its next generation
pub record IsNextNumber (window : ℕ) (gs : List ℕ) (u : ℕ) : Type 0 where
  pub within : place_in u < window
  pub generation : slice_get gs (place_in u) ≡ Some (generation_in u)

-- the generations are those of the history where each is
listed : (window : ℕ) (gs ns : List ℕ) → length gs ≡ window → ((k : ℕ) → k < window → slice_get gs k ≡ Some (generation_after k ns)) → gs ≡ generations_after window ns
listed window gs ns long each = ext_get_or 0 gs (generations_after window ns) (long ∙ sym (length-map-range_with_len (λ k. generation_after k ns) 0 window)) (λ i lt.
    sym (unwrap_or-slice_get gs i 0) ∙ ap (λ o. unwrap_or o 0) (each i (omega (arith, lt, long)))
    ∙ sym (get_or-map-range_with_len (λ k. generation_after k ns) 0 window i i 0 (omega (arith, lt, long)) (omega arith)))

generation_at : (window k : ℕ) (ns : List ℕ) → k < window → slice_get (generations_after window ns) k ≡ Some (generation_after k ns)
generation_at window k ns lt =
    slice_get-get_or (generations_after window ns) k 0 (omega (arith, lt, length-map-range_with_len (λ j. generation_after j ns) 0 window))
    ∙ ap Some (get_or-map-range_with_len (λ j. generation_after j ns) 0 window k k 0 lt (omega arith))

generation_is : (window u : ℕ) (ns : List ℕ) → IsNextNumber window (generations_after window ns) u → generation_in u ≡ generation_after (place_in u) ns
generation_is window u ns next = let same : Some (generation_in u) ≡ Some (generation_after (place_in u) ns) = sym next.generation ∙ generation_at window (place_in u) ns next.within in cc

-- a take that bears such a number
pub numbered_taken : (window u : ℕ) (ns : List ℕ) → AreNumbered window ns → IsNextNumber window (generations_after window ns) u → AreNumbered window (ns ++ u ∷ [])
numbered_taken window u ns before next = record {
  within = All-push (λ m. place_in m < window) ns u before.within next.within;
  placed = AtEach-push (λ earlier m. generation_in m ≡ generation_after (place_in m) earlier) ns u before.placed (generation_is window u ns next);
}

pub generations_taken : (window u : ℕ) (ns : List ℕ) → IsNextNumber window (generations_after window ns) u → set (generations_after window ns) (place_in u) (following (generation_in u)) ≡ generations_after window (ns ++ u ∷ [])
generations_taken window u ns next =
    let gs = generations_after window ns in
    let g = following (generation_in u) in
    let long : length gs ≡ window = length-map-range_with_len (λ k. generation_after k ns) 0 window in
    listed window (set gs (place_in u) g) (ns ++ u ∷ []) (length-set gs (place_in u) g ∙ long) (λ k lt. elim (cases_eq k (place_in u)) [
      | inl same ↦
          ap (slice_get (set gs (place_in u) g)) same
          ∙ at_written gs (place_in u) g (omega (arith, long, next.within))
          ∙ ap (λ x. Some (following x)) (generation_is window u ns next) ∙ sym (ap Some (generation-next (place_in u) u ns refl))
          ∙ sym (ap (λ j. Some (generation_after j (ns ++ u ∷ []))) same)
      | inr apart ↦
          beside_written gs (place_in u) k g apart ∙ generation_at window k ns lt
          ∙ ap Some (sym (generation-beside k u ns (λ e. apart (sym e))))
    ])

pub latest_taken : (h : List Note) (by c n u t : ℕ) → latest_after (h ++ note by (Take c n u t) ∷ []) ≡ t
latest_taken h by c n u t = ap (last_or 0) (filter_map-append (λ y. moment_in y.event) h (note by (Take c n u t) ∷ [])) ∙ last_or-push 0 (filter_map (λ y. moment_in y.event) h) t
