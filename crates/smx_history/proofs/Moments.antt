-- The moment of a take is found again in a longer history.
use Rattle.std.proofs.Common.{◌≡◌, ◌==◌, ℕ, Bool, true, false, cond, ◌||◌, ◌&&◌, List, [], ◌∷◌, ◌++◌, refl, sym, ◌∙◌, ap, Option, Some, None, filter_map}
use Rattle.std.specs.List.{cons_option, AllByRecursion}
use Rattle.std.specs.Option.{option_map}
use Rattle.std.proofs.lemmas.Bool.{or_parts, and_from, eq-eqb}
use Rattle.std.proofs.lemmas.List.Elements.{filter_map-append}
use Rattle.smx_history.specs.declared.note.Event.{Event}
use Rattle.smx_history.specs.declared.note.Event.TheVariants.{Admit, Accept, Take, Answer, Late, Collect, Retire, Fail, Down, Up}
use Rattle.smx_history.specs.declared.entry.Entry.{Entry}
use Rattle.smx_history.specs.declared.note.Note.{Note}
use Rattle.smx_history.specs.Prefixes.{first_or}
use Rattle.smx_history.specs.Entries.{is_take, has_name, takes, is_taken}
use Rattle.smx_history.specs.History.{entry_by, note, entries_of, moment_named, moment_of}
use Rattle.smx_history.proofs.Reading.{All-from_get, All-filtered, any_at}

-- an event without such a moment is no take of that name
taken_later : (by c n : ℕ) (event : Option Event) (es : List Entry) → moment_named c n event ≡ None → is_taken c n (cons_option (option_map (entry_by by) event) es) ≡ true → is_taken c n es ≡ true
taken_later by c n None es none h = h
taken_later by c n (Some (Admit d)) es none h = h
taken_later by c n (Some (Accept r)) es none h = h
taken_later by c n (Some (Take d m u t)) es none h = at ((d == c) && (m == n)) none h
  where
    at : (b : Bool) → cond b (Some t) None ≡ None → (b || is_taken c n es) ≡ true → is_taken c n es ≡ true
    at true none h = cc
    at false none h = h
taken_later by c n (Some (Answer d m p)) es none h = h
taken_later by c n (Some (Late d m u k)) es none h = h
taken_later by c n (Some (Collect d m)) es none h = h
taken_later by c n (Some (Retire d)) es none h = h
taken_later by c n (Some (Fail d m u k)) es none h = h
taken_later by c n (Some Down) es none h = h
taken_later by c n (Some Up) es none h = h

-- and one with it is
taken_now : (by c n t : ℕ) (event : Option Event) (es : List Entry) → moment_named c n event ≡ Some t → is_taken c n (cons_option (option_map (entry_by by) event) es) ≡ true
taken_now by c n t None es some = cc
taken_now by c n t (Some (Admit d)) es some = cc
taken_now by c n t (Some (Accept r)) es some = cc
taken_now by c n t (Some (Take d m u s)) es some = at ((d == c) && (m == n)) some
  where
    at : (b : Bool) → cond b (Some s) None ≡ Some t → (b || is_taken c n es) ≡ true
    at true some = refl
    at false some = cc
taken_now by c n t (Some (Answer d m p)) es some = cc
taken_now by c n t (Some (Late d m u k)) es some = cc
taken_now by c n t (Some (Collect d m)) es some = cc
taken_now by c n t (Some (Retire d)) es some = cc
taken_now by c n t (Some (Fail d m u k)) es some = cc
taken_now by c n t (Some Down) es some = cc
taken_now by c n t (Some Up) es some = cc

-- the moments of the takes of that name
abbrev moments : ℕ → ℕ → List Note → List ℕ
moments c n h = filter_map (λ x. moment_named c n x.event) h

pub moment_of-kept : (c n : ℕ) (h more : List Note) → is_taken c n (entries_of h) ≡ true → moment_of c n (h ++ more) ≡ moment_of c n h
moment_of-kept c n [] more taken = cc
moment_of-kept c n (x ∷ h) more taken = at (moment_named c n x.event) refl (moment_of-kept c n h more)
  where
    at : (o : Option ℕ) → moment_named c n x.event ≡ o → (is_taken c n (entries_of h) ≡ true → first_or 0 (moments c n (h ++ more)) ≡ first_or 0 (moments c n h))
        → first_or 0 (cons_option o (moments c n (h ++ more))) ≡ first_or 0 (cons_option o (moments c n h))
    at (Some t) is later = refl
    at None is later = later (taken_later x.by c n x.event (entries_of h) is taken)

untaken_later : (c n : ℕ) (o : Option Entry) (es : List Entry) → is_taken c n (cons_option o es) ≡ false → is_taken c n es ≡ false
untaken_later c n None es h = h
untaken_later c n (Some e) es h = let w = or_parts (is_take e.kind && has_name c n e) (is_taken c n es) h in w.1

none_of : (c n : ℕ) (h : List Note) → is_taken c n (entries_of h) ≡ false → moments c n h ≡ []
none_of c n [] none = refl
none_of c n (x ∷ h) none = at (moment_named c n x.event) refl (none_of c n h)
  where
    at : (o : Option ℕ) → moment_named c n x.event ≡ o → (is_taken c n (entries_of h) ≡ false → moments c n h ≡ []) → cons_option o (moments c n h) ≡ []
    at (Some t) is later = let had = taken_now x.by c n t x.event (entries_of h) is in let clash : true ≡ false = sym had ∙ none in cc
    at None is later = later (untaken_later c n (option_map (entry_by x.by) x.event) (entries_of h) none)

-- the first take of a name has its own moment
pub moment_of-taken : (c n u t by : ℕ) (h : List Note) → is_taken c n (entries_of h) ≡ false → moment_of c n (h ++ note by (Take c n u t) ∷ []) ≡ t
moment_of-taken c n u t by h none =
    ap (first_or 0) (filter_map-append (λ x. moment_named c n x.event) h (note by (Take c n u t) ∷ [])
    ∙ ap (λ xs. xs ++ moments c n (note by (Take c n u t) ∷ [])) (none_of c n h none))
    ∙ own (has_name' c n) (and_from _ _ (eq-eqb c c refl) (eq-eqb n n refl))
  where
    has_name' : ℕ → ℕ → Bool
    has_name' d m = (d == c) && (m == n)

    own : (b : Bool) → b ≡ true → first_or 0 (cons_option (cond b (Some t) None) []) ≡ t
    own true is = refl
    own false is = cc

-- each take has its name among the takes
pub takes_named : (es : List Entry) → AllByRecursion (λ t. is_taken t.client t.ordinal es ≡ true) (takes es)
takes_named es =
    All-filtered (λ t. is_taken t.client t.ordinal es ≡ true) (λ t. is_take t.kind) es
    (All-from_get (λ t. is_take t.kind ≡ true → is_taken t.client t.ordinal es ≡ true) es (λ k t at passes.
    any_at (λ x. is_take x.kind && has_name t.client t.ordinal x) es k t at
    (and_from _ _ passes (and_from _ _ (eq-eqb t.client t.client refl) (eq-eqb t.ordinal t.ordinal refl)))))
