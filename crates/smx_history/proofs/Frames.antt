-- What an entry of another kind leaves as it is.
use Rattle.std.proofs.lemmas.Bool.{false_from_ne_true, both_ways, and_left}
use Rattle.smx_history.proofs.ListPushes.{any_kept, filter_other, filter_push, any_other, last_or-push}
use Rattle.std.proofs.lemmas.List.{map-append}
use Rattle.std.proofs.Common.{true, map, ◌≡◌, ◌-◌, ◌==◌, ℕ, false, not, ◌&&◌, List, [], ◌∷◌, ◌++◌, length, ◌∙◌, ap, filter, sum_by}
use Rattle.std.proofs.lemmas.List.Elements.{filter_agree}
use Rattle.smx_history.specs.declared.entry.Entry.{Entry}
use Rattle.smx_history.specs.Entries.{is_admit, is_accept, is_take, is_answer, is_collect, is_retire, is_settling, has_name, admits, accepts, takes, accepts_of, answers_of, collects_of, is_retired, unanswered_takes, is_settled, present, is_link, is_rise, is_up, numbers}
use Rattle.smx_history.specs.Prefixes.{last_or}
use Rattle.smx_history.specs.Legal.{waiting}

pub accepts_of-other : (c : ℕ) (es : List Entry) (e : Entry) → is_accept e.kind ≡ false → accepts_of c (es ++ e ∷ []) ≡ accepts_of c es
accepts_of-other c es e h = filter_other (λ x. is_accept x.kind && (x.client == c)) es e (and_left _ _ h)

pub answers_of-other : (c : ℕ) (es : List Entry) (e : Entry) → is_answer e.kind ≡ false → answers_of c (es ++ e ∷ []) ≡ answers_of c es
answers_of-other c es e h = filter_other (λ x. is_answer x.kind && (x.client == c)) es e (and_left _ _ h)

pub collects_of-other : (c : ℕ) (es : List Entry) (e : Entry) → is_collect e.kind ≡ false → collects_of c (es ++ e ∷ []) ≡ collects_of c es
collects_of-other c es e h = filter_other (λ x. is_collect x.kind && (x.client == c)) es e (and_left _ _ h)

pub is_retired-other : (c : ℕ) (es : List Entry) (e : Entry) → is_retire e.kind ≡ false → is_retired c (es ++ e ∷ []) ≡ is_retired c es
is_retired-other c es e h = any_other (λ x. is_retire x.kind && (x.client == c)) es e (and_left _ _ h)

pub is_settled-other : (c n : ℕ) (es : List Entry) (e : Entry) → is_settling e.kind ≡ false → is_settled c n (es ++ e ∷ []) ≡ is_settled c n es
is_settled-other c n es e h = any_other (λ x. is_settling x.kind && has_name c n x) es e (and_left _ _ h)

pub admits-other : (es : List Entry) (e : Entry) → is_admit e.kind ≡ false → admits (es ++ e ∷ []) ≡ admits es
admits-other es e h = filter_other (λ x. is_admit x.kind) es e h

pub takes-other : (es : List Entry) (e : Entry) → is_take e.kind ≡ false → takes (es ++ e ∷ []) ≡ takes es
takes-other es e h = filter_other (λ x. is_take x.kind) es e h

pub numbers-other : (es : List Entry) (e : Entry) → is_take e.kind ≡ false → numbers (es ++ e ∷ []) ≡ numbers es
numbers-other es e k = ap (map (λ (t : Entry). t.number)) (takes-other es e k)

pub accepts-other : (es : List Entry) (e : Entry) → is_accept e.kind ≡ false → accepts (es ++ e ∷ []) ≡ accepts es
accepts-other es e h = filter_other (λ x. is_accept x.kind) es e h

pub unanswered-other : (es : List Entry) (e : Entry) → is_take e.kind ≡ false → is_settling e.kind ≡ false → unanswered_takes (es ++ e ∷ []) ≡ unanswered_takes es
unanswered-other es e t s =
    ap (filter (λ x. not (is_settled x.client x.ordinal (es ++ e ∷ [])))) (takes-other es e t)
    ∙ filter_agree (λ x. not (is_settled x.client x.ordinal (es ++ e ∷ []))) (λ x. not (is_settled x.client x.ordinal es)) (λ x. ap not (is_settled-other x.client x.ordinal es e s)) (takes es)

pub present-other : (es : List Entry) (e : Entry) → is_admit e.kind ≡ false → is_retire e.kind ≡ false → present (es ++ e ∷ []) ≡ present es
present-other es e a r =
    ap (filter (λ x. not (is_retired x.client (es ++ e ∷ [])))) (admits-other es e a)
    ∙ filter_agree (λ x. not (is_retired x.client (es ++ e ∷ []))) (λ x. not (is_retired x.client es)) (λ x. ap not (is_retired-other x.client es e r)) (admits es)

pub is_up-other : (es : List Entry) (e : Entry) → is_link e.kind ≡ false → is_up (es ++ e ∷ []) ≡ is_up es
is_up-other es e h = ap (λ xs. last_or true (map (λ (x : Entry). is_rise x.kind) xs)) (filter_other (λ x. is_link x.kind) es e h)

pub is_up-push : (es : List Entry) (e : Entry) → is_link e.kind ≡ true → is_up (es ++ e ∷ []) ≡ is_rise e.kind
is_up-push es e h =
    ap (λ xs. last_or true (map (λ (x : Entry). is_rise x.kind) xs)) (filter_push (λ x. is_link x.kind) es e h)
    ∙ ap (last_or true) (map-append (λ x. is_rise x.kind) (filter (λ x. is_link x.kind) es) (e ∷ []))
    ∙ last_or-push true (map (λ x. is_rise x.kind) (filter (λ x. is_link x.kind) es)) (is_rise e.kind)

pub sum_by-agree : {X : Type 0} (f g : X → ℕ) → ((x : X) → f x ≡ g x) → (xs : List X) → sum_by f xs ≡ sum_by g xs
sum_by-agree f g h xs = ap (λ k. sum_by k xs) (λ i x. h x i)

pub waiting-other : (es : List Entry) (e : Entry) → is_admit e.kind ≡ false → is_retire e.kind ≡ false → is_answer e.kind ≡ false → is_collect e.kind ≡ false → waiting (es ++ e ∷ []) ≡ waiting es
waiting-other es e a r n c =
    ap (sum_by (λ x. length (answers_of x.client (es ++ e ∷ [])) - length (collects_of x.client (es ++ e ∷ [])))) (present-other es e a r)
    ∙ sum_by-agree (λ x. length (answers_of x.client (es ++ e ∷ [])) - length (collects_of x.client (es ++ e ∷ []))) (λ x. length (answers_of x.client es) - length (collects_of x.client es))
    (λ x. ap (λ xs. length xs - length (collects_of x.client (es ++ e ∷ []))) (answers_of-other x.client es e n) ∙ ap (λ xs. length (answers_of x.client es) - length xs) (collects_of-other x.client es e c)) (present es)

-- who had not retired before an entry more
pub retired_before : (d : ℕ) (es : List Entry) (e : Entry) → is_retired d (es ++ e ∷ []) ≡ false → is_retired d es ≡ false
retired_before d es e gone = false_from_ne_true _ (λ was. both_ways _ gone (any_kept (λ x. is_retire x.kind && (x.client == d)) es (e ∷ []) was))
