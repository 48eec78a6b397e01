-- The totals after an answer, in time or late.
use Rattle.std.proofs.Common.{◌≡◌, ◌+◌, ◌-◌, ◌==◌, ℕ, Bool, true, false, not, ◌&&◌, cond, List, [], ◌∷◌, ◌++◌, length, refl, sym, ◌∙◌, ap, subst, arith, length-append, inl, inr, count_by, sum_by}
use Rattle.std.proofs.lemmas.List.Sums.{length-filter}
use Rattle.std.proofs.lemmas.Bool.{and_from, and_parts, eqb-true, eq-eqb, ne_eqb, cases_eq, cases_Bool}
use Rattle.smx_history.specs.declared.entry.Entry.{Entry}
use Rattle.smx_history.specs.declared.entry.Kind.{Kind}
use Rattle.smx_history.specs.declared.entry.Kind.TheVariants as kind
use Rattle.smx_history.specs.declared.limits.Limits.{Limits}
use Rattle.smx_legal.specs.declared.totals.Totals.{Totals}
use Rattle.smx_history.specs.Entries.{is_link, is_admit, is_accept, is_take, is_answer, is_collect, is_retire, is_settling, has_name, takes, admits, answers_of, collects_of, is_retired, is_settled, unanswered_takes, present}
use Rattle.smx_history.specs.Legal.{KeepsRules, IsFifo, StandsWell, IsPaired, Answers, waiting}
use Rattle.smx_history.proofs.Fitting.{Fits}
use Rattle.smx_legal.specs.Checks.{Counted, takes_as, settlings_as}
use Rattle.smx_history.proofs.ListPushes.{filter_push, filter_other, AtEachPrefix-whole}
use Rattle.smx_history.proofs.Counts.{count_by-filter, count_split, count_by-push, any_count}
use Rattle.smx_history.proofs.Frames.{accepts-other, takes-other, admits-other, collects_of-other, present-other, waiting-other, is_up-other}
use Rattle.smx_history.proofs.Taking.{any_weaker}
use Rattle.smx_history.proofs.FitsSettle.{Settles, settles_answer, settles_late, settles_fail, unanswered_settled}
use Rattle.smx_legal.proofs.Counting.{count_agree, count_implies, sum_more, length_without, collected_le, takes_as-other}
use Rattle.smx_history.proofs.Presence.{present_once, accepted_admitted}

-- a test of the unanswered takes of a name that was not settled is a test of the takes of that name
unanswered_named : (es : List Entry) (c n : ℕ) (r : Entry → Bool) → is_settled c n es ≡ false → count_by (λ x. r x && has_name c n x) (unanswered_takes es) ≡ count_by (λ x. (is_take x.kind && has_name c n x) && r x) es
unanswered_named es c n r none =
    count_by-filter (λ x. r x && has_name c n x) (λ t. not (is_settled t.client t.ordinal es)) (takes es)
    ∙ count_by-filter (λ x. (r x && has_name c n x) && not (is_settled x.client x.ordinal es)) (λ t. is_take t.kind) es
    ∙ count_agree (λ x. ((r x && has_name c n x) && not (is_settled x.client x.ordinal es)) && is_take x.kind) (λ x. (is_take x.kind && has_name c n x) && r x)
    (λ x. point (r x) (has_name c n x) (not (is_settled x.client x.ordinal es)) (is_take x.kind) (λ named.
    let w = and_parts (x.client == c) (x.ordinal == n) named in
    ap not (ap (λ i. is_settled i x.ordinal es) (eqb-true x.client c w.0) ∙ ap (λ i. is_settled c i es) (eqb-true x.ordinal n w.1) ∙ none))) es
  where
    turn : (r t : Bool) → (((r && true) && true) && t) ≡ ((t && true) && r)
    turn true true = refl
    turn true false = refl
    turn false true = refl
    turn false false = refl

    drop : (r u t : Bool) → (((r && false) && u) && t) ≡ ((t && false) && r)
    drop true u true = refl
    drop true u false = refl
    drop false u true = refl
    drop false u false = refl

    point : (r m u t : Bool) → (m ≡ true → u ≡ true) → (((r && m) && u) && t) ≡ ((t && m) && r)
    point r true u t h = ap (λ b. ((r && true) && b) && t) (h refl) ∙ turn r t
    point r false u t h = drop r u t

-- one unanswered take has the name of an answer, and it has the answer's number
pub record IsOne (es : List Entry) (e : Entry) : Type 0 where
  pub named : count_by (has_name e.client e.ordinal) (unanswered_takes es) ≡ 1
  pub numbered : (u : ℕ) → count_by (λ x. (x.number == u) && has_name e.client e.ordinal x) (unanswered_takes es) ≡ cond (e.number == u) 1 0

is_one : (limits : Limits) (es : List Entry) (e : Entry) → KeepsRules limits es → Answers es e → IsOne es e
is_one limits es e legal p =
    let c = e.client in
    let n = e.ordinal in
    let t : Entry → Bool = λ x. is_take x.kind && has_name c n x in
    let few = legal.once.takes c n in
    let some = any_count (λ x. t x && (x.number == e.number)) es
    (any_weaker (λ x. is_take x.kind && (has_name c n x && (x.number == e.number))) (λ x. t x && (x.number == e.number)) es
    (λ x h. let w = and_parts (is_take x.kind) (has_name c n x && (x.number == e.number)) h in
    let y = and_parts (has_name c n x) (x.number == e.number) w.1 in and_from _ _ (and_from _ _ w.0 y.0) y.1) p.taken) in
    let split = count_split t (λ x. x.number == e.number) es in
    let all = unanswered_named es c n (λ x. true) p.first in
    let whole : count_by (λ x. t x && true) es ≡ count_by t es = count_agree (λ x. t x && true) t (λ x. and_true (t x)) es in
    record {
      named = omega (arith, all, whole, few, some, split);
      numbered = λ u. elim (cases_eq e.number u) [
        | inl same ↦
            let one : cond (e.number == u) 1 0 ≡ 0 + 1 = ap {B = ℕ} (λ b. cond b 1 0) (eq-eqb e.number u same) in
            let there : count_by (λ x. (x.number == u) && has_name c n x) (unanswered_takes es) ≡ count_by (λ x. t x && (x.number == e.number)) es =
            unanswered_named es c n (λ x. x.number == u) p.first ∙ ap (λ i. count_by (λ (x : Entry). t x && (x.number == i)) es) (sym same) in
            omega (arith, there, few, some, split, one)
        | inr apart ↦
            let none : ◌≡◌ {A = ℕ} (cond (e.number == u) 1 0) 0 = ap {B = ℕ} (λ b. cond b 1 0) (ne_eqb e.number u apart) in
            let there = unanswered_named es c n (λ x. x.number == u) p.first in
            let le = count_implies (λ x. t x && (x.number == u)) (λ x. t x && not (x.number == e.number))
            (λ x h. let w = and_parts (t x) (x.number == u) h in
            and_from _ _ w.0 (ap not (ne_eqb x.number e.number (λ is. apart (sym is ∙ eqb-true x.number u w.1))))) es in
            omega (arith, there, le, few, some, split, none)
      ];
    }
  where
    and_true : (b : Bool) → (b && true) ≡ b
    and_true true = refl
    and_true false = refl

-- what an answer, in time or late, changes in the window
pub record Closes (es : List Entry) (e : Entry) : Type 0 where
  pub numbers : (u : ℕ) → count_by (λ x. x.number == u) (unanswered_takes es) + settlings_as u es ≡ takes_as u es → count_by (λ x. x.number == u) (unanswered_takes (es ++ e ∷ [])) + settlings_as u (es ++ e ∷ []) ≡ takes_as u (es ++ e ∷ [])
  pub fewer : length (unanswered_takes (es ++ e ∷ [])) + 1 ≡ length (unanswered_takes es)

pub closes : (limits : Limits) (es : List Entry) (e : Entry) → KeepsRules limits es → Settles e.kind → Answers es e → Closes es e
closes limits es e legal s p =
    let named : Entry → Bool = has_name e.client e.ordinal in
    let one = is_one limits es e legal p in
    let gone = unanswered_settled es e s in
    record {
      numbers = λ u was.
          let q : Entry → Bool = λ x. is_settling x.kind && (x.number == u) in
          let settlings : settlings_as u (es ++ e ∷ []) ≡ settlings_as u es + cond (e.number == u) 1 0 =
          length-filter q (es ++ e ∷ []) ∙ count_by-push q es e ∙ ap (λ b. count_by q es + cond (b && (e.number == u)) 1 0) s.settling ∙ ap (λ n. n + cond (e.number == u) 1 0) (sym (length-filter q es)) in
          let left : count_by (λ x. x.number == u) (unanswered_takes (es ++ e ∷ [])) ≡ count_by (λ x. (x.number == u) && not (named x)) (unanswered_takes es) =
          ap (count_by (λ x. x.number == u)) gone ∙ count_by-filter (λ x. x.number == u) (λ x. not (named x)) (unanswered_takes es) in
          omega (arith, settlings, left, one.numbered u, count_split (λ (x : Entry). x.number == u) named (unanswered_takes es), takes_as-other u es e s.take, was);
      fewer = let l = length_without named (unanswered_takes es) in omega (arith, l, one.named, ap length gone);
    }

-- an answer in time adds one response of a client that is present
answer_waits : (es : List Entry) (e x : Entry) → is_answer e.kind ≡ true → is_collect e.kind ≡ false → IsFifo es → length (answers_of x.client (es ++ e ∷ [])) - length (collects_of x.client (es ++ e ∷ [])) ≡ (length (answers_of x.client es) - length (collects_of x.client es)) + cond (x.client == e.client) 1 0
answer_waits es e x answer collect fifo =
    let c = ap length (collects_of-other x.client es e collect) in
    elim (cases_eq e.client x.client) [
      | inl same ↦
          let le = collected_le es x.client fifo in
          let n = ap length (filter_push (λ y. is_answer y.kind && (y.client == x.client)) es e (and_from _ _ answer (eq-eqb e.client x.client same))) in
          let l = length-append (answers_of x.client es) (e ∷ []) in
          let one : cond (x.client == e.client) 1 0 ≡ 0 + 1 = ap {B = ℕ} (λ b. cond b 1 0) (eq-eqb x.client e.client (sym same)) in
          omega (arith, le, n, c, l, one)
      | inr apart ↦
          let n = ap length (filter_other (λ y. is_answer y.kind && (y.client == x.client)) es e (ap (λ b. b && (e.client == x.client)) answer ∙ ne_eqb e.client x.client apart)) in
          let none : ◌≡◌ {A = ℕ} (cond (x.client == e.client) 1 0) 0 = ap {B = ℕ} (λ b. cond b 1 0) (ne_eqb x.client e.client (λ same. apart (sym same))) in
          omega (arith, n, c, none)
    ]

response_waiting : (limits : Limits) (es : List Entry) (e : Entry) → KeepsRules limits es → is_answer e.kind ≡ true → Settles e.kind → waiting (es ++ e ∷ []) ≡ waiting es + count_by (λ x. x.client == e.client) (present es)
response_waiting limits es e legal answer s =
    let f : Entry → ℕ = λ x. length (answers_of x.client (es ++ e ∷ [])) - length (collects_of x.client (es ++ e ∷ [])) in
    let g : Entry → ℕ = λ x. length (answers_of x.client es) - length (collects_of x.client es) in
    ap (sum_by f) (present-other es e s.admit s.retire)
    ∙ sum_more f g (λ x. x.client == e.client) (λ x. answer_waits es e x answer s.collect (AtEachPrefix-whole IsFifo es legal.fifo)) (present es)

answer_waiting : (limits : Limits) (es : List Entry) (e : Entry) → KeepsRules limits es → Answers es e → is_retired e.client es ≡ false → is_answer e.kind ≡ true → Settles e.kind → waiting (es ++ e ∷ []) ≡ waiting es + 1
answer_waiting limits es e legal p here answer s =
    let once = present_once es e.client legal.membership (accepted_admitted limits es e.client e.ordinal legal p.accepted) here in
    omega (arith, response_waiting limits es e legal answer s, once)

none_counted : {X : Type 0} (xs : List X) → count_by (λ (x : X). false) xs ≡ 0
none_counted [] = refl
none_counted (x ∷ xs) = none_counted xs

-- a client that has retired is not present
absent : (es : List Entry) (c : ℕ) → is_retired c es ≡ true → count_by (λ x. x.client == c) (present es) ≡ 0
absent es c gone =
    count_by-filter (λ (a : Entry). a.client == c) (λ a. not (is_retired a.client es)) (admits es)
    ∙ count_agree (λ (a : Entry). (a.client == c) && not (is_retired a.client es)) (λ a. false) (λ a. elim (cases_eq a.client c) [
      | inl same ↦ rw (same, gone, eq-eqb c c refl) refl
      | inr apart ↦ rw (ne_eqb a.client c apart) refl
    ]) (admits es)
    ∙ none_counted (admits es)

-- the failure of a request of a client that has retired tells nobody
dropped_waiting : (limits : Limits) (es : List Entry) (e : Entry) → KeepsRules limits es → is_retired e.client es ≡ true → is_answer e.kind ≡ true → Settles e.kind → waiting (es ++ e ∷ []) ≡ waiting es
dropped_waiting limits es e legal gone answer s = omega (arith, response_waiting limits es e legal answer s, absent es e.client gone)

pub answers_by : (limits : Limits) (es : List Entry) (e : Entry) → Fits limits es e → (e.kind ≡ kind.Answer → Answers es e) × (e.kind ≡ kind.Late → Answers es e)
answers_by limits es e fits = (λ k. subst (λ (x : Kind). IsPaired x es e) k fits.pairing, λ k. subst (λ (x : Kind). IsPaired x es e) k fits.pairing)

pub counted_answer : (limits : Limits) (t : Totals) (es : List Entry) (e : Entry) → KeepsRules limits es → Counted es t → Fits limits es e → e.kind ≡ kind.Answer → Counted (es ++ e ∷ []) (record t { unanswered = t.unanswered - 1; waiting = t.waiting + 1 })
counted_answer limits t es e legal counted fits k =
    let p = (answers_by limits es e fits).0 k in
    let closed = closes limits es e legal (settles_answer e.kind k) p in
    let here : StandsWell kind.Answer es e = rw k at fits.standing in
    let wait = answer_waiting limits es e legal p here (ap is_answer k) (settles_answer e.kind k) in
    record {
      numbers = λ u. closed.numbers u (counted.numbers u);
      greatest = rw (admits-other es e (ap is_admit k)) counted.greatest;
      taken = rw (takes-other es e (ap is_take k)) counted.taken;
      queued = rw (accepts-other es e (ap is_accept k), takes-other es e (ap is_take k)) counted.queued;
      unanswered = omega (arith, closed.fewer, counted.unanswered);
      waiting = omega (arith, wait, counted.waiting);
      present = rw (present-other es e (ap is_admit k) (ap is_retire k)) counted.present;
      up = rw (is_up-other es e (ap is_link k)) counted.up;
    }

pub counted_late : (limits : Limits) (t : Totals) (es : List Entry) (e : Entry) → KeepsRules limits es → Counted es t → Fits limits es e → e.kind ≡ kind.Late → Counted (es ++ e ∷ []) (record t { unanswered = t.unanswered - 1 })
counted_late limits t es e legal counted fits k =
    let p = (answers_by limits es e fits).1 k in
    let closed = closes limits es e legal (settles_late e.kind k) p in
    record {
      numbers = λ u. closed.numbers u (counted.numbers u);
      greatest = rw (admits-other es e (ap is_admit k)) counted.greatest;
      taken = rw (takes-other es e (ap is_take k)) counted.taken;
      queued = rw (accepts-other es e (ap is_accept k), takes-other es e (ap is_take k)) counted.queued;
      unanswered = omega (arith, closed.fewer, counted.unanswered);
      waiting = rw (waiting-other es e (ap is_admit k) (ap is_retire k) (ap is_answer k) (ap is_collect k)) counted.waiting;
      present = rw (present-other es e (ap is_admit k) (ap is_retire k)) counted.present;
      up = rw (is_up-other es e (ap is_link k)) counted.up;
    }

pub fails_by : (limits : Limits) (es : List Entry) (e : Entry) → Fits limits es e → e.kind ≡ kind.Fail → Answers es e
fails_by limits es e fits k = let paired : IsPaired kind.Fail es e = subst (λ (x : Kind). IsPaired x es e) k fits.pairing in paired.0

pub counted_fail : (limits : Limits) (t : Totals) (es : List Entry) (e : Entry) (told : Bool) → KeepsRules limits es → Counted es t → Fits limits es e → e.kind ≡ kind.Fail → told ≡ not (is_retired e.client es) → Counted (es ++ e ∷ []) (record t { unanswered = t.unanswered - 1; waiting = t.waiting + cond told 1 0 })
counted_fail limits t es e told legal counted fits k is =
    let p = fails_by limits es e fits k in
    let s = settles_fail e.kind k in
    let closed = closes limits es e legal s p in
    record {
      numbers = λ u. closed.numbers u (counted.numbers u);
      greatest = rw (admits-other es e s.admit) counted.greatest;
      taken = rw (takes-other es e s.take) counted.taken;
      queued = rw (accepts-other es e s.accept, takes-other es e s.take) counted.queued;
      unanswered = omega (arith, closed.fewer, counted.unanswered);
      waiting = rw is (elim (cases_Bool (is_retired e.client es)) [
        | inl gone ↦ rw gone (omega (arith, dropped_waiting limits es e legal gone (ap is_answer k) s, counted.waiting))
        | inr here ↦ rw here (omega (arith, answer_waiting limits es e legal p here (ap is_answer k) s, counted.waiting))
      ]);
      present = rw (present-other es e s.admit s.retire) counted.present;
      up = rw (is_up-other es e (ap is_link k)) counted.up;
    }
