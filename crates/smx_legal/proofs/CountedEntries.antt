-- The totals after an admit, an accept, a take, a collect or a retire.
use Rattle.smx_history.proofs.Presence.{present_admitted, present_retired, present_once}
use Rattle.std.proofs.Common.{◌≡◌, ◌≤◌, ◌+◌, ◌-◌, ◌==◌, ℕ, Bool, false, not, ◌&&◌, cond, List, [], ◌∷◌, ◌++◌, length, map, filter, refl, sym, ◌∙◌, ap, subst, arith, length-append, inl, inr, count_by, sum_by}
use Rattle.std.proofs.lemmas.List.Sums.{sum_by-append, sum_by-cons, length-filter}
use Rattle.std.proofs.lemmas.Bool.{eqb-true, eq-eqb, ne_eqb, cases_eq}
use Rattle.smx_history.specs.declared.entry.Entry.{Entry}
use Rattle.smx_history.specs.declared.entry.Kind.TheVariants as kind
use Rattle.smx_history.specs.declared.limits.Limits.{Limits}
use Rattle.smx_legal.specs.declared.totals.Totals.{Totals}
use Rattle.smx_history.specs.Prefixes.{RiseAbove}
use Rattle.smx_history.specs.Entries.{is_link, is_admit, is_accept, is_take, is_answer, is_collect, is_retire, is_settling, admits, accepts, takes, answers_of, collects_of, unanswered_takes, present}
use Rattle.smx_history.specs.Legal.{KeepsRules, IsFifo, StandsWell, waiting}
use Rattle.smx_history.proofs.Fitting.{Fits}
use Rattle.smx_legal.specs.Checks.{Counted, takes_as}
use Rattle.smx_history.proofs.ListPushes.{last_or-push, AtEachPrefix-whole}
use Rattle.smx_history.proofs.Counts.{count_by-push}
use Rattle.smx_history.proofs.Frames.{accepts-other, takes-other, admits-other, answers_of-other, collects_of-other, unanswered-other, present-other, waiting-other, sum_by-agree, is_up-other}
use Rattle.smx_history.proofs.Sizes.{takes-le-accepts}
use Rattle.smx_history.proofs.Unseen.{none_admitted, unseen}
use Rattle.smx_history.proofs.Parts.{RiseAbove-end}
use Rattle.smx_history.proofs.FitsAccept.{accepted_push}
use Rattle.smx_history.proofs.FitsTake.{takes_push, unanswered_taken, untaken_unsettled}
use Rattle.smx_legal.proofs.TakeFits.{taken_first}
use Rattle.smx_history.proofs.FitsAdmit.{clients_admitted}
use Rattle.smx_history.proofs.FitsCollect.{collected_own, collected_other}
use Rattle.smx_legal.proofs.Counting.{sum_more, length_without, sum_without, admitted_any, collected_le, settlings_as-other, numbers_kept}

-- responses that wait for one client
waits : List Entry → Entry → ℕ
waits es x = length (answers_of x.client es) - length (collects_of x.client es)

waits_kept : (es : List Entry) (e x : Entry) → is_answer e.kind ≡ false → is_collect e.kind ≡ false → waits (es ++ e ∷ []) x ≡ waits es x
unfolding waits
waits_kept es e x n c = ap (λ xs. length xs - length (collects_of x.client (es ++ e ∷ []))) (answers_of-other x.client es e n) ∙ ap (λ xs. length (answers_of x.client es) - length xs) (collects_of-other x.client es e c)

pub counted_admit : (limits : Limits) (t : Totals) (es : List Entry) (e : Entry) → KeepsRules limits es → Counted es t → Fits limits es e → e.kind ≡ kind.Admit → Counted (es ++ e ∷ []) (record t { greatest = e.client; present = t.present + 1 })
unfolding waits
counted_admit limits t es e legal counted fits k =
    let above = RiseAbove-end 0 (map (λ x. x.client) (admits es)) e.client (subst (λ (xs : List ℕ). RiseAbove 0 xs) (clients_admitted es e k) fits.membership.clients) in
    let none = unseen e.client es legal.standing legal.pairing (none_admitted es e.client legal.membership.clients above) in
    let push = present_admitted es e k none.retired in
    let wait : waiting (es ++ e ∷ []) ≡ waiting es =
    ap (sum_by (waits (es ++ e ∷ []))) push ∙ sum_by-agree (waits (es ++ e ∷ [])) (waits es) (λ x. waits_kept es e x (ap is_answer k) (ap is_collect k)) (present es ++ e ∷ [])
    ∙ sum_by-append (waits es) (present es) (e ∷ []) ∙ (let n : waits es e ≡ 0 = rw (none.answers, none.collects) refl in omega (arith, n, sum_by-cons (waits es) e [])) in
    record {
      numbers = numbers_kept es e (ap is_take k) (ap is_settling k) counted.numbers;
      greatest = rw (clients_admitted es e k, last_or-push 0 (map (λ x. x.client) (admits es)) e.client) refl;
      taken = rw (takes-other es e (ap is_take k)) counted.taken;
      queued = rw (accepts-other es e (ap is_accept k), takes-other es e (ap is_take k)) counted.queued;
      unanswered = rw (unanswered-other es e (ap is_take k) (ap is_settling k)) counted.unanswered;
      waiting = omega (arith, wait, counted.waiting);
      present = rw push (omega (arith, length-append (present es) (e ∷ []), counted.present));
      up = rw (is_up-other es e (ap is_link k)) counted.up;
    }

pub counted_accept : (limits : Limits) (t : Totals) (es : List Entry) (e : Entry) → KeepsRules limits es → Counted es t → e.kind ≡ kind.Accept → Counted (es ++ e ∷ []) (record t { queued = t.queued + 1 })
counted_accept limits t es e legal counted k =
    let fifo = AtEachPrefix-whole IsFifo es legal.fifo in
    record {
      numbers = numbers_kept es e (ap is_take k) (ap is_settling k) counted.numbers;
      greatest = rw (admits-other es e (ap is_admit k)) counted.greatest;
      taken = rw (takes-other es e (ap is_take k)) counted.taken;
      queued = rw (accepted_push es e k, takes-other es e (ap is_take k)) (omega (arith, length-append (accepts es) (e ∷ []), counted.queued, takes-le-accepts es fifo));
      unanswered = rw (unanswered-other es e (ap is_take k) (ap is_settling k)) counted.unanswered;
      waiting = rw (waiting-other es e (ap is_admit k) (ap is_retire k) (ap is_answer k) (ap is_collect k)) counted.waiting;
      present = rw (present-other es e (ap is_admit k) (ap is_retire k)) counted.present;
      up = rw (is_up-other es e (ap is_link k)) counted.up;
    }

-- a take that fits takes a request that is queued
pub queued_before : (limits : Limits) (es : List Entry) (e : Entry) → Fits limits es e → e.kind ≡ kind.Take → length (takes es) + 1 ≤ length (accepts es)
queued_before limits es e fits k =
    let le = takes-le-accepts (es ++ e ∷ []) fits.fifo in
    omega (arith, le, ap length (takes_push es e k), ap length (accepts-other es e (ap is_accept k)), length-append (takes es) (e ∷ []))

pub counted_take : (limits : Limits) (t : Totals) (es : List Entry) (e : Entry) → KeepsRules limits es → Counted es t → Fits limits es e → e.kind ≡ kind.Take → Counted (es ++ e ∷ []) (record t { taken = t.taken + 1; queued = t.queued - 1; unanswered = t.unanswered + 1 })
counted_take limits t es e legal counted fits k =
    let push = unanswered_taken es e k (untaken_unsettled es e.client e.ordinal legal.pairing (taken_first limits es e fits k)) in
    let more = queued_before limits es e fits k in
    record {
      numbers = λ u.
          let p : Entry → Bool = λ x. is_take x.kind && (x.number == u) in
          let bearing : takes_as u (es ++ e ∷ []) ≡ takes_as u es + cond (e.number == u) 1 0 =
          length-filter p (es ++ e ∷ []) ∙ count_by-push p es e ∙ ap (λ b. count_by p es + cond (b && (e.number == u)) 1 0) (ap is_take k) ∙ ap (λ n. n + cond (e.number == u) 1 0) (sym (length-filter p es)) in
          let open' : count_by (λ x. x.number == u) (unanswered_takes (es ++ e ∷ [])) ≡ count_by (λ x. x.number == u) (unanswered_takes es) + cond (e.number == u) 1 0 =
          ap (count_by (λ x. x.number == u)) push ∙ count_by-push (λ x. x.number == u) (unanswered_takes es) e in
          omega (arith, bearing, open', settlings_as-other u es e (ap is_settling k), counted.numbers u);
      greatest = rw (admits-other es e (ap is_admit k)) counted.greatest;
      taken = rw (takes_push es e k) (omega (arith, length-append (takes es) (e ∷ []), counted.taken));
      queued = rw (takes_push es e k, accepts-other es e (ap is_accept k)) (omega (arith, length-append (takes es) (e ∷ []), counted.queued, more));
      unanswered = rw push (omega (arith, length-append (unanswered_takes es) (e ∷ []), counted.unanswered));
      waiting = rw (waiting-other es e (ap is_admit k) (ap is_retire k) (ap is_answer k) (ap is_collect k)) counted.waiting;
      present = rw (present-other es e (ap is_admit k) (ap is_retire k)) counted.present;
      up = rw (is_up-other es e (ap is_link k)) counted.up;
    }

-- a collect takes one response of a client that is present
collect_waits : (es : List Entry) (e x : Entry) → e.kind ≡ kind.Collect → IsFifo (es ++ e ∷ []) → waits es x ≡ waits (es ++ e ∷ []) x + cond (x.client == e.client) 1 0
unfolding waits
collect_waits es e x k fifo =
    elim (cases_eq e.client x.client) [
      | inl same ↦
          let le = collected_le (es ++ e ∷ []) x.client fifo in
          let n = ap length (answers_of-other x.client es e (ap is_answer k)) in
          let c = ap length (collected_own x.client es e k same) in
          let l = length-append (collects_of x.client es) (e ∷ []) in
          let one : cond (x.client == e.client) 1 0 ≡ 0 + 1 = ap {B = ℕ} (λ b. cond b 1 0) (eq-eqb x.client e.client (sym same)) in
          omega (arith, le, n, c, l, one)
      | inr apart ↦
          let n = ap length (answers_of-other x.client es e (ap is_answer k)) in
          let c = ap length (collected_other x.client es e k apart) in
          let none : ◌≡◌ {A = ℕ} (cond (x.client == e.client) 1 0) 0 = ap {B = ℕ} (λ b. cond b 1 0) (ne_eqb x.client e.client (λ same. apart (sym same))) in
          omega (arith, n, c, none)
    ]

pub collect_waiting : (limits : Limits) (es : List Entry) (e : Entry) → KeepsRules limits es → Fits limits es e → e.kind ≡ kind.Collect → waiting es ≡ waiting (es ++ e ∷ []) + 1
unfolding waits
collect_waiting limits es e legal fits k =
    let served : StandsWell kind.Collect es e = rw k at fits.standing in
    let once = present_once es e.client legal.membership (admitted_any es e.by e.client served.0) served.1 in
    sum_more (waits es) (waits (es ++ e ∷ [])) (λ x. x.client == e.client) (λ x. collect_waits es e x k fits.fifo) (present es)
    ∙ ap (λ n. sum_by (waits (es ++ e ∷ [])) (present es) + n) once
    ∙ ap (λ us. sum_by (waits (es ++ e ∷ [])) us + 1) (sym (present-other es e (ap is_admit k) (ap is_retire k)))

pub counted_collect : (limits : Limits) (t : Totals) (es : List Entry) (e : Entry) → KeepsRules limits es → Counted es t → Fits limits es e → e.kind ≡ kind.Collect → Counted (es ++ e ∷ []) (record t { waiting = t.waiting - 1 })
counted_collect limits t es e legal counted fits k =
    record {
      numbers = numbers_kept es e (ap is_take k) (ap is_settling k) counted.numbers;
      greatest = rw (admits-other es e (ap is_admit k)) counted.greatest;
      taken = rw (takes-other es e (ap is_take k)) counted.taken;
      queued = rw (accepts-other es e (ap is_accept k), takes-other es e (ap is_take k)) counted.queued;
      unanswered = rw (unanswered-other es e (ap is_take k) (ap is_settling k)) counted.unanswered;
      waiting = let less = collect_waiting limits es e legal fits k in omega (arith, less, counted.waiting);
      present = rw (present-other es e (ap is_admit k) (ap is_retire k)) counted.present;
      up = rw (is_up-other es e (ap is_link k)) counted.up;
    }

-- the client that retires, and what waits for it
pub record LeavesCounts (es : List Entry) (e : Entry) : Type 0 where
  pub waiting : waiting (es ++ e ∷ []) + (length (answers_of e.client es) - length (collects_of e.client es)) ≡ waiting es
  pub present : length (present (es ++ e ∷ [])) + 1 ≡ length (present es)

pub leaves : (limits : Limits) (es : List Entry) (e : Entry) → KeepsRules limits es → Fits limits es e → e.kind ≡ kind.Retire → LeavesCounts es e
unfolding waits
leaves limits es e legal fits k =
    let served : StandsWell kind.Retire es e = rw k at fits.standing in
    let once = present_once es e.client legal.membership (admitted_any es e.by e.client served.0) served.1 in
    let push = present_retired es e k in
    let kept : waiting (es ++ e ∷ []) ≡ sum_by (waits es) (filter (λ a. not (a.client == e.client)) (present es)) =
    ap (sum_by (waits (es ++ e ∷ []))) push ∙ sum_by-agree (waits (es ++ e ∷ [])) (waits es) (λ x. waits_kept es e x (ap is_answer k) (ap is_collect k)) (filter (λ a. not (a.client == e.client)) (present es)) in
    record {
      waiting =
          let out = sum_without (waits es) (λ a. a.client == e.client) (waits es e) (present es) once (λ x same. ap (λ c. length (answers_of c es) - length (collects_of c es)) (eqb-true x.client e.client same)) in
          ap (λ n. n + waits es e) kept ∙ out;
      present = let l = length_without (λ (a : Entry). a.client == e.client) (present es) in omega (arith, l, once, ap length push);
    }

pub counted_retire : (limits : Limits) (t : Totals) (es : List Entry) (e : Entry) (n : ℕ) → KeepsRules limits es → Counted es t → Fits limits es e → e.kind ≡ kind.Retire → n ≡ length (answers_of e.client es) - length (collects_of e.client es) → Counted (es ++ e ∷ []) (record t { waiting = t.waiting - n; present = t.present - 1 })
counted_retire limits t es e n legal counted fits k is =
    let gone = leaves limits es e legal fits k in
    record {
      numbers = numbers_kept es e (ap is_take k) (ap is_settling k) counted.numbers;
      greatest = rw (admits-other es e (ap is_admit k)) counted.greatest;
      taken = rw (takes-other es e (ap is_take k)) counted.taken;
      queued = rw (accepts-other es e (ap is_accept k), takes-other es e (ap is_take k)) counted.queued;
      unanswered = rw (unanswered-other es e (ap is_take k) (ap is_settling k)) counted.unanswered;
      waiting = omega (arith, gone.waiting, counted.waiting, is);
      present = omega (arith, gone.present, counted.present);
      up = rw (is_up-other es e (ap is_link k)) counted.up;
    }
