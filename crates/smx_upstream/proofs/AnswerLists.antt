-- Responses that the session passes on, one behind the other.
use Rattle.std.proofs.Common.{◌≡◌, ◌-◌, ◌+◌, ◌≤◌, ◌==◌, ◌||◌, max, nat_le, length, ℕ, Bool, true, false, List, [], ◌∷◌, ◌++◌, Option, Some, Result, refl, sym, ap, ◌∙◌, subst, arith, inl, inr}
use Rattle.std.specs.List.{AllByRecursion}
use Rattle.std.proofs.lemmas.Bool.{and_parts, cases_Bool, eqb-true, leb-true}
use Rattle.smx_pdu.specs.declared.pdu.Pdu.{Pdu}
use Rattle.smx_pdu.specs.Command.{is_forwarded}
use Rattle.smx_pdu.specs.declared.command.TheConstants.{SUBMIT_SM, SUBMIT_MULTI, QUERY_SM, CANCEL_SM, REPLACE_SM, DATA_SM, RESPONSE}
use Rattle.smx_session.specs.declared.kind.Kind.{Kind}
use Rattle.smx_session.specs.declared.kind.Kind.TheVariants.{Tx, Rx, Trx}
use Rattle.smx_session.specs.declared.upstream_row.UpstreamRow.TheVariants as row
use Rattle.smx_session.specs.declared.upstream_state.UpstreamState.{UpstreamState}
use Rattle.smx_session.specs.declared.upstream_state.UpstreamState.TheVariants.{Binding, Bound, Unbinding, Ended}
use Rattle.smx_session.specs.declared.up_act.UpAct.TheVariants as act
use Rattle.smx_session.specs.UpstreamTable.{upstream_row, upstream_cell, upstream_decision}
use Rattle.smx_session.specs.UpstreamTable.UpstreamCell.{to_lane}
use Rattle.smx_session.specs.Moments.{Upstream, act_on, after_pdu, cell_at, enquired_after, is_bound, moment}
use Rattle.std.specs.Global.{Vec}
use Rattle.std.specs.declared.snapshot.Snapshot.{Snapshot}
use Rattle.smx_lock.specs.declared.faults.Spent.{Spent}
use Rattle.smx_lane.specs.declared.settled.Settled.{Settled}
use Rattle.smx_shared.specs.Batches.{BringsAll}
use Rattle.smx_upstream.specs.declared.event.Event.TheVariants.{Brought}
use Rattle.smx_upstream.specs.Standing.{Stand, Does, is_answer, after_pdus, GoToLane}

-- which row that is
of_submit : (kind : Kind) (number : ℕ) → upstream_row kind (RESPONSE + SUBMIT_SM) number ≡ row.OtherResponse
of_submit Tx number = refl
of_submit Rx number = refl
of_submit Trx number = refl

of_multi : (kind : Kind) (number : ℕ) → upstream_row kind (RESPONSE + SUBMIT_MULTI) number ≡ row.OtherResponse
of_multi Tx number = refl
of_multi Rx number = refl
of_multi Trx number = refl

of_query : (kind : Kind) (number : ℕ) → upstream_row kind (RESPONSE + QUERY_SM) number ≡ row.OtherResponse
of_query Tx number = refl
of_query Rx number = refl
of_query Trx number = refl

of_cancel : (kind : Kind) (number : ℕ) → upstream_row kind (RESPONSE + CANCEL_SM) number ≡ row.OtherResponse
of_cancel Tx number = refl
of_cancel Rx number = refl
of_cancel Trx number = refl

of_replace : (kind : Kind) (number : ℕ) → upstream_row kind (RESPONSE + REPLACE_SM) number ≡ row.OtherResponse
of_replace Tx number = refl
of_replace Rx number = refl
of_replace Trx number = refl

of_data : (kind : Kind) (number : ℕ) → upstream_row kind (RESPONSE + DATA_SM) number ≡ row.OtherResponse
of_data Tx number = refl
of_data Rx number = refl
of_data Trx number = refl

abbrev IsOther : Kind → ℕ → ℕ → Type 0
IsOther kind number k = upstream_row kind (RESPONSE + k) number ≡ row.OtherResponse

one_of : (P : ℕ → Type 0) (c k : ℕ) (rest : Bool) → ((c == k) || rest) ≡ true → P c → (rest ≡ true → P k) → P k
one_of P c k rest h here there = elim (cases_Bool (c == k)) [
  | inl is ↦ subst P (eqb-true c k is) here
  | inr other ↦ there (rw other at h)
]

of_forwarded : (kind : Kind) (number k : ℕ) → is_forwarded k ≡ true → IsOther kind number k
of_forwarded kind number k h =
    one_of (IsOther kind number) SUBMIT_SM k _ h (of_submit kind number) (λ h.
    one_of (IsOther kind number) SUBMIT_MULTI k _ h (of_multi kind number) (λ h.
    one_of (IsOther kind number) QUERY_SM k _ h (of_query kind number) (λ h.
    one_of (IsOther kind number) CANCEL_SM k _ h (of_cancel kind number) (λ h.
    one_of (IsOther kind number) REPLACE_SM k _ h (of_replace kind number) (λ h.
    one_of (IsOther kind number) DATA_SM k false h (of_data kind number) (λ h. let no : false ≡ true = h in cc))))))

answer_row : (kind : Kind) (command number : ℕ) → is_answer command ≡ true → upstream_row kind command number ≡ row.OtherResponse
answer_row kind command number h =
    let parts = and_parts (nat_le RESPONSE command) (is_forwarded (command - RESPONSE)) h in
    let same : RESPONSE + (command - RESPONSE) ≡ command = omega (arith, leb-true RESPONSE command parts.0) in
    subst (λ k. upstream_row kind k number ≡ row.OtherResponse) same (of_forwarded kind number (command - RESPONSE) parts.1)

bound_is : (s : UpstreamState) → is_bound s ≡ true → s ≡ Bound
bound_is Binding h = let no : false ≡ true = h in cc
bound_is Bound h = refl
bound_is Unbinding h = let no : false ≡ true = h in cc
bound_is Ended h = let no : false ≡ true = h in cc

answer_cell : (u : Upstream) (p : Pdu) → is_bound u.state ≡ true → is_answer p.command ≡ true → cell_at u p ≡ to_lane
answer_cell u p bound is =
    ap (λ s. upstream_cell (upstream_row u.bind.kind p.command p.number) s) (bound_is u.state bound) ∙ ap (λ r. upstream_cell r Bound) (answer_row u.bind.kind p.command p.number is)

-- the session that has heard something at this moment
abbrev pub heard_at : Upstream → ℕ → Upstream
heard_at u now = record u { latest = moment u now; heard = moment u now }

pub answer_act : (u : Upstream) (p : Pdu) → is_bound u.state ≡ true → is_answer p.command ≡ true → act_on u p ≡ act.ToLane
answer_act u p bound is = ap (λ c. (upstream_decision c u.state p).0) (answer_cell u p bound is)

pub answer_after : (u : Upstream) (p : Pdu) (now : ℕ) → is_bound u.state ≡ true → is_answer p.command ≡ true → after_pdu u p now ≡ heard_at u now
answer_after u p now bound is =
    ap (λ c. record u { state = (upstream_decision c u.state p).1; latest = moment u now; heard = moment u now; enquired = enquired_after c u.enquired }) (answer_cell u p bound is)

heard_again : (u : Upstream) (now : ℕ) → heard_at (heard_at u now) now ≡ heard_at u now
heard_again u now = let same : max (max u.latest now) now ≡ max u.latest now = omega arith in ap (λ n. record u { latest = n; heard = n }) same

abbrev pub AreAnswers : List Pdu → Type 0
AreAnswers ps = AllByRecursion (λ (p : Pdu). is_answer p.command ≡ true) ps

answers_after : (u : Upstream) (ps : List Pdu) (now : ℕ) → is_bound u.state ≡ true → AreAnswers ps → after_pdus (heard_at u now) ps now ≡ heard_at u now
answers_after u [] now bound are = refl
answers_after u (p ∷ ps) now bound are =
    ap (λ v. after_pdus v ps now) (answer_after (heard_at u now) p now bound are.0 ∙ heard_again u now) ∙ answers_after u ps now bound are.1

-- all of them leave the session as the first does
pub after_all : (u : Upstream) (p : Pdu) (ps : List Pdu) (now : ℕ) → is_bound u.state ≡ true → AreAnswers (p ∷ ps) → after_pdus u (p ∷ ps) now ≡ after_pdu u p now
after_all u p ps now bound are =
    let first = answer_after u p now bound are.0 in
    ap (λ v. after_pdus v ps now) first ∙ answers_after u ps now bound are.1 ∙ sym first

pub all_go : (u : Upstream) (ps : List Pdu) (now : ℕ) → is_bound u.state ≡ true → AreAnswers ps → GoToLane u ps now
all_go u [] now bound are = tt
all_go u (p ∷ ps) now bound are =
    (answer_act u p bound are.0, all_go (after_pdu u p now) ps now (ap (λ v. is_bound v.state) (answer_after u p now bound are.0) ∙ bound) are.1)

-- a list that was empty, got one, and then these
pub listed : (xs ys zs qs : List Pdu) (p : Pdu) → xs ≡ [] → ys ≡ xs ++ p ∷ [] → zs ≡ ys ++ qs → zs ≡ p ∷ qs
listed xs ys zs qs p empty one more = more ∙ ap (λ l. l ++ qs) (one ∙ ap (λ l. l ++ p ∷ []) empty)

-- what waits is an answer
pub waits_so : (o : Option Pdu) (p q : Pdu) → o ≡ Some p → is_answer p.command ≡ true → o ≡ Some q → is_answer q.command ≡ true
waits_so o p q is h also = let same : p ≡ q = cc in subst (λ x. is_answer x.command ≡ true) same h

-- so a list was brought
pub brought_does : (s t : Stand) (ps : Snapshot (Vec Pdu)) (now lane : ℕ) (r : Snapshot (Result (Vec Settled) (Vec Pdu × Spent))) (p : Pdu) (qs : List Pdu) → ps.value.items ≡ p ∷ qs → is_bound s.session.state ≡ true → AreAnswers (p ∷ qs)
    → t.session ≡ after_pdu s.session p now → BringsAll s.tap.front t.tap.front ps.value.items r.value → lane ≡ s.tap.lane → t.tap.lane ≡ s.tap.lane → t ≡ record s { session = t.session; tap = t.tap } → length ps.value.items ≤ 16 → Does s (Brought ps now lane r) t
brought_does s t ps now lane r p qs all bound are session brings at same stands few = (
  subst (λ l. GoToLane s.session l now) (sym all) (all_go s.session (p ∷ qs) now bound are),
  brings,
  at,
  same,
  stands ∙ ap (λ u. record s { session = u; tap = t.tap }) (session ∙ sym (after_all s.session p qs now bound are) ∙ ap (λ l. after_pdus s.session l now) (sym all)),
  few,
)
