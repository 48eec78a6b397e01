-- Where a turn stands that has the leave for the PDU that waits.
use Rattle.std.proofs.Common.{◌≡◌, ◌≢◌, ℕ, Bool, List, sym, ◌∙◌, ap, refl, subst, Option, Some, None}
use Rattle.std.specs.Prelude.{if◌then◌else◌}
use Rattle.std.proofs.lemmas.Bool.{eq-eqb}
use Rattle.std.specs.declared.snapshot.Snapshot.{Snapshot}
use Rattle.smx_pdu.specs.declared.pdu.Pdu.{Pdu}
use Rattle.smx_session.specs.Login.{Login}
use Rattle.smx_session.specs.Binds.{check_bind}
use Rattle.smx_session.specs.ClientAsks.{bind_asks, request_asks, cell_asks, client_asks}
use Rattle.smx_session.specs.ClientTable.{ClientCell, client_cell, client_row, client_decides, client_decision, bind_decision, request_decision}
use Rattle.smx_session.specs.Rules.{rules_of, ruled_out}
use Rattle.smx_session.specs.ClientTable.ClientCell.{checks, answer, nack, forward, message_answer, leave, closed, ignore}
use Rattle.smx_session.specs.declared.kind.Kind.{Kind}
use Rattle.smx_session.specs.declared.act.Act.{Act}
use Rattle.smx_session.specs.declared.act.Act.TheVariants as act
use Rattle.smx_session.specs.declared.ask.Ask.{Ask}
use Rattle.smx_session.specs.declared.ask.Ask.TheVariants.{Bind, RefusedBind, Request}
use Rattle.smx_session.specs.declared.bind_check.Checked.{Checked}
use Rattle.smx_session.specs.declared.bind_check.Checked.TheVariants.{Refused, Granted}
use Rattle.smx_session.specs.declared.client_state.ClientState.{ClientState}
use Rattle.smx_turns.specs.declared.step.Step.TheVariants.{Did}
use Rattle.smx_client.specs.declared.event.Event.TheVariants.{Decided}
use Rattle.smx_client.specs.declared.event.Fate.TheVariants.{Own}
use Rattle.smx_client.specs.declared.event.Verdict.{Verdict}
use Rattle.smx_client.specs.declared.event.Verdict.TheVariants as verdict
use Rattle.smx_client.specs.Sayings.{IsVerdict}
use Rattle.smx_client.specs.Serving.{asks_in}
use Rattle.smx_client.specs.Table.{Before, Phase, Deciding, MayBind, MayRefuse, Wrong, go, from_deciding, from_may_bind, from_may_refuse, when_bound, when_refused, with_leave, after_act, after_bind, after_verdict, Wants}

module _ (t : Before) where
  owns : (ended : Bool) (p : Snapshot Pdu) (b : Snapshot Act) (a : Act) (v : Verdict) (w : Verdict) → b.value ≡ a → v ≡ w → after_act ended a ≡ after_verdict ended w
      → go t (Deciding ended) (Did (Decided p b Own)) ≡ after_verdict ended v
  unfolding go from_deciding
  owns ended p b a v w same is stands = ap (after_act ended) same ∙ stands ∙ sym (ap (after_verdict ended) is)

  binds : (ended : Bool) (p : Snapshot Pdu) (b : Snapshot Act) (k : Kind) (i : ℕ) (q : Pdu) (v : Verdict) → b.value ≡ act.Bind k i q → v ≡ verdict.Bound k i
      → go t (MayBind ended i) (Did (Decided p b Own)) ≡ after_verdict ended v
  unfolding go from_may_bind
  binds ended p b k i q v same is = ap (when_bound ended i) same ∙ ap (λ x. if x then after_bind ended k i else Wrong) (eq-eqb i i refl) ∙ sym (ap (after_verdict ended) is)

  refuses : (ended : Bool) (p : Snapshot Pdu) (b : Snapshot Act) (q : Pdu) (v : Verdict) → b.value ≡ act.Refuse q → v ≡ verdict.Next
      → go t (MayRefuse ended) (Did (Decided p b Own)) ≡ after_verdict ended v
  unfolding go from_may_refuse
  refuses ended p b q v same is = ap (when_refused ended) same ∙ sym (ap (after_verdict ended) is)

  checks_own : (ended : Bool) (k : Kind) (x : Checked) (s : ClientState) (q : Pdu) (p : Snapshot Pdu) (b : Snapshot Act) (v : Verdict) → b.value ≡ (bind_decision k x s q).0 → IsVerdict (bind_decision k x s q).0 v
      → go t (with_leave ended (Some (bind_asks x))) (Did (Decided p b Own)) ≡ after_verdict ended v
  checks_own ended k (Refused status) s q p b v same is = refuses ended p b _ v same is
  checks_own ended k (Granted i version) s q p b v same is = binds ended p b k i _ v same is

  ruled_own : (ended : Bool) (x : Option ℕ) (s : ClientState) (q : Pdu) (p : Snapshot Pdu) (b : Snapshot Act) (v : Verdict) → b.value ≡ (request_decision x s q).0 → IsVerdict (request_decision x s q).0 v
      → request_asks x ≢ Some Request → go t (with_leave ended (request_asks x)) (Did (Decided p b Own)) ≡ after_verdict ended v
  ruled_own ended None s q p b v same is own = absurd (own refl)
  ruled_own ended (Some status) s q p b v same is own = owns ended p b _ v _ same is refl

  cell_own : (ended : Bool) (c : ClientCell) (accounts : List Login) (account : Option ℕ) (s : ClientState) (q : Pdu) (p : Snapshot Pdu) (b : Snapshot Act) (v : Verdict) → b.value ≡ (client_decision c accounts account s q).0 → IsVerdict (client_decision c accounts account s q).0 v
      → cell_asks c accounts account q ≢ Some Request → ((n : ℕ) → (client_decision c accounts account s q).0 ≢ act.MoAnswer n)
      → go t (with_leave ended (cell_asks c accounts account q)) (Did (Decided p b Own)) ≡ after_verdict ended v
  cell_own ended (checks k) accounts account s q p b v same is own m = checks_own ended k (check_bind accounts q.body) s q p b v same is
  cell_own ended (answer status) accounts account s q p b v same is own m = owns ended p b _ v _ same is refl
  cell_own ended nack accounts account s q p b v same is own m = owns ended p b _ v _ same is refl
  cell_own ended forward accounts account s q p b v same is own m = ruled_own ended (ruled_out (rules_of accounts account) q) s q p b v same is own
  cell_own ended message_answer accounts account s q p b v same is own m = absurd (m q.number refl)
  cell_own ended leave accounts account s q p b v same is own m = owns ended p b _ v _ same is refl
  cell_own ended closed accounts account s q p b v same is own m = owns ended p b _ v _ same is refl
  cell_own ended ignore accounts account s q p b v same is own m = owns ended p b _ v _ same is refl

  -- the session alone decided the PDU that waited, with the leave that it asked for
  pub owned : (ended : Bool) (accounts : List Login) (account : Option ℕ) (s : ClientState) (h : Option Pdu) (q : Pdu) (o : Option Ask) (p : Snapshot Pdu) (b : Snapshot Act) (a : Act) (v : Verdict) → Some q ≡ h → o ≡ asks_in accounts account s h
      → b.value ≡ a → a ≡ (client_decides accounts account s q).0 → IsVerdict a v → o ≢ Some Request → ((n : ℕ) → a ≢ act.MoAnswer n)
      → go t (with_leave ended o) (Did (Decided p b Own)) ≡ after_verdict ended v
  owned ended accounts account s h q o p b a v had asks same is says own m =
      let asked : o ≡ client_asks accounts account s q = asks ∙ ap (asks_in accounts account s) (sym had) in
      ap (λ x. go t (with_leave ended x) (Did (Decided p b Own))) asked
      ∙ cell_own ended (client_cell (client_row q.command) s) accounts account s q p b v (same ∙ is) (subst (λ x. IsVerdict x v) is says) (λ e. own (asked ∙ e)) (λ n e. m n (is ∙ e))

-- memory may be wanted with any leave
wants_with : (ended : Bool) (o : Option Ask) → Wants (with_leave ended o)
wants_with ended None = tt
wants_with ended (Some (Bind i)) = tt
wants_with ended (Some RefusedBind) = tt
wants_with ended (Some Request) = tt

pub leave_wants : (p : Phase) (ended : Bool) (o : Option Ask) → p ≡ with_leave ended o → Wants p
leave_wants p ended o is = subst Wants (sym is) (wants_with ended o)
