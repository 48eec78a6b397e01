-- What a worker keeps by one event more.
use Rattle.std.proofs.Common.{◌≡◌, ◌≢◌, ◌<◌, ℕ, List, [], ◌∷◌, ◌++◌, length, Bool, true, true≢false, Option, Some, None, IsSome, Result, sym, ◌∙◌, ap, refl, subst, append_assoc}
use Rattle.smx_pdu.specs.declared.pdu.Pdu.{Pdu}
use Rattle.smx_frame.specs.Stream.{HasNone}
use Rattle.smx_link.specs.declared.link.Polled.{Polled}
use Rattle.smx_link.specs.declared.link.LinkFault.{LinkFault}
use Rattle.smx_shared.specs.Views.{locks_of}
use Rattle.smx_session.specs.ClientMoments.{client_state_after_stop}
use Rattle.smx_session.specs.Login.{Login}
use Rattle.smx_session.specs.declared.ask.Ask.{Ask}
use Rattle.smx_session.specs.declared.client_state.ClientState.{ClientState}
use Rattle.smx_session.specs.declared.client_state.ClientState.TheVariants.{Ended}
use Rattle.smx_turns.specs.Wires.{has_ended}
use Rattle.smx_turns.specs.Worth.{ins, those}
use Rattle.smx_turns.proofs.Breaking.{BadKept, still_bad}
use Rattle.smx_turns.proofs.Chains.{chain_push}
use Rattle.smx_turns.proofs.Logged.{phase_push}
use Rattle.smx_turns.proofs.Worths.{ending_push, heard_push, ins_push}
use Rattle.smx_turns.specs.Endings.{or_end}
use Rattle.smx_client.specs.Refusals.{refused_after, last_refused}
use Rattle.smx_client.specs.declared.event.Event.{Event}
use Rattle.smx_client.specs.declared.stage.Stage.{Stage}
use Rattle.smx_client.specs.declared.stage.Stage.TheVariants.{Closed}
use Rattle.smx_client.specs.Events.{worth}
use Rattle.smx_client.specs.Parts.{Parts, Does, Chain}
use Rattle.smx_client.specs.Serving.{Serving, IsServing, parts_of, first_of, asks_in}

-- the PDU that waits is decided
pub decides : (h h' : Option Pdu) (p q : Pdu) → q ≡ p → Some p ≡ h → h' ≡ None → q ∷ those h' ≡ those h
decides h h' p q same had none = ap (λ o. q ∷ those o) none ∙ ap (λ (x : Pdu). x ∷ []) same ∙ ap those had

-- where a leave is asked for, a PDU waits
pub some_asks : (accounts : List Login) (account : Option ℕ) (c : ClientState) (h : Option Pdu) (l : Ask) → asks_in accounts account c h ≡ Some l → IsSome h
some_asks accounts account c None l asked = absurd (cc)
some_asks accounts account c (Some p) l asked = refl

-- where a PDU waits, not every whole PDU was decided
pub undecided : {A : Type 0} (b : Bool) (h : Option Pdu) (r : List ℕ) → (b ≡ true → (h ≡ None) × HasNone 65536 r) → IsSome h → b ≡ true → A
undecided b h r all waits none_left = absurd (true≢false (sym (subst IsSome (all none_left).0 waits)))

-- fewer than 65,536 octets wait of the same worker
pub as_below : {L : Type 0} (v w : Serving L) → v ≡ w → length w.wire.unsent < 65536 → length v.wire.unsent < 65536
as_below {L = L} v w same below = subst (λ (x : Serving L). length x.wire.unsent < 65536) (sym same) below

module _ {L : Type 0} (polls : L → List (Result Polled LinkFault)) where
  -- over the same link it is closed as before
  pub as_closed : (l l' : L) (s : Stage) (c : ClientState) (b : Bool) → l' ≡ l → (s ≡ Closed → c ≢ Ended → (b ≡ true) × (has_ended (polls l) ≡ true))
      → s ≡ Closed → c ≢ Ended → (b ≡ true) × (has_ended (polls l') ≡ true)
  as_closed l l' s c b link was at going = let h = was at going in (h.0, ap (λ x. has_ended (polls x)) link ∙ h.1)

  -- a session that has not ended at its stop had not before
  pub stops_closed : (l l' : L) (s : Stage) (c c' : ClientState) (b : Bool) → l' ≡ l → c' ≡ client_state_after_stop c → (s ≡ Closed → c ≢ Ended → (b ≡ true) × (has_ended (polls l) ≡ true))
      → s ≡ Closed → c' ≢ Ended → (b ≡ true) × (has_ended (polls l') ≡ true)
  stops_closed l l' s c c' b link stopped was at going = as_closed l l' s c b link was at (λ e. going (stopped ∙ ap client_state_after_stop e))

  -- it did one thing more, and what was heard is what was decided and one that waits
  heard_and_did : (v w : Serving L) (e : Event) → IsServing polls v → w.wire.link ≡ v.wire.link → w.wire.start ≡ v.wire.start → w.stage ≡ v.stage → first_of w ≡ first_of v → locks_of w.port.fronts ≡ locks_of v.port.fronts → w.events ≡ v.events ++ e ∷ []
      → w.ending ≡ or_end v.ending (worth e).ends → w.refused ≡ refused_after v.refused e → w.wire.heard ≡ ins worth w.events ++ those w.held → Does (parts_of v) e (parts_of w)
      → (w.settled ≡ true → (w.held ≡ None) × HasNone 65536 w.wire.rest) → BadKept (worth e).breaks v.wire w.wire
      → (w.stage ≡ Closed → w.session.state ≢ Ended → (w.settled ≡ true) × (has_ended (polls w.wire.link) ≡ true)) → IsServing polls w
  unfolding last_refused
  heard_and_did v w e was link start stage first locks grown ends refuses heard does settled bad closed = record {
    heard = heard;
    runs = chain_push Does (first_of w) (parts_of v) (parts_of w) v.events w.events e grown does (subst (λ (a : Parts). Chain a v.events (parts_of v)) (sym first) was.runs);
    settled = settled;
    locks = locks ∙ was.locks ∙ sym (ap (λ (a : Parts). locks_of a.port.fronts) first);
    over = ending_push worth v.events w.events e v.ending w.ending grown was.over ends;
    turned_away = refuses ∙ sym (phase_push refused_after None v.events w.events e v.refused (refused_after v.refused e) grown refl (sym was.turned_away));
    broken = still_bad worth v.wire w.wire v.events w.events e grown was.broken bad;
    opened = λ at ended. ap polls link ∙ was.opened (sym stage ∙ at) (ap (λ l. has_ended (polls l)) (sym link) ∙ ended) ∙ ap polls (sym start);
    drained = λ at. ap (λ l. has_ended (polls l)) link ∙ was.drained (sym stage ∙ at);
    closed = closed;
  }

  -- it did one thing more, which reads nothing
  pub did : (v w : Serving L) (e : Event) → IsServing polls v → w.wire.link ≡ v.wire.link → w.wire.start ≡ v.wire.start → w.stage ≡ v.stage → first_of w ≡ first_of v → locks_of w.port.fronts ≡ locks_of v.port.fronts → w.events ≡ v.events ++ e ∷ []
      → w.ending ≡ or_end v.ending (worth e).ends → w.refused ≡ refused_after v.refused e → w.wire.heard ≡ v.wire.heard → (worth e).decided ++ those w.held ≡ those v.held → Does (parts_of v) e (parts_of w)
      → (w.settled ≡ true → (w.held ≡ None) × HasNone 65536 w.wire.rest) → BadKept (worth e).breaks v.wire w.wire
      → (w.stage ≡ Closed → w.session.state ≢ Ended → (w.settled ≡ true) × (has_ended (polls w.wire.link) ≡ true)) → IsServing polls w
  did v w e was link start stage first locks grown ends refuses heard decided =
      heard_and_did v w e was link start stage first locks grown ends refuses (heard_push worth v.wire.heard w.wire.heard v.events w.events e v.held w.held grown was.heard heard decided)

  -- or which heard these and decided them with the one that waited, and now another waits
  pub did_hearing : (v w : Serving L) (e : Event) (ps : List Pdu) → IsServing polls v → w.wire.link ≡ v.wire.link → w.wire.start ≡ v.wire.start → w.stage ≡ v.stage → first_of w ≡ first_of v → locks_of w.port.fronts ≡ locks_of v.port.fronts → w.events ≡ v.events ++ e ∷ []
      → w.ending ≡ or_end v.ending (worth e).ends → w.refused ≡ refused_after v.refused e → w.wire.heard ≡ v.wire.heard ++ ps ++ those w.held → (worth e).decided ≡ those v.held ++ ps → Does (parts_of v) e (parts_of w)
      → (w.settled ≡ true → (w.held ≡ None) × HasNone 65536 w.wire.rest) → BadKept (worth e).breaks v.wire w.wire
      → (w.stage ≡ Closed → w.session.state ≢ Ended → (w.settled ≡ true) × (has_ended (polls w.wire.link) ≡ true)) → IsServing polls w
  did_hearing v w e ps was link start stage first locks grown ends refuses heard decided =
      heard_and_did v w e was link start stage first locks grown ends refuses
      (heard ∙ ap (λ l. l ++ ps ++ those w.held) was.heard
      ∙ ap (λ l. l ++ those w.held) (append_assoc (ins worth v.events) (those v.held) ps ∙ ap (λ l. ins worth v.events ++ l) (sym decided) ∙ sym (ins_push worth v.events w.events e grown)))

  -- the same session, and the same PDU that waits
  pub holds_on : (v w : Serving L) → IsServing polls v → w ≡ record v { session = w.session; held = w.held } → w.session ≡ v.session → w.held ≡ v.held → IsServing polls w
  holds_on v w was same session held = subst (IsServing polls) (sym (same ∙ (λ i. record v { session = session i; held = held i }))) was
