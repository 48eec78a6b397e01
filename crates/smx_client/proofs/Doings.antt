-- Each event as one step of the parts, said of plain values.
use Rattle.std.proofs.Common.{◌≡◌, ◌≤◌, ◌<◌, ℕ, List, [], ◌∷◌, ◌++◌, length, sym, ◌∙◌, ap, refl, subst, Option, Some, None, Result}
use Rattle.std.proofs.lemmas.List.{append-nil}
use Rattle.std.specs.declared.snapshot.Snapshot.{Snapshot}
use Rattle.smx_pdu.specs.declared.pdu.Pdu.{Pdu}
use Rattle.smx_pdu.specs.Answers.{nack_of_undecoded}
use Rattle.smx_session.specs.ClientTable.{client_decides, account_after}
use Rattle.smx_session.specs.ClientMoments.{Client, after_octets, client_enquiry, after_client_moment, client_farewell, client_state_after_stop}
use Rattle.smx_session.specs.declared.act.Act.{Act}
use Rattle.smx_session.specs.declared.act.Act.TheVariants as act
use Rattle.smx_session.specs.declared.ask.Ask.{Ask}
use Rattle.smx_session.specs.declared.enquiry.Enquiry.{Enquiry}
use Rattle.smx_session.specs.declared.client_state.ClientState.TheVariants.{Ended}
use Rattle.smx_lock.specs.declared.faults.Spent.{Spent}
use Rattle.smx_box.specs.declared.fault.Spent.{Spent as BoxSpent}
use Rattle.smx_shared.specs.Views.{PortView}
use Rattle.smx_shared.specs.Offers.{Accepted, accepted_by}
use Rattle.smx_shared.specs.Ports.{HasAccepted}
use Rattle.smx_shared.specs.declared.offer.Offer.{Offer}
use Rattle.smx_shared.specs.declared.fault.SubmitFault.{SubmitFault}
use Rattle.smx_shared.specs.declared.batch.Collected.{Collected as Batch}
use Rattle.smx_shared.specs.declared.batch.Landing.{Landing}
use Rattle.smx_shared.specs.Landings.{accepted_all}
use Rattle.std.specs.Global.{Vec}
use Rattle.smx_box.specs.declared.receiver.Got.{Got}
use Rattle.smx_box.specs.Boxes.{Sending, Receiving}
use Rattle.smx_routes.specs.Window.{Window}
use Rattle.smx_turns.specs.declared.mo_item.MoItem.{MoItem}
use Rattle.smx_turns.specs.Worth.{those}
use Rattle.smx_client.specs.declared.desk.Desk.{Desk}
use Rattle.smx_client.specs.declared.reply.Parked.{Parked}
use Rattle.smx_client.specs.declared.reply.Reply.{Reply}
use Rattle.smx_client.specs.declared.event.Event.TheVariants.{Decided, Broke, Collected, PutAgain, Heard, Expired, Looked, Unbound, Forwarded, LinkEnded, Got as Fetched}
use Rattle.smx_client.specs.declared.event.Fate.TheVariants.{Own, Submitted, Barred, Settled}
use Rattle.smx_client.specs.declared.event.Delivery.{Delivery}
use Rattle.smx_client.specs.Replies.{PutSo, SettlesSo, ExpiresSo, Parks, put_in, parked_on, on_lane}
use Rattle.smx_client.specs.Events.{act_out, refusal_out, refusals_out, response_out, enquiry_out, got_out, got_answers, settled_out, expired_answers}
use Rattle.smx_client.proofs.Bindings.{submits_by, settles_by}
use Rattle.smx_client.proofs.Replying.{put_count, settles_count, expires_count, delivery_count}
use Rattle.smx_client.specs.Parts.{parts, Does, Suits, fate_session, collect_step, submit_step, settle_step, expire_step, got_step, Gets, delivery_senders, delivery_parks, IsOfferOf, AreOffersOf, AreForwarded, list_step}

-- nothing is put, and nothing is to be answered
still : (l : List (Option Pdu)) → l ≡ l ++ []
still l = sym (append-nil l)

same_put : (x : List (Sending Pdu)) (h : Option Parked) (k : ℕ) → put_in x k ++ parked_on k h ≡ put_in x k ++ parked_on k h ++ []
same_put x h k = still (put_in x k ++ parked_on k h)

no_accept : (p : PortView) (all : List Accepted) → HasAccepted p all → HasAccepted p (all ++ [])
no_accept p all has = subst (HasAccepted p) (sym (append-nil all)) has

module _ (d : Desk) (said said' : List Pdu) (s : Client) (w : Window) (i : Receiving MoItem) (x : List (Sending Pdu)) (h : Option Parked) where
  pub collected : (p p' : PortView) (lane : ℕ) (r0 : Result Batch Spent) (r : Snapshot (Result Batch Spent)) → r.value ≡ r0 → said' ≡ said ++ response_out r0
      → collect_step lane r0 p p' → ((all : List Accepted) → HasAccepted p all → HasAccepted p' all) → Does (parts d said p s w i x h) (Collected lane r) (parts d said' p' s w i x h)
  collected p p' lane r0 r seen says step lists = record {
    says = says ∙ ap (λ o. said ++ response_out o) (sym seen);
    port = subst (λ o. collect_step lane o p p') (sym seen) step;
    lists = λ all has. no_accept p' all (lists all has);
    session = refl;
    window = refl;
    inbox = refl;
    senders = refl;
    answers = λ k within. same_put x h k;
    parked = refl;
    desk = refl;
    lanes = refl;
  }

  pub broke : (p : PortView) (s' : Client) (a0 : Act) (a : Snapshot Act) → a.value ≡ a0 → a0 ≡ act.Hangup nack_of_undecoded → s' ≡ record s { state = Ended } → said' ≡ said ++ act_out a0
      → Does (parts d said p s w i x h) (Broke a) (parts d said' p s' w i x h)
  broke p s' a0 a chosen is ended says = record {
    says = says ∙ ap (λ o. said ++ act_out o) (sym chosen);
    port = refl;
    lists = λ all has. no_accept p all has;
    session = (chosen ∙ is, ended);
    window = refl;
    inbox = refl;
    senders = refl;
    answers = λ k within. same_put x h k;
    parked = refl;
    desk = refl;
    lanes = refl;
  }

  -- octets came
  pub heard : (p : PortView) (s' : Client) (now : ℕ) → said' ≡ said → s' ≡ after_octets s now → Does (parts d said p s w i x h) (Heard now) (parts d said' p s' w i x h)
  heard p s' now says session = record {
    says = says ∙ sym (append-nil said);
    port = refl;
    lists = λ all has. no_accept p all has;
    session = session;
    window = refl;
    inbox = refl;
    senders = refl;
    answers = λ k within. same_put x h k;
    parked = refl;
    desk = refl;
    lanes = refl;
  }

  -- a message was overdue, or none was
  pub expired : (p : PortView) (w' : Window) (x' : List (Sending Pdu)) (h' : Option Parked) (until : ℕ) (found : Option (ℕ × ℕ × ℕ)) (reply : Reply)
      → said' ≡ said → expire_step until found w w' → ExpiresSo found reply x x' → h ≡ None → Parks reply h'
      → ((k : ℕ) → k < length x → put_in x' k ++ parked_on k h' ≡ put_in x k ++ parked_on k h ++ expired_answers k found)
      → Does (parts d said p s w i x h) (Expired until found reply) (parts d said' p s w' i x' h')
  expired p w' x' h' until found reply says window so none parks answers = record {
    says = says ∙ sym (append-nil said);
    port = refl;
    lists = λ all has. no_accept p all has;
    session = refl;
    window = window;
    inbox = refl;
    senders = so;
    answers = answers;
    parked = (none, parks);
    desk = refl;
    lanes = expires_count found reply x x' so;
  }

  -- the moment was handed in
  pub looked : (p : PortView) (s' : Client) (now : ℕ) (e0 : Enquiry) (e : Snapshot Enquiry) → e.value ≡ e0 → e0 ≡ client_enquiry s now → s' ≡ after_client_moment s now → said' ≡ said ++ enquiry_out e0
      → Does (parts d said p s w i x h) (Looked now e) (parts d said' p s' w i x h)
  looked p s' now e0 e seen is session says = record {
    says = says ∙ ap (λ o. said ++ enquiry_out o) (sym seen);
    port = refl;
    lists = λ all has. no_accept p all has;
    session = (seen ∙ is, session);
    window = refl;
    inbox = refl;
    senders = refl;
    answers = λ k within. same_put x h k;
    parked = refl;
    desk = refl;
    lanes = refl;
  }

  -- the session alone decided
  pub owned : (p : PortView) (s' : Client) (q : Snapshot Pdu) (a : Snapshot Act) → said' ≡ said ++ (act_out a.value ++ [])
      → ((a.value, s'.state) ≡ client_decides d.accounts.items s.account s.state q.value) × Suits a.value Own → s' ≡ record s { state = s'.state; account = account_after a.value s.account } → Does (parts d said p s w i x h) (Decided q a Own) (parts d said' p s' w i x h)
  owned p s' q a says session kept = record {
    says = says;
    port = refl;
    lists = λ all has. no_accept p all has;
    session = (session.0, session.1, kept);
    window = refl;
    inbox = refl;
    senders = refl;
    answers = λ k within. same_put x h k;
    parked = refl;
    desk = refl;
    lanes = refl;
  }

  -- the gate gave no leave
  pub barred : (p : PortView) (q : Snapshot Pdu) (a : Snapshot Act) (l : Ask) → said' ≡ said ++ (act_out a.value ++ []) → fate_session d.accounts.items s q.value a.value (Barred l) s → Does (parts d said p s w i x h) (Decided q a (Barred l)) (parts d said' p s w i x h)
  barred p q a l says session = record {
    says = says;
    port = refl;
    lists = λ all has. no_accept p all has;
    session = session;
    window = refl;
    inbox = refl;
    senders = refl;
    answers = λ k within. same_put x h k;
    parked = refl;
    desk = refl;
    lanes = refl;
  }

  -- the link has ended
  pub ebbed : (p : PortView) → Does (parts d said p s w i x h) LinkEnded (parts d said p s w i x h)
  ebbed p = record {
    says = sym (append-nil said);
    port = refl;
    lists = λ all has. no_accept p all has;
    session = refl;
    window = refl;
    inbox = refl;
    senders = refl;
    answers = λ k within. same_put x h k;
    parked = refl;
    desk = refl;
    lanes = refl;
  }

  -- its client is sent unbind, where it was bound
  pub unbound : (p : PortView) (s' : Client) (o0 : Option Pdu) (o : Snapshot (Option Pdu)) → o.value ≡ o0 → o0 ≡ client_farewell s.state → s' ≡ record s { state = client_state_after_stop s.state } → said' ≡ said ++ those o0
      → Does (parts d said p s w i x h) (Unbound o) (parts d said' p s' w i x h)
  unbound p s' o0 o seen is session says = record {
    says = says ∙ ap (λ y. said ++ those y) (sym seen);
    port = refl;
    lists = λ all has. no_accept p all has;
    session = (seen ∙ is, session);
    window = refl;
    inbox = refl;
    senders = refl;
    answers = λ k within. same_put x h k;
    parked = refl;
    desk = refl;
    lanes = refl;
  }

  pub submitted : (p p' : PortView) (q : Snapshot Pdu) (a : Snapshot Act) (o : Snapshot Offer) (r : Snapshot (Result ℕ (Offer × SubmitFault)))
      → said' ≡ said ++ (act_out a.value ++ refusal_out q.value r.value) → IsOfferOf q.value o.value × submit_step o.value r.value p p'
      → ((all : List Accepted) → HasAccepted p all → HasAccepted p' (all ++ accepted_by o.value r.value))
      → ((a.value, s.state) ≡ client_decides d.accounts.items s.account s.state q.value) × Suits a.value (Submitted o r)
      → Does (parts d said p s w i x h) (Decided q a (Submitted o r)) (parts d said' p' s w i x h)
  submitted p p' q a o r says step lists session = record {
    says = says;
    port = step;
    lists = lists;
    session = (session.0, session.1, ap (λ o. record s { account = o }) (submits_by a.value o r s.account session.1));
    window = refl;
    inbox = refl;
    senders = refl;
    answers = λ k within. same_put x h k;
    parked = refl;
    desk = refl;
    lanes = refl;
  }

  -- requests went to the one lane in one hold
  pub forwarded : (p p' : PortView) (ps : List Pdu) (os : Snapshot (Vec Offer)) (r : Snapshot (Result (Vec Landing) (Vec Offer × Spent))) → said' ≡ said ++ refusals_out ps r.value
      → (length ps ≤ 16) × AreOffersOf ps os.value.items × list_step os.value.items r.value p p' → ((all : List Accepted) → HasAccepted p all → HasAccepted p' (all ++ accepted_all os.value.items r.value))
      → AreForwarded d.accounts.items s ps → Does (parts d said p s w i x h) (Forwarded ps os r) (parts d said' p' s w i x h)
  forwarded p p' ps os r says step lists session = record {
    says = says;
    port = step;
    lists = lists;
    session = (session, refl);
    window = refl;
    inbox = refl;
    senders = refl;
    answers = λ k within. same_put x h k;
    parked = refl;
    desk = refl;
    lanes = refl;
  }

  pub settled : (p : PortView) (w' : Window) (x' : List (Sending Pdu)) (h' : Option Parked) (p0 : Pdu) (q : Snapshot Pdu) (a : Snapshot Act) (found : Option (ℕ × ℕ)) (reply : Reply)
      → q.value ≡ p0 → said' ≡ said ++ (act_out a.value ++ []) → ((a.value, s.state) ≡ client_decides d.accounts.items s.account s.state q.value) × Suits a.value (Settled found reply)
      → settle_step q.value found w w' → SettlesSo p0 found reply x x' → h ≡ None → Parks reply h'
      → ((k : ℕ) → k < length x → put_in x' k ++ parked_on k h' ≡ put_in x k ++ parked_on k h ++ settled_out k p0 found)
      → Does (parts d said p s w i x h) (Decided q a (Settled found reply)) (parts d said' p s w' i x' h')
  settled p w' x' h' p0 q a found reply seen says session window so none parks answers = record {
    says = says;
    port = refl;
    lists = λ all has. no_accept p all has;
    session = (session.0, session.1, ap (λ o. record s { account = o }) (settles_by a.value found reply s.account session.1));
    window = window;
    inbox = refl;
    senders = subst (λ o. SettlesSo o found reply x x') (sym seen) so;
    answers = λ k within. answers k within ∙ ap (λ o. put_in x k ++ parked_on k h ++ settled_out k o found) (sym seen);
    parked = (none, parks);
    desk = refl;
    lanes = settles_count p0 found reply x x' so;
  }

  pub got : (p : PortView) (w' : Window) (i' : Receiving MoItem) (x' : List (Sending Pdu)) (h' : Option Parked) (r0 : Result (Got MoItem) BoxSpent) (r : Snapshot (Result (Got MoItem) BoxSpent)) (e : Delivery)
      → r.value ≡ r0 → said' ≡ said ++ got_out r0 e → got_step r0 e w w' → Gets p.client (length x) i r0 e i' → delivery_senders r0 e x x' → delivery_parks e h h'
      → ((k : ℕ) → k < length x → put_in x' k ++ parked_on k h' ≡ put_in x k ++ parked_on k h ++ got_answers k r0 e)
      → Does (parts d said p s w i x h) (Fetched r e) (parts d said' p s w' i' x' h')
  got p w' i' x' h' r0 r e seen says window gets so parks answers = record {
    says = says ∙ ap (λ o. said ++ got_out o e) (sym seen);
    port = refl;
    lists = λ all has. no_accept p all has;
    session = refl;
    window = subst (λ o. got_step o e w w') (sym seen) window;
    inbox = subst (λ o. Gets p.client (length x) i o e i') (sym seen) gets;
    senders = subst (λ o. delivery_senders o e x x') (sym seen) so;
    answers = λ k within. answers k within ∙ ap (λ o. put_in x k ++ parked_on k h ++ got_answers k o e) (sym seen);
    parked = parks;
    desk = refl;
    lanes = delivery_count r0 e x x' so;
  }

-- the answer that waits no more, or again
again : (x x' : List (Sending Pdu)) (h h0 h' : Option Parked) (a : Parked) (k : ℕ) → Some a ≡ h → h0 ≡ None
    → put_in x' k ++ parked_on k h' ≡ put_in x k ++ parked_on k h0 ++ on_lane k a.lane (a.answer ∷ [])
    → put_in x' k ++ parked_on k h' ≡ put_in x k ++ parked_on k h ++ []
again x x' h h0 h' a k had none was =
    was ∙ ap (λ o. put_in x k ++ parked_on k o ++ on_lane k a.lane (a.answer ∷ [])) none
    ∙ ap (λ l. l ++ on_lane k a.lane (a.answer ∷ [])) (append-nil (put_in x k))
    ∙ ap (λ o. put_in x k ++ parked_on k o) had ∙ still (put_in x k ++ parked_on k h)

pub put_again : (d : Desk) (said : List Pdu) (s : Client) (w : Window) (i : Receiving MoItem) (x x' : List (Sending Pdu)) (h h0 h' : Option Parked) (p : PortView) (a : Parked) (reply : Reply)
    → Some a ≡ h → h0 ≡ None → PutSo a.lane a.answer reply x x' → Parks reply h'
    → ((k : ℕ) → k < length x → put_in x' k ++ parked_on k h' ≡ put_in x k ++ parked_on k h0 ++ on_lane k a.lane (a.answer ∷ []))
    → Does (parts d said p s w i x h) (PutAgain a.lane reply) (parts d said p s w i x' h')
put_again d said s w i x x' h h0 h' p a reply had none so parks answers = record {
  says = sym (append-nil said);
  port = refl;
  lists = λ all has. no_accept p all has;
  session = refl;
  window = refl;
  inbox = refl;
  senders = (a, sym had, so);
  answers = λ k within. again x x' h h0 h' a k had none (answers k within);
  parked = (a, sym had, refl, parks);
  desk = refl;
  lanes = put_count a.lane a.answer reply x x' so;
}
