-- What becomes of a PDU, said of plain values.
use Rattle.std.proofs.Common.{◌≡◌, ◌≢◌, ℕ, List, [], ◌++◌, sym, ◌∙◌, ap, refl, subst, Option, Some, None, Result, Ok, Err, IfOk, IfErr, IfSome, IfNone}
use Rattle.std.proofs.lemmas.List.{append-nil}
use Rattle.smx_pdu.specs.declared.pdu.Pdu.{Pdu}
use Rattle.smx_session.specs.Login.{Login}
use Rattle.smx_session.specs.ClientMoments.{Client}
use Rattle.smx_session.specs.ClientAsks.{bind_asks, request_asks, cell_asks, client_asks, client_bars}
use Rattle.smx_session.specs.declared.ask.Ask.{Ask}
use Rattle.smx_session.specs.declared.ask.Ask.TheVariants.{Request}
use Rattle.smx_session.specs.ClientTable.{client_decides, client_decision, client_cell, client_row, bind_decision, request_decision, account_after, ClientCell}
use Rattle.smx_session.specs.declared.client_row.ClientRow.{ClientRow}
use Rattle.smx_session.specs.declared.client_row.ClientRow.TheVariants as row
use Rattle.smx_session.specs.Rules.{rules_of, ruled_out}
use Rattle.smx_session.specs.ClientTable.ClientCell.{checks, answer, nack, forward, message_answer, leave, closed, ignore}
use Rattle.smx_session.specs.Binds.{check_bind}
use Rattle.smx_session.specs.declared.kind.Kind.{Kind}
use Rattle.smx_session.specs.declared.bind_check.Checked.{Checked}
use Rattle.smx_session.specs.declared.bind_check.Checked.TheVariants.{Refused, Granted}
use Rattle.smx_session.specs.declared.act.Act.{Act}
use Rattle.smx_session.specs.declared.act.Act.TheVariants as act
use Rattle.smx_session.specs.declared.client_state.ClientState.{ClientState}
use Rattle.smx_session.specs.declared.client_state.ClientState.TheVariants.{Ended}
use Rattle.smx_shared.specs.Views.{PortView}
use Rattle.smx_shared.specs.Offers.{Accepted, accepted_by}
use Rattle.smx_shared.specs.Ports.{HasAccepted}
use Rattle.smx_shared.specs.Submits.{Submitted as Lands, Refuses}
use Rattle.smx_shared.specs.declared.offer.Offer.{Offer}
use Rattle.smx_shared.specs.declared.fault.SubmitFault.{SubmitFault}
use Rattle.smx_routes.specs.declared.mo_window.Waiting.{Waiting}
use Rattle.smx_routes.specs.Window.{Window, message_for, without}
use Rattle.smx_client.specs.declared.event.Fate.{Fate}
use Rattle.smx_client.specs.declared.event.Fate.TheVariants.{Own, Barred}
use Rattle.smx_client.specs.Events.{act_out, refusal_out}
use Rattle.smx_client.specs.Parts.{submit_step, settle_step, fate_session, IsOfferOf, Suits}
use Rattle.smx_client.specs.declared.event.Verdict.{Verdict}
use Rattle.smx_client.specs.declared.event.Verdict.TheVariants as verdict
use Rattle.smx_client.specs.Sayings.{asked_of, IsVerdict}
use Rattle.smx_client.specs.Serving.{asks_in}

refusal_same : (p : Pdu) (r : Result ℕ (Offer × SubmitFault)) → refusal_out (asked_of p.command p.number) r ≡ refusal_out p r
refusal_same p (Ok lane) = refl
refusal_same p (Err e) = refl

-- what the event of a submit says
pub forward_out : (p q : Pdu) (a : Act) (r s : Result ℕ (Offer × SubmitFault)) → a ≡ act.Forward → q ≡ p → s ≡ r → refusal_out (asked_of p.command p.number) r ≡ act_out a ++ refusal_out q s
forward_out p q a r s is same landed =
    refusal_same p r ∙ sym (ap (λ x. act_out x ++ refusal_out q s) is ∙ ap (λ x. refusal_out x s) same ∙ ap (λ x. refusal_out p x) landed)

submit_is : (o : Offer) (r : Result ℕ (Offer × SubmitFault)) (v w : PortView) → IfOk r (Lands v o w) → IfErr r (λ e. (e.0 ≡ o) × Refuses v o w e.1) → submit_step o r v w
submit_is o (Ok lane) v w ok err = ok
submit_is o (Err e) v w ok err = err

pub forward_port : (p q : Pdu) (o o' : Offer) (r s : Result ℕ (Offer × SubmitFault)) (v w : PortView) → q ≡ p → o' ≡ o → s ≡ r
    → IsOfferOf p o → IfOk r (Lands v o w) → IfErr r (λ e. (e.0 ≡ o) × Refuses v o w e.1) → IsOfferOf q o' × submit_step o' s v w
forward_port p q o o' r s v w same offered landed is ok err = (
  subst (λ x. IsOfferOf x o') (sym same) (subst (IsOfferOf p) (sym offered) is),
  subst (λ x. submit_step x s v w) (sym offered) (subst (λ x. submit_step o x v w) (sym landed) (submit_is o r v w ok err)),
)

pub forward_lists : (o o' : Offer) (r s : Result ℕ (Offer × SubmitFault)) (w : PortView) (all : List Accepted) → o' ≡ o → s ≡ r
    → HasAccepted w (all ++ accepted_by o r) → HasAccepted w (all ++ accepted_by o' s)
forward_lists o o' r s w all offered landed has =
    subst (λ x. HasAccepted w (all ++ accepted_by x s)) (sym offered) (subst (λ x. HasAccepted w (all ++ accepted_by o x)) (sym landed) has)

suits_forward : (a : Act) (f : Fate) (g : Suits act.Forward f) → a ≡ act.Forward → Suits a f
suits_forward a f g e = subst (λ x. Suits x f) (sym e) g

-- the session's state stays
pub stays : (accounts : List Login) (account : Option ℕ) (s : ClientState) (h : Option Pdu) (p q : Pdu) (a b : Act) (f : Fate) → Some p ≡ h → q ≡ p → b ≡ a → Suits a f
    → IfSome h (λ x. client_decides accounts account s x ≡ (a, s)) → ((b, s) ≡ client_decides accounts account s q) × Suits b f
stays accounts account s h p q a b f had same chosen suits decides =
    let here : client_decides accounts account s p ≡ (a, s) = subst (λ x. IfSome x (λ y. client_decides accounts account s y ≡ (a, s))) (sym had) decides in
    (ap (λ x. (x, s)) chosen ∙ sym here ∙ sym (ap (client_decides accounts account s) same), subst (λ x. Suits x f) (sym chosen) suits)

-- what the event of a decision by the session alone says
pub own_out : (a b : Act) → b ≡ a → act_out a ≡ act_out b ++ []
own_out a b chosen = sym (append-nil (act_out b) ∙ ap act_out chosen)

settle_is : (p : Pdu) (found : Option (ℕ × ℕ)) (w u : Window)
    → IfSome found (λ r. (row : Waiting) × (message_for p.number p.command w.waiting ≡ Some row) × (r.0 ≡ row.lane) × (r.1 ≡ row.number) × (u ≡ record w { waiting = without p.number w.waiting }))
    → IfNone found ((message_for p.number p.command w.waiting ≡ None) × (u ≡ w)) → settle_step p found w u
settle_is p (Some r) w u some none = some
settle_is p None w u some none = none

pub settle_window : (p q : Pdu) (found : Option (ℕ × ℕ)) (w u : Window) → q ≡ p
    → IfSome found (λ r. (row : Waiting) × (message_for p.number p.command w.waiting ≡ Some row) × (r.0 ≡ row.lane) × (r.1 ≡ row.number) × (u ≡ record w { waiting = without p.number w.waiting }))
    → IfNone found ((message_for p.number p.command w.waiting ≡ None) × (u ≡ w)) → settle_step q found w u
settle_window p q found w u same some none = subst (λ x. settle_step x found w u) (sym same) (settle_is p found w u some none)

-- its moments stay
pub kept_of : (s t : Client) (state : ClientState) (a b : Act) → b ≡ a → t ≡ record s { state = state; account = account_after a s.account }
    → t ≡ record s { state = t.state; account = account_after b s.account }
kept_of s t state a b chosen is =
    is ∙ ap (λ x. record s { state = x; account = account_after a s.account }) (sym (ap (λ x. x.state) is)) ∙ ap (λ x. record s { state = t.state; account = account_after x s.account }) (sym chosen)

-- of the PDU that waits
pub settles : (accounts : List Login) (account : Option ℕ) (s : ClientState) (h : Option Pdu) (p : Pdu) → Some p ≡ h → IfSome h (λ x. client_decides accounts account s x ≡ (act.MoAnswer x.number, s))
    → IfSome h (λ x. client_decides accounts account s x ≡ (act.MoAnswer p.number, s))
settles accounts account s h p had decides =
    subst (λ x. IfSome x (λ y. client_decides accounts account s y ≡ (act.MoAnswer p.number, s))) had
    (subst (λ x. IfSome x (λ y. client_decides accounts account s y ≡ (act.MoAnswer y.number, s))) (sym had) decides)

ended_row : (r : ClientRow) (accounts : List Login) (account : Option ℕ) (p : Pdu) → (client_decision (client_cell r Ended) accounts account Ended p).1 ≡ Ended
ended_row (row.Bind k) accounts account p = refl
ended_row row.Forwarded accounts account p = refl
ended_row row.DeliverSm accounts account p = refl
ended_row row.EnquireLink accounts account p = refl
ended_row row.Unbind accounts account p = refl
ended_row row.MessageAnswer accounts account p = refl
ended_row row.UnbindAnswer accounts account p = refl
ended_row row.OtherResponse accounts account p = refl
ended_row row.Unanswered accounts account p = refl
ended_row row.Unknown accounts account p = refl

-- a session that goes on after a PDU did so before
pub stays_ended : (accounts : List Login) (account : Option ℕ) (s t : ClientState) (p : Pdu) → t ≡ (client_decides accounts account s p).1 → t ≢ Ended → s ≢ Ended
stays_ended accounts account s t p is on over = on (is ∙ ap (λ x. (client_decides accounts account x p).1) over ∙ ended_row (client_row p.command) accounts account p)

says_bind : (k : Kind) (x : Checked) (s : ClientState) (p : Pdu) → Suits (bind_decision k x s p).0 Own
says_bind k (Refused status) s p = tt
says_bind k (Granted i version) s p = tt

says_request : (o : Option ℕ) (s : ClientState) (p : Pdu) (a : Act) → a ≡ (request_decision o s p).0 → a ≢ act.Forward → Suits (request_decision o s p).0 Own
says_request None s p a e f = f e
says_request (Some status) s p a e f = tt

says_cell : (c : ClientCell) (accounts : List Login) (account : Option ℕ) (s : ClientState) (p : Pdu) (a : Act) → a ≡ (client_decision c accounts account s p).0 → a ≢ act.Forward → ((n : ℕ) → a ≢ act.MoAnswer n)
    → Suits (client_decision c accounts account s p).0 Own
says_cell (checks k) accounts account s p a e f m = says_bind k (check_bind accounts p.body) s p
says_cell (answer status) accounts account s p a e f m = tt
says_cell nack accounts account s p a e f m = tt
says_cell forward accounts account s p a e f m = says_request (ruled_out (rules_of accounts account) p) s p a e f
says_cell message_answer accounts account s p a e f m = m p.number e
says_cell leave accounts account s p a e f m = tt
says_cell closed accounts account s p a e f m = tt
says_cell ignore accounts account s p a e f m = tt

-- the session alone decides
pub says_session : (accounts : List Login) (account : Option ℕ) (s t : ClientState) (p q : Pdu) (a b : Act) → q ≡ p → b ≡ a → a ≡ (client_decides accounts account s p).0 → t ≡ (client_decides accounts account s p).1
    → a ≢ act.Forward → ((n : ℕ) → a ≢ act.MoAnswer n) → ((b, t) ≡ client_decides accounts account s q) × Suits b Own
says_session accounts account s t p q a b same chosen act state f m = (
  ap (λ x. (x, t)) (chosen ∙ act) ∙ ap (λ x. ((client_decides accounts account s p).0, x)) state ∙ ap (client_decides accounts account s) (sym same),
  subst (λ x. Suits x Own) (sym (chosen ∙ act)) (says_cell (client_cell (client_row p.command) s) accounts account s p a act f m),
)

over_bind : (k : Kind) (x : Checked) (s : ClientState) (p : Pdu) (a : Act) (v : Verdict) → a ≡ (bind_decision k x s p).0 → IsVerdict a v → v ≡ verdict.Over → ⊥
over_bind k (Refused status) s p a v is says over = let next : v ≡ verdict.Next = subst (λ x. IsVerdict x v) is says in absurd (cc)
over_bind k (Granted i version) s p a v is says over = let next : v ≡ verdict.Bound k i = subst (λ x. IsVerdict x v) is says in absurd (cc)

over_request : (o : Option ℕ) (s : ClientState) (p : Pdu) (a : Act) (v : Verdict) → a ≡ (request_decision o s p).0 → IsVerdict a v → v ≡ verdict.Over → ⊥
over_request None s p a v is says over = subst (λ x. IsVerdict x v) is says
over_request (Some status) s p a v is says over = let next : v ≡ verdict.Next = subst (λ x. IsVerdict x v) is says in absurd (cc)

over_cell : (c : ClientCell) (accounts : List Login) (account : Option ℕ) (s : ClientState) (p : Pdu) (a : Act) (v : Verdict) → a ≡ (client_decision c accounts account s p).0 → IsVerdict a v → v ≡ verdict.Over
    → (client_decision c accounts account s p).1 ≡ Ended
over_cell (checks k) accounts account s p a v is says over = absurd (over_bind k (check_bind accounts p.body) s p a v is says over)
over_cell (answer status) accounts account s p a v is says over = let next : v ≡ verdict.Next = subst (λ x. IsVerdict x v) is says in absurd (cc)
over_cell nack accounts account s p a v is says over = let next : v ≡ verdict.Next = subst (λ x. IsVerdict x v) is says in absurd (cc)
over_cell forward accounts account s p a v is says over = absurd (over_request (ruled_out (rules_of accounts account) p) s p a v is says over)
over_cell message_answer accounts account s p a v is says over = let next : v ≡ verdict.Settle = subst (λ x. IsVerdict x v) is says in absurd (cc)
over_cell leave accounts account s p a v is says over = refl
over_cell closed accounts account s p a v is says over = refl
over_cell ignore accounts account s p a v is says over = let next : v ≡ verdict.Next = subst (λ x. IsVerdict x v) is says in absurd (cc)

-- once nothing more is decided, the session has ended
pub ends_session : (accounts : List Login) (account : Option ℕ) (s t : ClientState) (p : Pdu) (a : Act) (v : Verdict) → a ≡ (client_decides accounts account s p).0 → t ≡ (client_decides accounts account s p).1
    → IsVerdict a v → v ≡ verdict.Over → t ≡ Ended
ends_session accounts account s t p a v act state says over = state ∙ over_cell (client_cell (client_row p.command) s) accounts account s p a v act says over

asks_bind : (k : Kind) (x : Checked) (s : ClientState) (p : Pdu) → (bind_decision k x s p).0 ≢ act.Forward
asks_bind k (Refused status) s p = λ e. absurd (cc)
asks_bind k (Granted i version) s p = λ e. absurd (cc)

forwards : (o : Option ℕ) (s : ClientState) (p : Pdu) → (request_decision o s p).0 ≡ act.Forward → request_asks o ≡ Some Request
forwards None s p e = refl
forwards (Some status) s p e = absurd (cc)

forward_cell : (c : ClientCell) (accounts : List Login) (account : Option ℕ) (s : ClientState) (p : Pdu) → (client_decision c accounts account s p).0 ≡ act.Forward → cell_asks c accounts account p ≡ Some Request
forward_cell (checks k) accounts account s p e = absurd (asks_bind k (check_bind accounts p.body) s p e)
forward_cell (answer status) accounts account s p e = absurd (cc)
forward_cell nack accounts account s p e = absurd (cc)
forward_cell forward accounts account s p e = forwards (ruled_out (rules_of accounts account) p) s p e
forward_cell message_answer accounts account s p e = absurd (cc)
forward_cell leave accounts account s p e = absurd (cc)
forward_cell closed accounts account s p e = absurd (cc)
forward_cell ignore accounts account s p e = absurd (cc)

-- what asks for no request's leave isn't forwarded
pub not_forward : (accounts : List Login) (account : Option ℕ) (s : ClientState) (h : Option Pdu) (p : Pdu) (a : Act) → Some p ≡ h → asks_in accounts account s h ≢ Some Request → a ≡ (client_decides accounts account s p).0 → a ≢ act.Forward
not_forward accounts account s h p a had own is e = own (ap (asks_in accounts account s) (sym had) ∙ forward_cell (client_cell (client_row p.command) s) accounts account s p (sym is ∙ e))

bind_is_none : (k : Kind) (x : Checked) (s : ClientState) (p : Pdu) (n : ℕ) → (bind_decision k x s p).0 ≢ act.MoAnswer n
bind_is_none k (Refused status) s p n = λ e. absurd (cc)
bind_is_none k (Granted i version) s p n = λ e. absurd (cc)

no_message : (o : Option ℕ) (s : ClientState) (p : Pdu) (n : ℕ) → (request_decision o s p).0 ≢ act.MoAnswer n
no_message None s p n = λ e. absurd (cc)
no_message (Some status) s p n = λ e. absurd (cc)

message_cell : (c : ClientCell) (accounts : List Login) (account : Option ℕ) (s : ClientState) (p : Pdu) (n : ℕ) → (client_decision c accounts account s p).0 ≡ act.MoAnswer n → cell_asks c accounts account p ≡ None
message_cell (checks k) accounts account s p n e = absurd (bind_is_none k (check_bind accounts p.body) s p n e)
message_cell (answer status) accounts account s p n e = refl
message_cell nack accounts account s p n e = refl
message_cell forward accounts account s p n e = absurd (no_message (ruled_out (rules_of accounts account) p) s p n e)
message_cell message_answer accounts account s p n e = refl
message_cell leave accounts account s p n e = refl
message_cell closed accounts account s p n e = refl
message_cell ignore accounts account s p n e = refl

-- an answer to a message asks for no leave
pub message_asks : (accounts : List Login) (account : Option ℕ) (s : ClientState) (h : Option Pdu) (p : Pdu) (a : Act) (n : ℕ) → Some p ≡ h → a ≡ (client_decides accounts account s p).0 → a ≡ act.MoAnswer n → asks_in accounts account s h ≡ None
message_asks accounts account s h p a n had is e = ap (asks_in accounts account s) (sym had) ∙ message_cell (client_cell (client_row p.command) s) accounts account s p n (sym is ∙ e)

message_is : (c : ClientCell) (accounts : List Login) (account : Option ℕ) (s : ClientState) (p : Pdu) (n : ℕ) → (client_decision c accounts account s p).0 ≡ act.MoAnswer n → client_decision c accounts account s p ≡ (act.MoAnswer p.number, s)
message_is (checks k) accounts account s p n e = absurd (bind_is_none k (check_bind accounts p.body) s p n e)
message_is (answer status) accounts account s p n e = absurd (cc)
message_is nack accounts account s p n e = absurd (cc)
message_is forward accounts account s p n e = absurd (no_message (ruled_out (rules_of accounts account) p) s p n e)
message_is message_answer accounts account s p n e = refl
message_is leave accounts account s p n e = absurd (cc)
message_is closed accounts account s p n e = absurd (cc)
message_is ignore accounts account s p n e = absurd (cc)

-- and leaves the session as it was
pub message_keeps : (accounts : List Login) (s t : Client) (p : Pdu) (a : Act) (n : ℕ) → a ≡ (client_decides accounts s.account s.state p).0
    → t ≡ record s { state = (client_decides accounts s.account s.state p).1; account = account_after (client_decides accounts s.account s.state p).0 s.account } → a ≡ act.MoAnswer n → t ≡ s
message_keeps accounts s t p a n is state e =
    let here = message_is (client_cell (client_row p.command) s.state) accounts s.account s.state p n (sym is ∙ e) in
    state ∙ ap (λ (x : Act × ClientState). record s { state = x.1; account = account_after x.0 s.account }) here

pub message_decides : (accounts : List Login) (account account' : Option ℕ) (s t : ClientState) (p : Pdu) (a : Act) (n : ℕ) → a ≡ (client_decides accounts account s p).0 → t ≡ (client_decides accounts account s p).1
    → account' ≡ account_after (client_decides accounts account s p).0 account → a ≡ act.MoAnswer n → client_decides accounts account' t p ≡ (act.MoAnswer p.number, t)
message_decides accounts account account' s t p a n is state by e =
    let here = message_is (client_cell (client_row p.command) s) accounts account s p n (sym is ∙ e) in
    let same : account' ≡ account = by ∙ ap (λ x. account_after x account) (sym is ∙ e) in
    subst (λ (x : Option ℕ × ClientState). client_decides accounts x.0 x.1 p ≡ (act.MoAnswer p.number, x.1)) (λ i. (sym same i, sym (state ∙ ap (λ x. x.1) here) i)) here

request_bind : (x : Checked) → Some (bind_asks x) ≢ Some Request
request_bind (Refused status) = λ e. absurd (cc)
request_bind (Granted i version) = λ e. absurd (cc)

asked_request : (o : Option ℕ) (s : ClientState) (p : Pdu) → request_asks o ≡ Some Request → request_decision o s p ≡ (act.Forward, s)
asked_request None s p e = refl
asked_request (Some status) s p e = absurd (cc)

pub request_cell : (c : ClientCell) (accounts : List Login) (account : Option ℕ) (s : ClientState) (p : Pdu) → cell_asks c accounts account p ≡ Some Request → client_decision c accounts account s p ≡ (act.Forward, s)
request_cell (checks k) accounts account s p e = absurd (request_bind (check_bind accounts p.body) e)
request_cell (answer status) accounts account s p e = absurd (cc)
request_cell nack accounts account s p e = absurd (cc)
request_cell forward accounts account s p e = asked_request (ruled_out (rules_of accounts account) p) s p e
request_cell message_answer accounts account s p e = absurd (cc)
request_cell leave accounts account s p e = absurd (cc)
request_cell closed accounts account s p e = absurd (cc)
request_cell ignore accounts account s p e = absurd (cc)

-- a request that waits is to be forwarded
pub request_decides : (accounts : List Login) (account : Option ℕ) (s : ClientState) (h : Option Pdu) → asks_in accounts account s h ≡ Some Request → IfSome h (λ p. client_decides accounts account s p ≡ (act.Forward, s))
request_decides accounts account s None e = tt
request_decides accounts account s (Some p) e = request_cell (client_cell (client_row p.command) s) accounts account s p e

-- what was barred asked for this leave
pub bars_session : (accounts : List Login) (s : Client) (h : Option Pdu) (p q : Pdu) (a b : Act) (l : Ask) → Some p ≡ h → asks_in accounts s.account s.state h ≡ Some l → q ≡ p → b ≡ a → a ≡ client_bars l p → fate_session accounts s q b (Barred l) s
bars_session accounts s h p q a b l had asks same chosen is =
    (ap (client_asks accounts s.account s.state) same ∙ ap (asks_in accounts s.account s.state) had ∙ asks, chosen ∙ is ∙ ap (client_bars l) (sym same), refl)
