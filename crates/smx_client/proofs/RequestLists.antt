-- Requests that the session forwards, one behind the other, and what is said of those that come back.
use Rattle.std.proofs.Common.{◌≡◌, ◌≤◌, ◌++◌, ◌∷◌, [], ℕ, List, Option, Some, IfSome, Result, Ok, Err, length, map, suc, refl, sym, ap, ◌∙◌, subst}
use Rattle.std.specs.Global.{Vec}
use Rattle.std.specs.declared.snapshot.Snapshot.{Snapshot}
use Rattle.std.specs.List.{AllByRecursion, flat_map}
use Rattle.smx_pdu.specs.declared.pdu.Pdu.{Pdu}
use Rattle.smx_history.specs.Failures.{refusal_of}
use Rattle.smx_lock.specs.declared.faults.Spent.{Spent}
use Rattle.smx_history.specs.Contents.{Content}
use Rattle.smx_session.specs.Login.{Login}
use Rattle.smx_session.specs.ClientAsks.{client_asks}
use Rattle.smx_session.specs.ClientMoments.{Client}
use Rattle.smx_session.specs.ClientTable.{client_cell, client_row}
use Rattle.smx_session.specs.declared.ask.Ask.TheVariants.{Request}
use Rattle.smx_session.specs.declared.client_state.ClientState.{ClientState}
use Rattle.smx_box.specs.Boxes.{Sending, Receiving}
use Rattle.smx_routes.specs.Window.{Window}
use Rattle.smx_turns.specs.declared.mo_item.MoItem.{MoItem}
use Rattle.smx_shared.specs.Landings.{LandEach, LandsAs, SubmitsAll, accepted_all, ordinal_after}
use Rattle.smx_shared.specs.Offers.{Accepted}
use Rattle.smx_shared.specs.Ports.{HasAccepted}
use Rattle.smx_shared.specs.Offers.{request_for}
use Rattle.smx_shared.specs.Views.{PortView}
use Rattle.smx_shared.specs.declared.batch.Landing.{Landing}
use Rattle.smx_shared.specs.declared.fault.SubmitFault.{SubmitFault}
use Rattle.smx_shared.specs.declared.fault.SubmitFault.TheVariants as submit
use Rattle.smx_shared.specs.declared.offer.Offer.{Offer}
use Rattle.smx_client.specs.Events.{refusal_out, refusals_each, refusals_out, why_unaccepted}
use Rattle.smx_client.specs.Parts.{AreForwarded, AreOffersOf, Does, IsOfferOf, list_step, parts}
use Rattle.smx_client.specs.Private.Lists.{back_out, landed_out, list_length, list_out}
use Rattle.smx_client.specs.Serving.{asks_in}
use Rattle.smx_client.specs.declared.desk.Desk.{Desk}
use Rattle.smx_client.specs.declared.event.Event.TheVariants.{Forwarded}
use Rattle.smx_client.specs.declared.reply.Parked.{Parked}
use Rattle.smx_client.proofs.Doings.{forwarded}
use Rattle.smx_client.proofs.Fates.{request_cell}

-- each of these asks for a request's leave
abbrev pub AreAsked : List Login → Option ℕ → ClientState → List Pdu → Type 0
AreAsked accounts account s ps = AllByRecursion (λ (p : Pdu). client_asks accounts account s p ≡ Some Request) ps

-- what is true of the PDU that there is
pub some_at : (P : Pdu → Type 0) (o : Option Pdu) (p : Pdu) → o ≡ Some p → IfSome o P → P p
some_at P o p is some = subst (λ x. IfSome x P) is some

pub asked_push : (accounts : List Login) (account : Option ℕ) (s : ClientState) (ps : List Pdu) (p : Pdu) → AreAsked accounts account s ps → client_asks accounts account s p ≡ Some Request → AreAsked accounts account s (ps ++ p ∷ [])
asked_push accounts account s [] p are asks = (asks, tt)
asked_push accounts account s (q ∷ ps) p are asks = (are.0, asked_push accounts account s ps p are.1 asks)

-- the request that waited, and those that were heard behind it
pub asked_first : (accounts : List Login) (account : Option ℕ) (s : ClientState) (h : Option Pdu) (p : Pdu) (all ps : List Pdu) → h ≡ Some p → all ≡ p ∷ ps → asks_in accounts account s h ≡ Some Request → AreAsked accounts account s ps → AreAsked accounts account s all
asked_first accounts account s h p all ps held is asks are = subst (AreAsked accounts account s) (sym is) (sym (ap (asks_in accounts account s) held) ∙ asks, are)

-- one more PDU, and what it asks for
pub offers_push : (ps : List Pdu) (os : List Offer) (p : Pdu) (o : Offer) → AreOffersOf ps os → IsOfferOf p o → AreOffersOf (ps ++ p ∷ []) (os ++ o ∷ [])
offers_push [] [] p o are is = (is, tt)
offers_push [] (b ∷ os) p o are is = absurd are
offers_push (a ∷ ps) [] p o are is = absurd are
offers_push (a ∷ ps) (b ∷ os) p o are is = (are.0, offers_push ps os p o are.1 is)

-- they are as many
pub offers_count : (ps : List Pdu) (os : List Offer) → AreOffersOf ps os → length ps ≡ length os
offers_count [] [] are = refl
offers_count [] (b ∷ os) are = absurd are
offers_count (a ∷ ps) [] are = absurd are
offers_count (a ∷ ps) (b ∷ os) are = ap suc (offers_count ps os are.1)

-- so each is forwarded, and leaves the session as it is
pub asked_forwarded : (accounts : List Login) (s : Client) (ps : List Pdu) → AreAsked accounts s.account s.state ps → AreForwarded accounts s ps
asked_forwarded accounts s [] are = tt
asked_forwarded accounts s (p ∷ ps) are = ((are.0, request_cell (client_cell (client_row p.command) s.state) accounts s.account s.state p are.0), asked_forwarded accounts s ps are.1)

-- an offer that came back is answered as its PDU
back_same : (p : Pdu) (o : Offer) (why : SubmitFault) → IsOfferOf p o → back_out o why ≡ refusal_of (why_unaccepted why) p.command p.number
back_same p o why is = ap (λ c. refusal_of (why_unaccepted why) c o.own) is.command ∙ ap (λ n. refusal_of (why_unaccepted why) p.command n) is.own

landed_same : (by c n : ℕ) (p : Pdu) (o : Offer) (old new : Content) (turned : _) (res : Result ℕ (Offer × SubmitFault)) → IsOfferOf p o → LandsAs by (request_for c n o) o old turned res new → landed_out res ≡ refusal_out p res
landed_same by c n p o old new turned (Ok lane) is lands = refl
landed_same by c n p o old new turned (Err e) is lands = ap (λ q. q ∷ []) (ap (λ x. back_out x e.1) lands.0 ∙ back_same p o e.1 is)

each_same : (by c n : ℕ) (ps : List Pdu) (os : List Offer) (ls : List Landing) (old new : Content) → AreOffersOf ps os → LandEach by c n old os ls new → flat_map (λ (l : Landing). landed_out l.landed) ls ≡ refusals_each ps ls
each_same by c n [] [] [] old new are told = refl
each_same by c n [] [] (l ∷ ls) old new are told = absurd told
each_same by c n [] (o ∷ os) ls old new are told = absurd are
each_same by c n (p ∷ ps) [] ls old new are told = absurd are
each_same by c n (p ∷ ps) (o ∷ os) [] old new are told = absurd told
each_same by c n (p ∷ ps) (o ∷ os) (l ∷ ls) old new are told =
    ap (λ xs. xs ++ flat_map (λ (x : Landing). landed_out x.landed) ls) (landed_same by c n p o old told.0 l.turned l.landed are.0 told.1)
    ∙ ap (λ xs. refusal_out p l.landed ++ xs) (each_same by c (ordinal_after n o l) ps os ls told.0 new are.1 told.3)

spent_same : (ps : List Pdu) (os : List Offer) → AreOffersOf ps os → map (λ (o : Offer). back_out o submit.Spent) os ≡ map (λ (p : Pdu). refusal_of (why_unaccepted submit.Spent) p.command p.number) ps
spent_same [] [] are = refl
spent_same [] (o ∷ os) are = absurd are
spent_same (p ∷ ps) [] are = absurd are
spent_same (p ∷ ps) (o ∷ os) are =
    ap (λ q. q ∷ map (λ (x : Offer). back_out x submit.Spent) os) (back_same p o submit.Spent are.0) ∙ ap (λ qs. refusal_of (why_unaccepted submit.Spent) p.command p.number ∷ qs) (spent_same ps os are.1)

-- what is said of a list is what its event says
pub list_same : (v w : PortView) (ps : List Pdu) (os : List Offer) (r : Result (Vec Landing) (Vec Offer × Spent)) → AreOffersOf ps os → SubmitsAll v os w r → list_out r ≡ refusals_out ps r
list_same v w ps os (Ok ls) are on = let s = on.5 in each_same on.0.number v.client v.next ps os ls.items s.old s.new are s.told
list_same v w ps os (Err e) are on = ap (λ xs. map (λ (o : Offer). back_out o submit.Spent) xs) on.0 ∙ spent_same ps os are

land_count : (by c n : ℕ) (os : List Offer) (ls : List Landing) (old new : Content) → LandEach by c n old os ls new → length ls ≡ length os
land_count by c n [] [] old new told = refl
land_count by c n [] (l ∷ ls) old new told = absurd told
land_count by c n (o ∷ os) [] old new told = absurd told
land_count by c n (o ∷ os) (l ∷ ls) old new told = ap suc (land_count by c (ordinal_after n o l) os ls told.0 new told.3)

-- as many came of it as were offered
pub list_count : (v w : PortView) (os : List Offer) (r : Result (Vec Landing) (Vec Offer × Spent)) → SubmitsAll v os w r → list_length r ≡ length os
list_count v w os (Ok ls) on = let s = on.5 in land_count on.0.number v.client v.next os ls.items s.old s.new s.told
list_count v w os (Err e) on = ap length on.0

-- what a list of submits does, where what was taken down of it is what was offered and what came of it
pub forwarded_does : (d : Desk) (said said' : List Pdu) (s : Client) (w : Window) (i : Receiving MoItem) (x : List (Sending Pdu)) (h : Option Parked) (v v' : PortView) (ps : List Pdu)
    (os : Snapshot (Vec Offer)) (r : Snapshot (Result (Vec Landing) (Vec Offer × Spent))) (os' : Vec Offer) (r' : Result (Vec Landing) (Vec Offer × Spent)) → os.value ≡ os' → r.value ≡ r'
    → said' ≡ said ++ refusals_out ps r.value → length ps ≤ 16 → AreOffersOf ps os'.items → list_step os'.items r' v v' → ((all : List Accepted) → HasAccepted v all → HasAccepted v' (all ++ accepted_all os'.items r'))
    → AreAsked d.accounts.items s.account s.state ps → Does (parts d said v s w i x h) (Forwarded ps os r) (parts d said' v' s w i x h)
forwarded_does d said said' s w i x h v v' ps os r os' r' offered became says few pairs step lists asked =
    let Taken : Vec Offer × Result (Vec Landing) (Vec Offer × Spent) → Type 0 = λ q. AreOffersOf ps q.0.items × list_step q.0.items q.1 v v' × ((all : List Accepted) → HasAccepted v all → HasAccepted v' (all ++ accepted_all q.0.items q.1)) in
    let taken = subst Taken (λ i. (sym offered i, sym became i)) (pairs, step, lists) in
    forwarded d said said' s w i x h v v' ps os r says (few, taken.0, taken.1) taken.2 (asked_forwarded d.accounts.items s ps asked)
