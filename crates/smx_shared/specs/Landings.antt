-- One hold of a lane's lock serves a list of offers.
use Rattle.std.specs.Prelude.{◌≡◌, ◌≢◌, ◌+◌, ◌^◌, length, ℕ, Bool, false, List, [], ◌∷◌, ◌++◌, Result, Ok, Err}
use Rattle.std.specs.Global.{Vec}
use Rattle.smx_lock.specs.Fronts.{Front, IsSpent}
use Rattle.smx_lock.specs.declared.faults.Spent.{Spent}
use Rattle.smx_history.specs.declared.limits.Limits.{Limits}
use Rattle.smx_history.specs.declared.note.Note.{Note}
use Rattle.smx_history.specs.declared.note.Event.TheVariants as event
use Rattle.smx_history.specs.declared.request.Request.{Request}
use Rattle.smx_history.specs.declared.reply.Refusal.{Refusal}
use Rattle.smx_history.specs.declared.reply.Refusal.TheVariants.{NotAdmitted, HistoryFull}
use Rattle.smx_history.specs.History.{note}
use Rattle.smx_history.specs.Contents.{Content, AgreesWith}
use Rattle.smx_lane.specs.declared.call.Call.TheVariants as call
use Rattle.smx_lane.specs.declared.call.Reply.TheVariants as reply
use Rattle.smx_lane.specs.Calls.{IsReply, GoesOn}
use Rattle.smx_shared.specs.declared.batch.Landing.{Landing}
use Rattle.smx_shared.specs.declared.offer.Offer.{Offer}
use Rattle.smx_shared.specs.declared.fault.SubmitFault.{SubmitFault}
use Rattle.smx_shared.specs.declared.fault.SubmitFault.TheVariants as fault
use Rattle.smx_shared.specs.Views.{PortView}
use Rattle.smx_shared.specs.Offers.{Accepted, accepted_by, request_for}
use Rattle.smx_shared.specs.Roomy.{IsCrowded, finds_full, lane_met, shifts_where}
use Rattle.smx_shared.specs.Serving.{OneHold}
use Rattle.smx_shared.specs.Submits.{OnLane}

-- the ordinal of the offer after this one, which uses its own where it was accepted
abbrev pub ordinal_after : ℕ → Offer → Landing → ℕ
ordinal_after n o l = n + length (accepted_by o l.landed)

-- the accepts of a list of offers, in order
abbrev pub accepted_each : List Offer → List Landing → List Accepted
accepted_each (o ∷ os) (l ∷ ls) = accepted_by o l.landed ++ accepted_each os ls
accepted_each _ _ = []

-- what a list adds to the port's accepts
abbrev pub accepted_all : List Offer → Result (Vec Landing) (Vec Offer × Spent) → List Accepted
accepted_all os (Ok ls) = accepted_each os ls.items
accepted_all os (Err e) = []

-- what a seat notes of a request that was accepted, or not
abbrev pub accept_notes : ℕ → Request → Result ℕ (Offer × SubmitFault) → List Note
accept_notes by r (Ok lane) = note by (event.Accept r) ∷ []
accept_notes by r (Err e) = []

-- and before it, where the lane was turned over
abbrev pub landing_notes : ℕ → Request → Landing → List Note
landing_notes by r l = shifts_where l.turned by ++ accept_notes by r l.landed

-- the same of a client's list, one after the other, under ordinals from n on
abbrev pub landings_of : ℕ → ℕ → ℕ → List Offer → List Landing → List Note
landings_of by c n (o ∷ os) (l ∷ ls) = landing_notes by (request_for c n o) l ++ landings_of by c (ordinal_after n o l) os ls
landings_of by c n _ _ = []

-- the lane that the request met, turned over first where it found its history full, refused it so: of the client's requests, of requests or, by what the lane holds itself, of entries, or it is down; or every ordinal was used and the lane was left alone
abbrev pub StaysOff : ℕ → Request → Content → Bool → SubmitFault → Content → Type 0
StaysOff by r old turned fault.AllFull new = (e : Refusal) × (turned ≡ finds_full old (call.Accept by r))
    × IsReply (lane_met old (call.Accept by r)) (call.Accept by r) (reply.Accepted (Err (r, e))) [] new × (e ≢ NotAdmitted) × (e ≡ HistoryFull → IsCrowded old)
StaysOff by r old turned fault.Exhausted new = (r.ordinal ≡ 2 ^ 62 + 1) × (turned ≡ false) × (new ≡ old)
StaysOff by r old turned fault.Spent new = ⊥

-- the one lane accepted the request, turned over first where it found its history full, or the offer comes back
abbrev pub LandsAs : ℕ → Request → Offer → Content → Bool → Result ℕ (Offer × SubmitFault) → Content → Type 0
LandsAs by r o old turned (Ok lane) new = (lane ≡ 0) × (turned ≡ finds_full old (call.Accept by r))
    × IsReply (lane_met old (call.Accept by r)) (call.Accept by r) (reply.Accepted (Ok tt)) (note by (event.Accept r) ∷ []) new
LandsAs by r o old turned (Err e) new = (e.0 ≡ o) × StaysOff by r old turned e.1 new

-- what became of the client's offer under ordinal n
abbrev pub LandsSo : ℕ → ℕ → ℕ → Offer → Content → Landing → Content → Type 0
LandsSo by c n o old l new = LandsAs by (request_for c n o) o old l.turned l.landed new

-- these offers were made one after the other, under ordinals from n on, each to a lane that agrees with the notes before it
abbrev pub LandEach : ℕ → ℕ → ℕ → Content → List Offer → List Landing → Content → Type 0
LandEach by c n old [] [] new = new ≡ old
LandEach by c n old (o ∷ os) (l ∷ ls) new =
    (mid : Content) × LandsSo by c n o old l mid × GoesOn old (landing_notes by (request_for c n o) l) mid × LandEach by c (ordinal_after n o l) mid os ls new
LandEach by c n old _ _ new = ⊥

-- one hold of the lane's lock stood between the fronts: in it the client's offers were made so, and what was left agrees with what is seen now
pub record LandsServe (f g : Front Note Limits) (c n : ℕ) (os : List Offer) (ls : List Landing) : Type 0 where
  pub found : List Note
  pub old : Content
  pub new : Content
  pub hold : OneHold f g found (landings_of f.number c n os ls) old
  pub told : LandEach f.number c n old os ls new
  pub left : AgreesWith g.seen new

-- what a list of submits leaves of a port with one lane: one hold, or the tickets are spent and the offers come back
abbrev pub SubmitsAll : PortView → List Offer → PortView → Result (Vec Landing) (Vec Offer × Spent) → Type 0
SubmitsAll v os w (Ok ls) = OnLane 0 v.fronts w.fronts (λ f g. LandsServe f g v.client v.next os ls.items)
SubmitsAll v os w (Err e) = (e.0.items ≡ os) × OnLane 0 v.fronts w.fronts IsSpent
