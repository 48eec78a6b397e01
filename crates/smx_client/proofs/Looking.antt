-- A look, said of plain values.
use Rattle.std.proofs.Common.{◌≡◌, ◌≢◌, ℕ, List, Option, Some, None, IfSome, IfNone, OnSome, Bool, true, false, ap, sym, ◌∙◌, subst, refl, Result}
use Rattle.std.specs.Prelude.{if◌then◌else◌}
use Rattle.smx_pdu.specs.declared.pdu.Pdu.{Pdu}
use Rattle.smx_session.specs.ClientMoments.{Client, client_enquiry, after_client_moment, is_enquiry_due, is_unanswered as is_late}
use Rattle.smx_session.specs.declared.client_state.ClientState.{ClientState}
use Rattle.smx_session.specs.declared.client_state.ClientState.TheVariants.{Ended}
use Rattle.smx_session.specs.declared.enquiry.Enquiry.{Enquiry}
use Rattle.smx_session.specs.declared.enquiry.Enquiry.TheVariants.{NotDue, Due, Unanswered}
use Rattle.smx_routes.specs.declared.mo_window.Waiting.{Waiting}
use Rattle.smx_routes.specs.Window.{Window, overdue, without}
use Rattle.smx_turns.specs.declared.end.Fault.{Fault}
use Rattle.smx_client.specs.declared.event.Progress.{Progress}
use Rattle.smx_client.specs.Events.{is_unanswered}
use Rattle.smx_client.specs.Parts.{expire_step}
use Rattle.smx_box.specs.Boxes.{Sending}
use Rattle.smx_client.specs.declared.reply.Reply.{Reply}
use Rattle.smx_client.specs.declared.reply.Parked.{Parked}
use Rattle.smx_client.specs.Replies.{ExpiresSo, Parks}
use Rattle.smx_client.specs.Table.{Phase, Gone, Deciding, after_look, IsFront}

ended_at : (due late : Bool) (p : Pdu) (s : ClientState) → is_unanswered (if due then Due p else if late then Unanswered else NotDue) ≡ true → (if late then Ended else s) ≡ Ended
ended_at true late p s is = absurd (cc)
ended_at false true p s is = refl
ended_at false false p s is = absurd (cc)

-- the session has ended where an enquiry is unanswered
pub silent_ends : (s t : Client) (now : ℕ) (e : Enquiry) → e ≡ client_enquiry s now → t ≡ after_client_moment s now → is_unanswered e ≡ true → t.state ≡ Ended
silent_ends s t now e is session silent = ap (λ x. x.state) session ∙ ended_at (is_enquiry_due s now) (is_late s now) _ s.state (ap is_unanswered (sym is) ∙ silent)

stays_over : (late : Bool) (s : ClientState) → s ≡ Ended → (if late then Ended else s) ≡ Ended
stays_over true s over = refl
stays_over false s over = over

-- a session that goes on after a look did so before
pub was_going : (s t : Client) (now : ℕ) → t ≡ after_client_moment s now → t.state ≢ Ended → s.state ≢ Ended
was_going s t now session on over = on (ap (λ x. x.state) session ∙ stays_over (is_late s now) s.state over)

-- where the turn stands after a look
pub looked_front : (p : Phase) (e : Enquiry) (silent : Bool) (r : Result (Result Bool Progress) Fault) → p ≡ after_look e → silent ≡ is_unanswered e → IsFront r (if silent then Gone else Deciding false) → IsFront r p
looked_front p e silent r at is so = subst (IsFront r) (ap (λ b. if b then Gone else Deciding false) is ∙ sym at) so

-- what the window gave
pub expire_is : (until : ℕ) (found : Option (ℕ × ℕ × ℕ)) (w u : Window)
    → IfSome found (λ r. (row : Waiting) × (overdue until w.waiting ≡ Some row) × (r.0 ≡ row.lane) × (r.1 ≡ row.number) × (r.2 ≡ row.command) × (u ≡ record w { waiting = without row.given w.waiting }))
    → IfNone found ((overdue until w.waiting ≡ None) × (u ≡ w)) → expire_step until found w u
expire_is until (Some r) w u some none = some
expire_is until None w u some none = none

-- where none was overdue none waits
pub none_parks : (found : Option (ℕ × ℕ × ℕ)) (reply : Reply) (x x' : List (Sending Pdu)) (h : Option Parked) → found ≡ None → ExpiresSo found reply x x' → Parks reply h → h ≡ None
none_parks None reply x x' h is so parks = subst (λ r. Parks r h) so.0 parks
none_parks (Some m) reply x x' h is so parks = absurd (cc)

-- the reply of the one that was overdue
pub one_parks : (r : Option Reply) (reply : Reply) (found : Option (ℕ × ℕ × ℕ)) (h : Option Parked) → IfSome r (λ x. (x ≡ reply) × (found ≢ None)) → Parks reply h → IfSome r (λ x. Parks x h)
one_parks (Some x) reply found h same parks = subst (λ y. Parks y h) (sym same.0) parks
one_parks None reply found h same parks = tt

pub one_clears : (r : Option Reply) (reply : Reply) (found : Option (ℕ × ℕ × ℕ)) (x x' : List (Sending Pdu)) (h : Option Parked) → IfNone r (found ≡ None) → ExpiresSo found reply x x' → Parks reply h → IfNone r (h ≡ None)
one_clears (Some y) reply found x x' h none so parks = tt
one_clears None reply found x x' h none so parks = none_parks found reply x x' h none so parks

pub one_fewer : (r : Option Reply) (reply : Reply) (found : Option (ℕ × ℕ × ℕ)) (P : Type 0) → IfSome r (λ x. (x ≡ reply) × (found ≢ None)) → OnSome found P → IfSome r (λ x. P)
one_fewer (Some y) reply (Some m) P same one = one
one_fewer (Some y) reply None P same one = absurd (same.1 refl)
one_fewer None reply found P same one = tt
