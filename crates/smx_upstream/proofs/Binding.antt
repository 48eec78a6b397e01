-- While the session binds, nothing is passed on.
use Rattle.std.proofs.Common.{◌≡◌, ◌==◌, ℕ, Bool, true, false, List, [], ◌∷◌, ◌++◌, Option, Some, None, Result, Ok, Err, if◌then◌else◌, refl, sym, ap, ◌∙◌, subst}
use Rattle.smx_pdu.specs.declared.pdu.Pdu.{Pdu}
use Rattle.smx_pdu.specs.declared.status.TheConstants.{ESME_ROK}
use Rattle.smx_box.specs.declared.fault.Spent.{Spent}
use Rattle.smx_box.specs.declared.receiver.Got.{Got}
use Rattle.smx_box.specs.declared.receiver.Got.TheVariants as got
use Rattle.smx_box.specs.Boxes.{Sending}
use Rattle.smx_routes.specs.Window.{Window, message_for}
use Rattle.smx_routes.specs.declared.mo_window.Waiting.{Waiting}
use Rattle.smx_session.specs.declared.upstream_state.UpstreamState.{UpstreamState}
use Rattle.smx_session.specs.declared.upstream_state.UpstreamState.TheVariants.{Binding, Bound, Unbinding, Ended}
use Rattle.smx_session.specs.declared.upstream_row.UpstreamRow.{UpstreamRow}
use Rattle.smx_session.specs.declared.upstream_row.UpstreamRow.TheVariants as row
use Rattle.smx_session.specs.declared.up_act.UpAct.{UpAct}
use Rattle.smx_session.specs.declared.up_act.UpAct.TheVariants as act
use Rattle.smx_session.specs.UpstreamTable.{UpstreamCell, upstream_row, upstream_cell, upstream_decision}
use Rattle.smx_session.specs.UpstreamTable.UpstreamCell.{bind_answer, failed, answered, closed, to_lane, mo, answer, leave, nack, ignore}
use Rattle.smx_session.specs.Moments.{Upstream, act_on, after_pdu, is_bound, state_after_stop}
use Rattle.smx_shared.specs.Views.{TapView}
use Rattle.smx_turns.specs.declared.mo_item.MoItem.{MoItem}
use Rattle.smx_turns.specs.Runs.{Runs}
use Rattle.smx_upstream.specs.declared.event.Event.{Event}
use Rattle.smx_upstream.specs.declared.event.Event.TheVariants as event
use Rattle.smx_upstream.specs.declared.event.Fate.{Fate}
use Rattle.smx_upstream.specs.declared.event.Fate.TheVariants as fate
use Rattle.smx_upstream.specs.Events.{got_out}
use Rattle.smx_upstream.specs.Standing.{Stand, Does, Becomes, Settles, Owes, HoldNone, after_pdus}
use Rattle.smx_upstream.specs.Owing.{passed_by, passed}

-- what the answer to a bind comes to
abbrev bound_or : Bool → ℕ → UpAct × UpstreamState
bound_or b status = if b then (act.Up, Bound) else (act.Failed status, Ended)

was_if : (b : Bool) (status : ℕ) → (bound_or b status).1 ≡ Binding → ⊥
was_if true status h = absurd (cc h)
was_if false status h = absurd (cc h)

-- no session begins to bind again
was_binding : (c : UpstreamCell) (s : UpstreamState) (p : Pdu) → (upstream_decision c s p).1 ≡ Binding → s ≡ Binding
was_binding bind_answer s p h = absurd (was_if (p.status == ESME_ROK) p.status h)
was_binding failed s p h = cc
was_binding answered s p h = h
was_binding closed s p h = cc
was_binding to_lane s p h = h
was_binding mo s p h = h
was_binding (answer status) s p h = h
was_binding leave s p h = cc
was_binding nack s p h = h
was_binding ignore s p h = h

no_if : (b : Bool) (status : ℕ) → (bound_or b status).0 ≡ act.Mo → ⊥
no_if true status h = absurd (cc h)
no_if false status h = absurd (cc h)

-- and none that binds takes a message
no_message : (r : UpstreamRow) (p : Pdu) → (upstream_decision (upstream_cell r Binding) Binding p).0 ≡ act.Mo → ⊥
no_message row.BindAnswer p h = no_if (p.status == ESME_ROK) p.status h
no_message row.BindNack p h = absurd (cc h)
no_message row.EnquiryAnswer p h = absurd (cc h)
no_message row.UnbindAnswer p h = absurd (cc h)
no_message row.OtherBindAnswer p h = absurd (cc h)
no_message row.OtherResponse p h = absurd (cc h)
no_message row.Message p h = absurd (cc h)
no_message row.MessageToTransmitter p h = absurd (cc h)
no_message row.EnquireLink p h = absurd (cc h)
no_message row.Unbind p h = absurd (cc h)
no_message row.OtherRequest p h = absurd (cc h)
no_message row.Unanswered p h = absurd (cc h)
no_message row.Unknown p h = absurd (cc h)

binding_takes_none : (u : Upstream) (p : Pdu) → u.state ≡ Binding → act_on u p ≡ act.Mo → ⊥
binding_takes_none u p b is = no_message (upstream_row u.bind.kind p.command p.number) p
    (subst (λ (s : UpstreamState). (upstream_decision (upstream_cell (upstream_row u.bind.kind p.command p.number) s) s p).0 ≡ act.Mo) b is)

were_binding : (u : Upstream) (ps : List Pdu) (now : ℕ) → (after_pdus u ps now).state ≡ Binding → u.state ≡ Binding
were_binding u [] now h = h
were_binding u (p ∷ ps) now h = was_binding _ u.state p (were_binding (after_pdu u p now) ps now h)

was_stopped : (s : UpstreamState) → state_after_stop s ≡ Binding → s ≡ Binding
was_stopped Binding h = refl
was_stopped Bound h = cc
was_stopped Unbinding h = cc
was_stopped Ended h = cc

bound_no : (s : UpstreamState) → s ≡ Binding → is_bound s ≡ true → ⊥
bound_no s b is = absurd (cc (subst (λ (x : UpstreamState). is_bound x ≡ true) b is))

module _ (s : Stand) where
  abbrev Passes : Event → Stand → Type 0
  Passes e t = (s.session.state ≡ Binding) × (HoldNone s.owed → (passed_by e ≡ []) × HoldNone t.owed)

  same : (t : Stand) (e : Event) → passed_by e ≡ [] → t.session.state ≡ s.session.state → t.owed ≡ s.owed → t.session.state ≡ Binding → Passes e t
  same t e passes state owed b = (sym state ∙ b, λ none. (passes, subst HoldNone (sym owed) none))

  fate_none : (lane : ℕ) (p : Pdu) (a : UpAct) (f : Fate) (t : TapView) (ss : List (Sending MoItem)) (t' : TapView) (ss' : List (Sending MoItem)) (w w' : List Window)
      → (a ≡ act.Mo → ⊥) → Becomes p a f t ss t' ss' → Owes lane p f w w' → w' ≡ w
  fate_none lane p a fate.Own t ss t' ss' w w' never b o = o
  fate_none lane p a (fate.Up rise) t ss t' ss' w w' never b o = o
  fate_none lane p a (fate.Lane at r) t ss t' ss' w w' never b o = o
  fate_none lane p a fate.LaneSpent t ss t' ss' w w' never b o = o
  fate_none lane p a fate.Unread t ss t' ss' w w' never b o = o
  fate_none lane p a (fate.Unrouted found) t ss t' ss' w w' never b o = o
  fate_none lane p a (fate.Put place n given full) t ss t' ss' w w' never b o = absurd (never b.0)
  fate_none lane p a (fate.Full place) t ss t' ss' w w' never b o = o
  fate_none lane p a (fate.Crowded place) t ss t' ss' w w' never b o = o.1
  fate_none lane p a (fate.BoxSpent place) t ss t' ss' w w' never b o = o

  got_none : (r : Result (Got Pdu) Spent) (under : Option ℕ) (w w' : List Window) → HoldNone w → Settles r under w w' → (got_out r under ≡ []) × HoldNone w'
  got_none (Ok (got.Item k n p)) (Some under) w w' none a = absurd (cc (subst (λ (l : List Waiting). message_for p.number p.command l ≡ Some a.4.0) (none k a.0 a.2) a.4.1))
  got_none (Ok (got.Item k n p)) None w w' none a = (refl, subst HoldNone (sym a.1) none)
  got_none (Ok (got.Shut k)) under w w' none a = (refl, subst HoldNone (sym a.1) none)
  got_none (Ok got.Empty) under w w' none a = (refl, subst HoldNone (sym a.1) none)
  got_none (Err e) under w w' none a = (refl, subst HoldNone (sym a.1) none)

  step : (t : Stand) (e : Event) → Does s e t → t.session.state ≡ Binding → Passes e t
  step t (event.Began p) d b = same t (event.Began p) refl (ap (λ x. x.session.state) d.1) (ap (λ x. x.owed) d.1) b
  step t (event.Opened n) d b = same t (event.Opened n) refl (ap (λ x. x.session.state) d.1) (ap (λ x. x.owed) d.1) b
  step t (event.Looked now due left silent) d b = same t (event.Looked now due left silent) refl (ap (λ x. x.session.state) d.2) (ap (λ x. x.owed) d.2) b
  step t (event.Judged silent) d b = same t (event.Judged silent) refl (ap (λ x. x.session.state) d.1) (ap (λ x. x.owed) d.1) b
  step t (event.Expired lane span r) d b = same t (event.Expired lane span r) refl (ap (λ x. x.session.state) d.3) (ap (λ x. x.owed) d.3) b
  step t (event.Shifted least r) d b = same t (event.Shifted least r) refl (ap (λ x. x.session.state) d.3) (ap (λ x. x.owed) d.3) b
  step t (event.Sought r under) d b = (sym (ap (λ x. x.session.state) d.2) ∙ b, λ none. got_none r.value under s.owed t.owed none d.1)
  step t (event.Decided p now a f) d b =
      let was = was_binding _ s.session.state p.value (sym (ap (λ x. x.session.state) d.3) ∙ b) in
      (was, λ none. (refl, subst HoldNone (sym (fate_none s.tap.lane p.value a.value f s.tap s.senders t.tap t.senders s.owed t.owed (λ is. binding_takes_none s.session p.value was (sym d.0 ∙ is)) d.1 d.2)) none))
  step t (event.Brought ps now lane r) d b =
      let was = were_binding s.session ps.value.items now (sym (ap (λ x. x.session.state) d.4) ∙ b) in
      (was, λ none. (refl, subst HoldNone (sym (ap (λ x. x.owed) d.4)) none))
  step t (event.Took r) d b = absurd (bound_no s.session.state (sym (ap (λ x. x.session.state) d.3) ∙ b) d.0)
  step t event.Broke d b = same t event.Broke refl (ap (λ x. x.session.state) d) (ap (λ x. x.owed) d) b
  step t event.LinkEnded d b = same t event.LinkEnded refl (ap (λ x. x.session.state) d) (ap (λ x. x.owed) d) b
  step t (event.Unbound p) d b = (was_stopped s.session.state (sym (ap (λ x. x.session.state) d.1) ∙ b), λ none. (refl, subst HoldNone (sym (ap (λ x. x.owed) d.1)) none))
  step t (event.GaveUp given) d b = same t (event.GaveUp given) refl (ap (λ x. x.session.state) d.4) (ap (λ x. x.owed) d.4) b

steps : (s t : Stand) (es : List Event) → Runs Does s es t → t.session.state ≡ Binding → (s.session.state ≡ Binding) × (HoldNone s.owed → passed es ≡ [])
unfolding Runs passed
steps s t [] r b = (sym (ap (λ x. x.session.state) r) ∙ b, λ none. refl)
steps s t (e ∷ es) r b =
    let rest = steps r.0 t es r.2 b in
    let here = step s r.0 e r.1 rest.0 in
    (here.0, λ none. ap (λ l. l ++ passed es) (here.1 none).0 ∙ rest.1 (here.1 none).1)

pub none_passed : (s t : Stand) (es : List Event) → HoldNone s.owed → Runs Does s es t → t.session.state ≡ Binding → passed es ≡ []
none_passed s t es none r b = (steps s t es r b).1 none
