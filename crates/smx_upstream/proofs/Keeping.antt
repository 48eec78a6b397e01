-- What a chain of events says of the tokens' own lists.
use Rattle.std.proofs.Common.{cond, ◌≡◌, ℕ, eqb, List, [], ◌∷◌, ◌++◌, sym, ap, ◌∙◌, append_assoc, Option, Some, Result, Ok, Err, ⊎_elim}
use mathlib.Core.List.{IsPrefix}
use Rattle.std.proofs.lemmas.List.{append-nil, map-append}
use Rattle.std.proofs.lemmas.Bool.Decides.{eqb_tells}
use Rattle.std.proofs.lemmas.Option.{slice_get_within}
use Rattle.std.specs.List.{slice_get}
use Rattle.std.proofs.Math.ListN.{set}
use Rattle.smx_shared.proofs.Passing.{got_same, got_other}
use Rattle.smx_pdu.specs.declared.pdu.Pdu.{Pdu}
use Rattle.smx_lock.specs.Fronts.{Front}
use Rattle.smx_history.specs.declared.limits.Limits.{Limits}
use Rattle.smx_history.specs.declared.note.Note.{Note}
use Rattle.smx_history.specs.declared.reply.Answered.{Answered}
use Rattle.smx_history.specs.declared.reply.Answered.TheVariants as answered
use Rattle.smx_box.specs.Boxes.{Sending}
use Rattle.smx_session.specs.declared.up_act.UpAct.{UpAct}
use Rattle.smx_shared.specs.Views.{TapView}
use Rattle.std.specs.declared.vec.Vec.{Vec}
use Rattle.std.specs.declared.alloc.Global.{Global}
use Rattle.smx_history.specs.declared.entry.Entry.{Entry}
use Rattle.smx_shared.specs.declared.fault.TurnFault.{TurnFault}
use Rattle.smx_shared.specs.declared.fault.TurnFault.TheVariants as turns
use Rattle.smx_shared.specs.Serving.{Expires, AnswerServes}
use Rattle.smx_history.specs.declared.reply.Failed.{Failed}
use Rattle.smx_shared.specs.declared.fault.ExpiryFault.{ExpiryFault}
use Rattle.smx_shared.specs.declared.fault.ExpiryFault.TheVariants as expires
use Rattle.smx_shared.specs.Taps.{known_of}
use Rattle.smx_shared.proofs.ListServing.{all_known, all_answers_known}
use Rattle.smx_shared.proofs.Knowing.{answers_known, turn_known, expiry_known}
use Rattle.smx_turns.specs.declared.mo_item.MoItem.{MoItem}
use Rattle.smx_turns.specs.Puts.{AtIndex, Puts, contents, contents_in}
use Rattle.smx_turns.specs.Runs.{Runs}
use Rattle.smx_upstream.specs.declared.event.Event.{Event}
use Rattle.smx_upstream.specs.declared.event.Event.TheVariants as event
use Rattle.smx_upstream.specs.declared.event.Fate.{Fate}
use Rattle.smx_upstream.specs.declared.event.Fate.TheVariants as fate
use Rattle.smx_upstream.specs.Ages.{time_of}
use Rattle.smx_upstream.specs.Standing.{Stand, Does, Becomes, Shifts, item_for}
use Rattle.smx_upstream.proofs.Seen.{nothing, rise_note, self, longer, served_seen, spent_seen, list_seen, brought_seen, shift_seen, rise_seen}
use Rattle.smx_upstream.proofs.Surrender.{gave_note, gave_seen}
use Rattle.smx_upstream.specs.Laws.{answer_known, fate_known, known_by, knowns, fate_put, put_by, puts_at, KeepsTokens}

answer_note : (f g : Front Note Limits) (p : Pdu) (x : Answered) → AnswerServes f g p x → known_of g.mine ≡ known_of f.mine ++ answer_known p x
answer_note f g p (answered.Queued c) h = answers_known f g p (Ok (answered.Queued c)) h
answer_note f g p (answered.Late c) h = answers_known f g p (Ok (answered.Late c)) h
answer_note f g p (answered.Unknown back) h = answers_known f g p (Ok (answered.Unknown back)) h

fate_note : (p : Pdu) (a : UpAct) (f : Fate) (t : TapView) (ss : List (Sending MoItem)) (t' : TapView) (ss' : List (Sending MoItem)) → Becomes p a f t ss t' ss'
    → known_of t'.front.mine ≡ known_of t.front.mine ++ fate_known p f
fate_note p a fate.Own t ss t' ss' b = nothing _ _ (ap (λ x. known_of x.front.mine) b.1)
fate_note p a (fate.Up rise) t ss t' ss' b = nothing _ _ (rise_note t.front t'.front rise.value b.1)
fate_note p a (fate.Lane at r) t ss t' ss' b = answer_note t.front t'.front p r.value b.1
fate_note p a fate.LaneSpent t ss t' ss' b = nothing _ _ (⊎_elim (λ e. ap (λ x. known_of x.mine) e) (λ e. ap (λ x. known_of x.mine) e) b.1)
fate_note p a fate.Unread t ss t' ss' b = nothing _ _ (ap (λ x. known_of x.front.mine) b.2)
fate_note p a (fate.Unrouted found) t ss t' ss' b = nothing _ _ (ap (λ x. known_of x.front.mine) b.3)
fate_note p a (fate.Put place n given full) t ss t' ss' b = nothing _ _ (ap (λ x. known_of x.front.mine) b.3)
fate_note p a (fate.Full place) t ss t' ss' b = nothing _ _ (ap (λ x. known_of x.front.mine) b.3)
fate_note p a (fate.Crowded place) t ss t' ss' b = nothing _ _ (ap (λ x. known_of x.front.mine) b.2)
fate_note p a (fate.BoxSpent place) t ss t' ss' b = nothing _ _ (ap (λ x. known_of x.front.mine) b.3)

shift_note : (f g : Front Note Limits) (least : ℕ) (r : Result (Option (Vec Entry Global)) TurnFault)
    → Shifts f g least r → known_of g.mine ≡ known_of f.mine
shift_note f g least (Ok o) h = turn_known f g least (Ok o) h
shift_note f g least (Err turns.Spent) h = turn_known f g least (Err turns.Spent) h
shift_note f g least (Err turns.NoMemory) h = turn_known f g least (Err turns.NoMemory) h

note_step : (s t : Stand) (e : Event) → Does s e t → known_of t.tap.front.mine ≡ known_of s.tap.front.mine ++ known_by e
note_step s t (event.Began p) d = nothing _ _ (ap (λ x. known_of x.tap.front.mine) d.1)
note_step s t (event.Opened n) d = nothing _ _ (ap (λ x. known_of x.tap.front.mine) d.1)
note_step s t (event.Looked now due left silent) d = nothing _ _ (ap (λ x. known_of x.tap.front.mine) d.2)
note_step s t (event.Judged silent) d = nothing _ _ (ap (λ x. known_of x.tap.front.mine) d.1)
note_step s t (event.Expired lane span r) d = nothing _ _ (expiry_known s.tap.front t.tap.front s.session.latest (time_of span s.age) r.value d.1)
note_step s t (event.Shifted least r) d = nothing _ _ (shift_note s.tap.front t.tap.front least r.value d.1)
note_step s t (event.Sought r under) d = nothing _ _ (ap (λ x. known_of x.tap.front.mine) d.2)
note_step s t (event.Decided p now a f) d = fate_note p.value a.value f s.tap s.senders t.tap t.senders d.1
note_step s t (event.Brought ps now lane r) d = all_answers_known s.tap.front t.tap.front ps.value.items r.value d.1
note_step s t (event.Took r) d = all_known s.tap.front t.tap.front s.session.latest r.value d.1
note_step s t event.Broke d = nothing _ _ (ap (λ x. known_of x.tap.front.mine) d)
note_step s t event.LinkEnded d = nothing _ _ (ap (λ x. known_of x.tap.front.mine) d)
note_step s t (event.Unbound p) d = nothing _ _ (ap (λ x. known_of x.tap.front.mine) d.1)
note_step s t (event.GaveUp given) d = gave_note given.now s.tap.front given.between.value.front t.tap.front given.lost.value given.abandoned.value d.1 d.2

answer_seen : (f g : Front Note Limits) (p : Pdu) (x : Answered) → AnswerServes f g p x → IsPrefix f.seen g.seen
answer_seen f g p x h = served_seen f g h.found h.own h.hold.serves

expiry_seen : (f g : Front Note Limits) (now age : ℕ) (r : Result Failed ExpiryFault) → Expires f g now age r → IsPrefix f.seen g.seen
expiry_seen f g now age (Ok r) h = served_seen f g h.found h.own h.hold.serves
expiry_seen f g now age (Err (expires.Refused e)) h = served_seen f g h.found h.own h.hold.serves
expiry_seen f g now age (Err expires.Spent) h = spent_seen f g h

fate_seen : (p : Pdu) (a : UpAct) (f : Fate) (t : TapView) (ss : List (Sending MoItem)) (t' : TapView) (ss' : List (Sending MoItem)) → Becomes p a f t ss t' ss' → IsPrefix t.front.seen t'.front.seen
fate_seen p a fate.Own t ss t' ss' b = self _ _ (ap (λ x. x.front.seen) b.1)
fate_seen p a (fate.Up rise) t ss t' ss' b = rise_seen t.front t'.front rise.value b.1
fate_seen p a (fate.Lane at r) t ss t' ss' b = answer_seen t.front t'.front p r.value b.1
fate_seen p a fate.LaneSpent t ss t' ss' b = spent_seen t.front t'.front b.1
fate_seen p a fate.Unread t ss t' ss' b = self _ _ (ap (λ x. x.front.seen) b.2)
fate_seen p a (fate.Unrouted found) t ss t' ss' b = self _ _ (ap (λ x. x.front.seen) b.3)
fate_seen p a (fate.Put place n given full) t ss t' ss' b = self _ _ (ap (λ x. x.front.seen) b.3)
fate_seen p a (fate.Full place) t ss t' ss' b = self _ _ (ap (λ x. x.front.seen) b.3)
fate_seen p a (fate.Crowded place) t ss t' ss' b = self _ _ (ap (λ x. x.front.seen) b.2)
fate_seen p a (fate.BoxSpent place) t ss t' ss' b = self _ _ (ap (λ x. x.front.seen) b.3)

seen_step : (s t : Stand) (e : Event) → Does s e t → IsPrefix s.tap.front.seen t.tap.front.seen
seen_step s t (event.Began p) d = self _ _ (ap (λ x. x.tap.front.seen) d.1)
seen_step s t (event.Opened n) d = self _ _ (ap (λ x. x.tap.front.seen) d.1)
seen_step s t (event.Looked now due left silent) d = self _ _ (ap (λ x. x.tap.front.seen) d.2)
seen_step s t (event.Judged silent) d = self _ _ (ap (λ x. x.tap.front.seen) d.1)
seen_step s t (event.Expired lane span r) d = expiry_seen s.tap.front t.tap.front s.session.latest (time_of span s.age) r.value d.1
seen_step s t (event.Shifted least r) d = shift_seen s.tap.front t.tap.front least r.value d.1
seen_step s t (event.Sought r under) d = self _ _ (ap (λ x. x.tap.front.seen) d.2)
seen_step s t (event.Decided p now a f) d = fate_seen p.value a.value f s.tap s.senders t.tap t.senders d.1
seen_step s t (event.Brought ps now lane r) d = brought_seen s.tap.front t.tap.front ps.value.items r.value d.1
seen_step s t (event.Took r) d = list_seen s.tap.front t.tap.front s.session.latest r.value d.1
seen_step s t event.Broke d = self _ _ (ap (λ x. x.tap.front.seen) d)
seen_step s t event.LinkEnded d = self _ _ (ap (λ x. x.tap.front.seen) d)
seen_step s t (event.Unbound p) d = self _ _ (ap (λ x. x.tap.front.seen) d.1)
seen_step s t (event.GaveUp given) d = gave_seen given.now s.tap.front given.between.value.front t.tap.front given.lost.value given.abandoned.value d.1 d.2

-- the lane
fate_lane : (p : Pdu) (a : UpAct) (f : Fate) (t : TapView) (ss : List (Sending MoItem)) (t' : TapView) (ss' : List (Sending MoItem)) → Becomes p a f t ss t' ss' → t'.lane ≡ t.lane
fate_lane p a fate.Own t ss t' ss' b = ap (λ x. x.lane) b.1
fate_lane p a (fate.Up rise) t ss t' ss' b = b.2
fate_lane p a (fate.Lane at r) t ss t' ss' b = b.3
fate_lane p a fate.LaneSpent t ss t' ss' b = b.2
fate_lane p a fate.Unread t ss t' ss' b = ap (λ x. x.lane) b.2
fate_lane p a (fate.Unrouted found) t ss t' ss' b = ap (λ x. x.lane) b.3
fate_lane p a (fate.Put place n given full) t ss t' ss' b = ap (λ x. x.lane) b.3
fate_lane p a (fate.Full place) t ss t' ss' b = ap (λ x. x.lane) b.3
fate_lane p a (fate.Crowded place) t ss t' ss' b = ap (λ x. x.lane) b.2
fate_lane p a (fate.BoxSpent place) t ss t' ss' b = ap (λ x. x.lane) b.3

lane_step : (s t : Stand) (e : Event) → Does s e t → t.tap.lane ≡ s.tap.lane
lane_step s t (event.Began p) d = ap (λ x. x.tap.lane) d.1
lane_step s t (event.Opened n) d = ap (λ x. x.tap.lane) d.1
lane_step s t (event.Looked now due left silent) d = ap (λ x. x.tap.lane) d.2
lane_step s t (event.Judged silent) d = ap (λ x. x.tap.lane) d.1
lane_step s t (event.Expired lane span r) d = d.2
lane_step s t (event.Shifted least r) d = d.2
lane_step s t (event.Sought r under) d = ap (λ x. x.tap.lane) d.2
lane_step s t (event.Decided p now a f) d = fate_lane p.value a.value f s.tap s.senders t.tap t.senders d.1
lane_step s t (event.Brought ps now lane r) d = d.3
lane_step s t (event.Took r) d = d.2
lane_step s t event.Broke d = ap (λ x. x.tap.lane) d
lane_step s t event.LinkEnded d = ap (λ x. x.tap.lane) d
lane_step s t (event.Unbound p) d = ap (λ x. x.tap.lane) d.1
lane_step s t (event.GaveUp given) d = d.3

-- one sender's list, where another's may have changed
same_put : (slot at : ℕ) (ss tt : List (Sending MoItem)) → AtIndex at ss tt (λ x y. y.put ≡ x.put) → contents_in (slice_get tt slot) ≡ contents_in (slice_get ss slot)
same_put slot at ss tt h = ⊎_elim
    (λ e. ap contents_in (ap (λ l. slice_get l slot) h.3 ∙ ap (λ k. slice_get (set ss at h.1) k) (sym e.1) ∙ got_same ss at h.1 (slice_get_within ss at h.0 h.2)) ∙ ap contents h.4
    ∙ ap contents_in (sym (ap (slice_get ss) (sym e.1) ∙ h.2)))
    (λ e. ap contents_in (ap (λ l. slice_get l slot) h.3 ∙ got_other ss at slot h.1 (λ k. e.1 (sym k))))
    (eqb_tells at slot)

put_here : (slot at : ℕ) (item : MoItem) (n : ℕ) (ss tt : List (Sending MoItem)) → AtIndex at ss tt (Puts item n)
    → contents_in (slice_get tt slot) ≡ contents_in (slice_get ss slot) ++ cond (eqb at slot) (Some item ∷ []) []
put_here slot at item n ss tt h = ⊎_elim
    (λ e. ap contents_in (ap (λ l. slice_get l slot) h.3 ∙ ap (λ k. slice_get (set ss at h.1) k) (sym e.1) ∙ got_same ss at h.1 (slice_get_within ss at h.0 h.2))
    ∙ ap contents h.4.put ∙ map-append (λ m. m.content) h.0.put _ ∙ ap (λ o. contents_in o ++ Some item ∷ []) (sym (ap (slice_get ss) (sym e.1) ∙ h.2))
    ∙ ap (λ b. contents_in (slice_get ss slot) ++ cond b (Some item ∷ []) []) (sym e.0))
    (λ e. ap contents_in (ap (λ l. slice_get l slot) h.3 ∙ got_other ss at slot h.1 (λ k. e.1 (sym k)))
    ∙ sym (append-nil (contents_in (slice_get ss slot))) ∙ ap (λ b. contents_in (slice_get ss slot) ++ cond b (Some item ∷ []) []) (sym e.0))
    (eqb_tells at slot)

fate_puts : (slot : ℕ) (p : Pdu) (a : UpAct) (f : Fate) (t : TapView) (ss : List (Sending MoItem)) (t' : TapView) (ss' : List (Sending MoItem)) → Becomes p a f t ss t' ss'
    → contents_in (slice_get ss' slot) ≡ contents_in (slice_get ss slot) ++ fate_put slot t.lane p f
fate_puts slot p a fate.Own t ss t' ss' b = nothing _ _ (ap (λ x. contents_in (slice_get x slot)) b.2)
fate_puts slot p a (fate.Up rise) t ss t' ss' b = nothing _ _ (ap (λ x. contents_in (slice_get x slot)) b.3)
fate_puts slot p a (fate.Lane at r) t ss t' ss' b = nothing _ _ (ap (λ x. contents_in (slice_get x slot)) b.4)
fate_puts slot p a fate.LaneSpent t ss t' ss' b = nothing _ _ (ap (λ x. contents_in (slice_get x slot)) b.3)
fate_puts slot p a fate.Unread t ss t' ss' b = nothing _ _ (ap (λ x. contents_in (slice_get x slot)) b.3)
fate_puts slot p a (fate.Unrouted found) t ss t' ss' b = nothing _ _ (ap (λ x. contents_in (slice_get x slot)) b.4)
fate_puts slot p a (fate.Put place n given full) t ss t' ss' b = put_here slot place.slot (item_for t.lane place given p) n ss ss' (b.2.0, b.2.1, b.2.2, b.2.3, b.2.4.0)
fate_puts slot p a (fate.Full place) t ss t' ss' b = nothing _ _ (same_put slot place.slot ss ss' (b.2.0, b.2.1, b.2.2, b.2.3, b.2.4.put))
fate_puts slot p a (fate.Crowded place) t ss t' ss' b = nothing _ _ (ap (λ x. contents_in (slice_get x slot)) b.3)
fate_puts slot p a (fate.BoxSpent place) t ss t' ss' b = nothing _ _ (same_put slot place.slot ss ss' (b.2.0, b.2.1, b.2.2, b.2.3, b.2.4.put))

put_step : (slot : ℕ) (s t : Stand) (e : Event) → Does s e t → contents_in (slice_get t.senders slot) ≡ contents_in (slice_get s.senders slot) ++ put_by slot s.tap.lane e
put_step slot s t (event.Began p) d = nothing _ _ (ap (λ x. contents_in (slice_get x.senders slot)) d.1)
put_step slot s t (event.Opened n) d = nothing _ _ (ap (λ x. contents_in (slice_get x.senders slot)) d.1)
put_step slot s t (event.Looked now due left silent) d = nothing _ _ (ap (λ x. contents_in (slice_get x.senders slot)) d.2)
put_step slot s t (event.Judged silent) d = nothing _ _ (ap (λ x. contents_in (slice_get x.senders slot)) d.1)
put_step slot s t (event.Expired lane span r) d = nothing _ _ (ap (λ x. contents_in (slice_get x.senders slot)) d.3)
put_step slot s t (event.Shifted least r) d = nothing _ _ (ap (λ x. contents_in (slice_get x.senders slot)) d.3)
put_step slot s t (event.Sought r under) d = nothing _ _ (ap (λ x. contents_in (slice_get x.senders slot)) d.2)
put_step slot s t (event.Decided p now a f) d = fate_puts slot p.value a.value f s.tap s.senders t.tap t.senders d.1
put_step slot s t (event.Brought ps now lane r) d = nothing _ _ (ap (λ x. contents_in (slice_get x.senders slot)) d.4)
put_step slot s t (event.Took r) d = nothing _ _ (ap (λ x. contents_in (slice_get x.senders slot)) d.3)
put_step slot s t event.Broke d = nothing _ _ (ap (λ x. contents_in (slice_get x.senders slot)) d)
put_step slot s t event.LinkEnded d = nothing _ _ (ap (λ x. contents_in (slice_get x.senders slot)) d)
put_step slot s t (event.Unbound p) d = nothing _ _ (ap (λ x. contents_in (slice_get x.senders slot)) d.1)
put_step slot s t (event.GaveUp given) d = nothing _ _ (ap (λ x. contents_in (slice_get x.senders slot)) d.4)

-- the whole chain
pub runs_kept : (s t : Stand) (es : List Event) → Runs Does s es t → KeepsTokens s es t
unfolding Runs knowns puts_at
runs_kept s t [] r = record {
  notes = nothing _ _ (ap (λ x. known_of x.tap.front.mine) r);
  seen = self _ _ (ap (λ x. x.tap.front.seen) r);
  lane = ap (λ x. x.tap.lane) r;
  put = λ slot. nothing _ _ (ap (λ x. contents_in (slice_get x.senders slot)) r);
}
runs_kept s t (e ∷ es) r =
    let u = r.0 in
    let k : KeepsTokens u es t = runs_kept u t es r.2 in
    record {
      notes = k.notes ∙ ap (λ l. l ++ knowns es) (note_step s u e r.1) ∙ append_assoc _ (known_by e) (knowns es);
      seen = longer _ _ _ (seen_step s u e r.1) k.seen;
      lane = k.lane ∙ lane_step s u e r.1;
      put = λ slot. k.put slot ∙ ap (λ n. contents_in (slice_get u.senders slot) ++ puts_at slot n es) (lane_step s u e r.1)
          ∙ ap (λ l. l ++ puts_at slot s.tap.lane es) (put_step slot s u e r.1) ∙ append_assoc _ (put_by slot s.tap.lane e) (puts_at slot s.tap.lane es);
    }
