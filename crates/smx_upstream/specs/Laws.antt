-- What a worker's events say of its tokens: filters of all its events.
use Rattle.std.specs.Prelude.{◌≡◌, ℕ, List, [], ◌∷◌, ◌++◌, ◌==◌, Option, Some, slice_get, if◌then◌else◌}
use mathlib.Core.List.{IsPrefix}
use Rattle.std.specs.List.{flat_map}
use Rattle.smx_pdu.specs.declared.pdu.Pdu.{Pdu}
use Rattle.smx_history.specs.declared.reply.Answered.{Answered}
use Rattle.smx_history.specs.declared.reply.Answered.TheVariants as answered
use Rattle.smx_shared.specs.Taps.{Known, Queued, CameLate, known_of, known_by_takes, known_by_answers}
use Rattle.smx_turns.specs.declared.mo_item.MoItem.{MoItem}
use Rattle.smx_turns.specs.Puts.{contents_in}
use Rattle.smx_upstream.specs.declared.event.Event.{Event}
use Rattle.smx_upstream.specs.declared.event.Event.TheVariants as event
use Rattle.smx_upstream.specs.declared.event.Fate.{Fate}
use Rattle.smx_upstream.specs.declared.event.Fate.TheVariants as fate
use Rattle.smx_upstream.specs.Abandoning.{rounds_known}
use Rattle.smx_upstream.specs.Standing.{Stand, item_for}

-- what an answer of the lane lets the worker know of the tap's notes
abbrev pub answer_known : Pdu → Answered → List Known
answer_known p (answered.Queued c) = Queued c p ∷ []
answer_known p (answered.Late c) = CameLate c p.number p.command ∷ []
answer_known p (answered.Unknown back) = []

abbrev pub fate_known : Pdu → Fate → List Known
fate_known p (fate.Lane at r) = answer_known p r.value
fate_known p fate.Own = []
fate_known p (fate.Up rise) = []
fate_known p fate.LaneSpent = []
fate_known p fate.Unread = []
fate_known p (fate.Unrouted found) = []
fate_known p (fate.Put place n given full) = []
fate_known p (fate.Full place) = []
fate_known p (fate.Crowded place) = []
fate_known p (fate.BoxSpent place) = []

-- what an event added to the tap's notes, as far as the worker knows
abbrev pub known_by : Event → List Known
known_by (event.Began p) = []
known_by (event.Opened n) = []
known_by (event.Looked now due left silent) = []
known_by (event.Judged silent) = []
known_by (event.Expired lane span r) = []
known_by (event.Shifted least r) = []
known_by (event.Sought r under) = []
known_by (event.Decided p now a f) = fate_known p.value f
known_by (event.Brought ps now lane r) = known_by_answers ps.value.items r.value
known_by (event.Took r) = known_by_takes r.value
known_by event.Broke = []
known_by event.LinkEnded = []
known_by (event.Unbound p) = []
known_by (event.GaveUp given) = rounds_known given.abandoned.value.rounds

unfoldable pub knowns : List Event → List Known
knowns es = flat_map known_by es

abbrev pub fate_put : ℕ → ℕ → Pdu → Fate → List (Option MoItem)
fate_put slot lane p (fate.Put place n given full) = if place.slot == slot then Some (item_for lane place given p) ∷ [] else []
fate_put slot lane p fate.Own = []
fate_put slot lane p (fate.Up rise) = []
fate_put slot lane p (fate.Lane at r) = []
fate_put slot lane p fate.LaneSpent = []
fate_put slot lane p fate.Unread = []
fate_put slot lane p (fate.Unrouted found) = []
fate_put slot lane p (fate.Full place) = []
fate_put slot lane p (fate.Crowded place) = []
fate_put slot lane p (fate.BoxSpent place) = []

-- what an event put by the sender of this slot
abbrev pub put_by : ℕ → ℕ → Event → List (Option MoItem)
put_by slot lane (event.Began p) = []
put_by slot lane (event.Opened n) = []
put_by slot lane (event.Looked now due left silent) = []
put_by slot lane (event.Judged silent) = []
put_by slot lane (event.Expired at span r) = []
put_by slot lane (event.Shifted least r) = []
put_by slot lane (event.Sought r under) = []
put_by slot lane (event.Decided p now a f) = fate_put slot lane p.value f
put_by slot lane (event.Brought ps now at r) = []
put_by slot lane (event.Took r) = []
put_by slot lane event.Broke = []
put_by slot lane event.LinkEnded = []
put_by slot lane (event.Unbound p) = []
put_by slot lane (event.GaveUp given) = []

unfoldable pub puts_at : ℕ → ℕ → List Event → List (Option MoItem)
puts_at slot lane es = flat_map (put_by slot lane) es

-- what the events lead to, said of the tokens' own lists
pub record KeepsTokens (s : Stand) (es : List Event) (t : Stand) : Type 0 where
  -- the tap's notes are those that it had, and then those of the takes and answers, in order
  pub notes : known_of t.tap.front.mine ≡ known_of s.tap.front.mine ++ knowns es
  -- the tap has seen all that it had seen
  pub seen : IsPrefix s.tap.front.seen t.tap.front.seen
  pub lane : t.tap.lane ≡ s.tap.lane
  -- each slot's sender put the items of the messages routed there, in order
  pub put : (slot : ℕ) → contents_in (slice_get t.senders slot) ≡ contents_in (slice_get s.senders slot) ++ puts_at slot s.tap.lane es
