use Rattle.std.proofs.Common.{◌≡◌, length, arith, ap, sym, inl, inr}
use Rattle.std.proofs.lemmas.Bool.{cases_lt, false≢true}
use Rattle.smx_mailbox.proofs.Sending.{sent-full, after_sent-full, GaveFirst, sent-gave, after_sent-gave}
use Rattle.smx_mailbox.proofs.mailbox.Mailbox.send_one.Goals as goal

is_full : (c : goal.Then-is_full) → length c.self.inside.window.waiting ≡ c.self.inside.window.places
is_full c = c.is_full.ensures.0 c.if-is_full.true

pub returns-then-is_full-clause-sent : goal.returns-then-is_full-clause-sent
returns-then-is_full-clause-sent c = rw (← c.self.view_is) (sent-full c.self.inside.window c.self.inside.waiting.items (is_full c))

pub returns-then-is_full-clause-after : goal.returns-then-is_full-clause-after
returns-then-is_full-clause-after c = rw (← c.self.view_is) (after_sent-full c.self.inside.window c.self.inside.waiting.items (is_full c))

gave : (c : goal.In-Ok) → GaveFirst c.self.inside.window c.give.new.self c.self.inside.waiting.items c.pop_front.new.self.items c.in_ok-lane.field-0 c.in-Ok.number
gave c = record {
  room = elim (cases_lt (length c.self.inside.window.waiting) c.self.inside.window.places) [
    | inl below ↦ below
    | inr above ↦
        let full : length c.self.inside.window.waiting ≡ c.self.inside.window.places = omega (arith, c.self.invariant.unanswered) in
        absurd (false≢true (c.in-Ok.ensures.full.1 full))
  ];
  next = c.in-Ok.ensures.next;
  window = c.in-Ok.ensures.ok;
  first = sym c.in_ok-lane.ensures.value;
  rest_is = ap (λ b. b.items) c.pop_front.ensures.items;
}

pub returns-clause-sent : goal.returns-clause-sent
returns-clause-sent c = rw (← c.self.view_is) (sent-gave c.self.inside.window c.give.new.self c.self.inside.waiting.items c.pop_front.new.self.items c.in_ok-lane.field-0 c.in-Ok.number (gave c))

pub returns-clause-after : goal.returns-clause-after
returns-clause-after c = rw (← c.self.view_is) (after_sent-gave c.self.inside.window c.give.new.self c.self.inside.waiting.items c.pop_front.new.self.items c.in_ok-lane.field-0 c.in-Ok.number (gave c))
