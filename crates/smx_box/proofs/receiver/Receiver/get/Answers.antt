use Rattle.std.proofs.Common.{ap, subst, arith}
use Rattle.smx_box.specs.Letters.{is_item}
use Rattle.smx_box.specs.Boxes.{OldestServes}
use Rattle.smx_box.specs.Private.Ends.{receiving}
use Rattle.smx_box.proofs.BoxEnds.{taken, receiver_item, receiver_mark, some_open, hands_item, hands_mark, mark_serves, empty_get_serves}
use Rattle.smx_box.proofs.receiver.Receiver.get.Goals as goal

pub invariant_of-self-in-Some-content : goal.invariant_of-self-in-Some-content
invariant_of-self-in-Some-content g c =
    let f = c.self.inside.end in
    let t = taken f c.take.new.self c.in-Some.letter c.self.invariant.pass (subst (OldestServes (receiving f) c.take.new.self) c.in-Some.is c.take.ensures) in
    receiver_item f c.take.new.self c.self.inside.senders c.self.inside.shut c.in-Some.letter t (ap is_item c.in-Some-content.is) c.self.invariant

pub overflow_add-self : goal.overflow_add-self
overflow_add-self g c =
    let f = c.self.inside.end in
    let t = taken f c.take.new.self c.in-Some.letter c.self.invariant.pass (subst (OldestServes (receiving f) c.take.new.self) c.in-Some.is c.take.ensures) in
    let l = some_open f c.take.new.self c.self.inside.senders c.self.inside.shut c.in-Some.letter t c.self.invariant in
    omega (arith, l)

pub invariant_of-self-in-None : goal.invariant_of-self-in-None
invariant_of-self-in-None g c =
    let f = c.self.inside.end in
    let t = taken f c.take.new.self c.in-Some.letter c.self.invariant.pass (subst (OldestServes (receiving f) c.take.new.self) c.in-Some.is c.take.ensures) in
    receiver_mark f c.take.new.self c.self.inside.senders c.self.inside.shut c.in-Some.letter t (ap is_item c.in-None.is) c.self.invariant

pub returns-in-Some-content-clause-got : goal.returns-in-Some-content-clause-got
returns-in-Some-content-clause-got g c =
    let f = c.self.inside.end in
    let t = taken f c.take.new.self c.in-Some.letter c.self.invariant.pass (subst (OldestServes (receiving f) c.take.new.self) c.in-Some.is c.take.ensures) in
    hands_item f c.take.new.self c.args.self.now c.in-Some.letter c.in-Some-content.content c.self.view_is t c.in-Some-content.is

pub returns-in-Some-content-clause-numbered : goal.returns-in-Some-content-clause-numbered
returns-in-Some-content-clause-numbered g c =
    let f = c.self.inside.end in
    let t = taken f c.take.new.self c.in-Some.letter c.self.invariant.pass (subst (OldestServes (receiving f) c.take.new.self) c.in-Some.is c.take.ensures) in
    t.numbered

pub returns-in-None-clause-got : goal.returns-in-None-clause-got
returns-in-None-clause-got g c =
    let f = c.self.inside.end in
    let t = taken f c.take.new.self c.in-Some.letter c.self.invariant.pass (subst (OldestServes (receiving f) c.take.new.self) c.in-Some.is c.take.ensures) in
    hands_mark f c.take.new.self c.args.self.now c.in-Some.letter c.self.view_is t c.in-None.is

pub returns-in-None-clause-numbered : goal.returns-in-None-clause-numbered
returns-in-None-clause-numbered g c =
    let f = c.self.inside.end in
    let t = taken f c.take.new.self c.in-Some.letter c.self.invariant.pass (subst (OldestServes (receiving f) c.take.new.self) c.in-Some.is c.take.ensures) in
    t.numbered

pub returns-in-None-clause-served : goal.returns-in-None-clause-served
returns-in-None-clause-served g c =
    let f = c.self.inside.end in
    let s = subst (OldestServes (receiving f) c.take.new.self) c.in-Some.is c.take.ensures in
    let t = taken f c.take.new.self c.in-Some.letter c.self.invariant.pass s in
    mark_serves f c.take.new.self c.args.self.now c.in-Some.letter c.self.view_is t c.in-None.is s

pub returns-in_default-clause-served : goal.returns-in_default-clause-served
returns-in_default-clause-served g c =
    let f = c.self.inside.end in
    empty_get_serves f c.take.new.self c.args.self.now c.self.inside.senders c.self.inside.shut c.self.view_is c.self.invariant (subst (OldestServes (receiving f) c.take.new.self) c.in_default.is c.take.ensures)
