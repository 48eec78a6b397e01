use Rattle.std.proofs.Common.{◌∷◌, sym}
use Rattle.smx_mailbox.specs.Mailbox.{unanswered_messages}
use Rattle.smx_mailbox.proofs.Rising.{rising-first}
use Rattle.smx_mailbox.proofs.mailbox.Mailbox.take_unanswered.Goals as goal

pub returns-in-Some-clause-taken : goal.returns-in-Some-clause-taken
returns-in-Some-clause-taken c =
    let first = c.in-Some.ensures.first in
    let risen = rising-first c.self.inside.window.waiting first.0 c.in-Some.ensures.apart first.1 in
    rw (← c.self.view_is, risen) (λ i.
    record { lane = sym first.2 i; number = sym first.3 i; command = sym first.4 i }
    ∷ unanswered_messages (record { waiting = c.self.inside.waiting.items; window = sym first.5 i }))
