use Rattle.std.proofs.Common.{rules, ◌∙◌}
use Rattle.smx_lines.proofs.Inboxes.{sent-places, made-places}
use Rattle.smx_lines.proofs.inbox.Inbox.send.Goals as goal

pub invariant_of-self-2 : goal.invariant_of-self-2
invariant_of-self-2 c =
    let inside = c.self.inside in record {
      places = sent-places c.send.result c.in-Some.mailbox c.send.new.self c.send.ensures.after c.send.ensures.err
          ∙ made-places inside.places inside.last inside.mailbox c.in-Some.mailbox (search rules) c.self.invariant.places;
      last = c.self.invariant.last;
    }
