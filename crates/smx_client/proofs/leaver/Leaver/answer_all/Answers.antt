use Rattle.std.proofs.Common.{rules, ◌∙◌}
use Rattle.smx_client.proofs.Leavings.{gets_none}
use Rattle.smx_client.proofs.leaver.Leaver.answer_all.Goals as goal

pub loop-init : goal.loop-init
loop-init g c = record {
  none = search rules;
  gets = c.put_parked.ensures.gets ∙ gets_none _ c.requires.none;
  inbox = search rules;
  first_parked = search rules;
  first_window = search rules;
  first_inbox = search rules;
  first_senders = search rules;
}
