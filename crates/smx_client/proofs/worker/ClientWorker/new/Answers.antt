use Rattle.std.proofs.Common.{ap, sym, ◌∙◌, refl}
use Rattle.smx_shared.specs.Views.{PortView, locks_of}
use Rattle.smx_turns.proofs.Breaking.{none_broken}
use Rattle.smx_client.specs.Events.{worth}
use Rattle.smx_client.proofs.Starts.{started, heard_first}
use Rattle.smx_client.proofs.Settling.{none_begins}
use Rattle.smx_turns.specs.Endings.{ending_of}
use Rattle.smx_client.specs.Refusals.{last_refused}
use Rattle.smx_client.proofs.Bindings.{none_over, none_refused}
use Rattle.smx_client.proofs.worker.ClientWorker.new.Goals as goal

pub invariant_of-result : goal.invariant_of-result
invariant_of-result g c = record {
  heard = heard_first _ _ c.new-2.ensures.none.0 c.new-5.ensures;
  runs = started _ _ _ _ _ _ _ _ _ _ _ _ _ c.new-5.ensures c.new-2.ensures.none.1 c.of.ensures c.of-2.ensures c.of-3.ensures c.of-4.ensures (ap (λ v. v.items) c.of-5.ensures);
  settled = λ settled. (refl, none_begins _ c.new-2.ensures.octets.0);
  locks = ap (λ (p : PortView). locks_of p.fronts) (sym c.of.ensures);
  over = none_over ∙ ap (ending_of worth) (sym c.new-5.ensures);
  turned_away = none_refused ∙ ap last_refused (sym c.new-5.ensures);
  broken = none_broken worth _ c.new-5.ensures;
  opened = λ opened ended. ap g.L.Link.polls (c.new-2.ensures.link.0 ∙ sym c.new-2.ensures.link.1);
  drained = λ drained. absurd (cc);
  closed = λ closed. absurd (cc);
}
