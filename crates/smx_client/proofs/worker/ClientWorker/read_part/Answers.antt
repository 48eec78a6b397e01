use Rattle.std.proofs.Common.{true≢false, ◌∙◌, ◌++◌, ◌+◌, ◌∷◌, [], ap, sym, rules}
use Rattle.smx_link.specs.Links.{fault_count}
use Rattle.smx_client.specs.Table.{after_read}
use Rattle.smx_link.specs.Wiring.{Wiring}
use Rattle.smx_client.specs.Parts.{parts}
use Rattle.smx_client.specs.Serving.{Serving}
use Rattle.smx_turns.specs.Wires.{answers_end, has_ended}
use Rattle.smx_turns.proofs.Breaking.{unbroken}
use Rattle.smx_turns.proofs.Wires.{ended_by}
use Rattle.smx_client.specs.Events.{worth}
use Rattle.smx_client.proofs.Cells as cell
use Rattle.smx_turns.proofs.Scenes.{reads}
use Rattle.smx_client.proofs.worker.ClientWorker.read_part.Goals as goal

pub returns-then-not-ask-clause-phase : goal.returns-then-not-ask-clause-phase
returns-then-not-ask-clause-phase g c = λ t was held. c.if-not-ask.ensures.phase t _ was ∙ cell.no_read t

pub returns-then-not-settled-clause-phase : goal.returns-then-not-settled-clause-phase
returns-then-not-settled-clause-phase g c = λ t was held.
    c.mark.ensures.phase t _ (c.if-not-ask.ensures.phase t _ was ∙ cell.yes_read t) ∙ cell.waited t (held ∙ ap (λ (w : Serving g.row.L.Denot). w.settled) (sym c.self.view_is) ∙ c.if-not-settled.true)

pub returns-in-Ok-clause-leads : goal.returns-in-Ok-clause-leads
returns-in-Ok-clause-leads g c = rw (← c.self.view_is) (λ queries base was.
    let s = c.self.inside in
    let m = c.make_ready.ensures in
    let r = c.read-answer.ensures in
    c.reading.ensures.leads c.args.turn _ _ (reads g.L.Link.offered g.L.Link.polls g.L.Link.failures _ _ queries _ _ _ _ _ _ _ c.read-answer.result
    (ap (λ (w : Wiring g.row.L.Denot). parts s.desk.now w.said s.port s.session s.window s.inbox s.senders.items s.parked) r.same
    ∙ ap (λ (w : Wiring g.row.L.Denot). parts s.desk.now w.said s.port s.session s.window s.inbox s.senders.items s.parked) m.same)
    (ap (λ (w : Wiring g.row.L.Denot). w.unsent) r.same ∙ ap (λ (w : Wiring g.row.L.Denot). w.unsent) m.same)
    (r.offered ∙ ap (λ (w : Wiring g.row.L.Denot). g.L.Link.offered w.link) m.same)
    (r.polls ∙ ap (λ (w : Wiring g.row.L.Denot). g.L.Link.polls w.link ++ c.read-answer.result ∷ []) m.same)
    (r.failures ∙ ap (λ (w : Wiring g.row.L.Denot). g.L.Link.failures w.link + fault_count c.read-answer.result) m.same)) base
    (c.if-not-ask.ensures.leads queries _ _ _ _ _ _ base was))

pub returns-in-Err-clause-leads : goal.returns-in-Err-clause-leads
returns-in-Err-clause-leads g c = rw (← c.self.view_is) (λ queries base was.
    let s = c.self.inside in
    let m = c.make_ready.ensures in
    let r = c.read-answer.ensures in
    c.reading.ensures.leads c.args.turn _ _ (reads g.L.Link.offered g.L.Link.polls g.L.Link.failures _ _ queries _ _ _ _ _ _ _ c.read-answer.result
    (ap (λ (w : Wiring g.row.L.Denot). parts s.desk.now w.said s.port s.session s.window s.inbox s.senders.items s.parked) r.same
    ∙ ap (λ (w : Wiring g.row.L.Denot). parts s.desk.now w.said s.port s.session s.window s.inbox s.senders.items s.parked) m.same)
    (ap (λ (w : Wiring g.row.L.Denot). w.unsent) r.same ∙ ap (λ (w : Wiring g.row.L.Denot). w.unsent) m.same)
    (r.offered ∙ ap (λ (w : Wiring g.row.L.Denot). g.L.Link.offered w.link) m.same)
    (r.polls ∙ ap (λ (w : Wiring g.row.L.Denot). g.L.Link.polls w.link ++ c.read-answer.result ∷ []) m.same)
    (r.failures ∙ ap (λ (w : Wiring g.row.L.Denot). g.L.Link.failures w.link + fault_count c.read-answer.result) m.same)) base
    (c.if-not-ask.ensures.leads queries _ _ _ _ _ _ base was))

pub returns-in-Ok-clause-phase : goal.returns-in-Ok-clause-phase
returns-in-Ok-clause-phase g c = λ t was held.
    c.reading.ensures.phase t _ (c.if-not-ask.ensures.phase t _ was ∙ cell.yes_read t)
    ∙ cell.came t c.read-answer.result (held ∙ ap (λ (w : Serving g.row.L.Denot). w.settled) (sym c.self.view_is) ∙ c.if-not-settled.false) ∙ ap (after_read t) c.in-Ok.is

pub returns-in-Err-clause-phase : goal.returns-in-Err-clause-phase
returns-in-Err-clause-phase g c = λ t was held.
    c.reading.ensures.phase t _ (c.if-not-ask.ensures.phase t _ was ∙ cell.yes_read t)
    ∙ cell.came t c.read-answer.result (held ∙ ap (λ (w : Serving g.row.L.Denot). w.settled) (sym c.self.view_is) ∙ c.if-not-settled.false) ∙ ap (after_read t) c.in-Err.is

pub invariant_of-self-in-Ok : goal.invariant_of-self-in-Ok
invariant_of-self-in-Ok g c =
    let last = ap has_ended c.read-answer.ensures.polls ∙ ended_by _ _ ∙ ap answers_end c.in-Ok.is ∙ sym c.is_end.ensures in
    record {
      heard = search rules;
      runs = search rules;
      settled = search rules;
      locks = search rules;
      over = search rules;
      turned_away = search rules;
      broken = unbroken worth c.self.inside.wire c.read-answer.new.self _ (ap (λ (w : Serving g.row.L.Denot). w.wire.failed) c.self.view_is ∙ c.requires.goes_on) c.self.invariant.broken;
      opened = λ opened ended. absurd (true≢false (sym ended ∙ last ∙ c.stage_after-self-inside.ensures.only.1 opened));
      drained = λ drained. last ∙ c.stage_after-self-inside.ensures.only.0 drained;
      closed = λ closed. absurd (c.stage_after-self-inside.ensures.goes_on closed);
    }

pub invariant_of-self-in-Err : goal.invariant_of-self-in-Err
invariant_of-self-in-Err g c = record {
  heard = search rules;
  runs = search rules;
  settled = search rules;
  locks = search rules;
  over = search rules;
  turned_away = search rules;
  broken = unbroken worth c.self.inside.wire c.read-answer.new.self _ (ap (λ (w : Serving g.row.L.Denot). w.wire.failed) c.self.view_is ∙ c.requires.goes_on) c.self.invariant.broken;
  opened = λ opened ended. absurd (true≢false (sym ended ∙ (ap has_ended c.read-answer.ensures.polls ∙ ended_by _ _ ∙ ap answers_end c.in-Err.is)));
  drained = search rules;
  closed = search rules;
}
