use Rattle.std.proofs.Common.{rules, false, refl, ◌++◌, ◌∷◌, [], Some, length, length-append, sym, ap, ◌∙◌, arith, append_assoc}
use Rattle.std.proofs.lemmas.List.{append-nil}
use Rattle.smx_turns.specs.declared.gate.Point.TheVariants.{Admitting}
use Rattle.smx_turns.specs.declared.step.Step.TheVariants.{Asked}
use Rattle.smx_client.specs.Table.{Admitted, go}
use Rattle.smx_client.proofs.Cells as cell
use Rattle.smx_client.proofs.RequestLists.{asked_push, offers_count, some_at}
use Rattle.smx_client.proofs.listing.gather.Goals as goal

pub returns-then-not-admitted-clause-phase : goal.returns-then-not-admitted-clause-phase
returns-then-not-admitted-clause-phase g c = λ t ended was. (
  false,
  c.ask-admitted.ensures.phase t _ (c.loop.invariant.phase t ended was) ∙ ap (λ b. go t (Admitted ended (length c.loop.requests.read)) (Asked Admitting b)) c.if-not-admitted.true
      ∙ cell.more_admit t ended (length c.loop.requests.read) _,
)

pub loop-init : goal.loop-init
loop-init g c =
    let one = offers_count c.args.requests.now.read c.args.requests.now.offers.items c.requires.pairs ∙ c.requires.one in
    record {
      heard = ([], sym (append-nil c.args.requests.now.read), sym (append-nil c.args.wire.now.heard), tt);
      pairs = c.requires.pairs;
      count = c.requires.one;
      room = c.requires.room;
      failed = c.requires.goes_on;
      less = omega arith;
      same = refl;
      phase = λ t ended was. was ∙ ap (Admitted ended) (sym one);
      leads = λ queries events parts unsent offered polls failures base was. was;
    }

pub loop-preserved : goal.loop-preserved
loop-preserved g c =
    let i = c.loop.invariant in
    let pdu = c.in-Ok-Some.pdu in
    let came = some_at _ c.in-Ok-Some.field-0 pdu c.in-Ok-Some.field-0-is c.in-Ok-Some.ensures.some in
    let fewer = some_at _ c.in-Ok-Some.field-0 pdu c.in-Ok-Some.field-0-is c.in-Ok-Some.ensures.less in
    let read = c.push.ensures.read in
    let asks = sym c.asks.ensures ∙ c.in-Some-Request.is ∙ ap Some c.in-Some-Request.field-0-is in
    let more = ap length read ∙ length-append c.loop.requests.read (pdu ∷ []) in
    record {
      heard = (
        i.heard.0 ++ pdu ∷ [],
        read ∙ ap (λ l. l ++ pdu ∷ []) i.heard.1 ∙ append_assoc c.args.requests.now.read i.heard.0 (pdu ∷ []),
        came.0 ∙ ap (λ l. l ++ pdu ∷ []) i.heard.2 ∙ append_assoc c.args.wire.now.heard i.heard.0 (pdu ∷ []),
        asked_push c.args.accounts.now c.args.session.now.account c.args.session.now.state i.heard.0 pdu i.heard.3 asks,
      );
      pairs = c.push.ensures.pairs;
      count = omega (arith, c.push.ensures.count, i.count);
      room = omega (arith, c.push.ensures.room, i.room);
      failed = came.2;
      less = omega (arith, i.less, fewer);
      same = search rules;
      phase = λ t ended was.
          c.ask-admitted.ensures.phase t _ (i.phase t ended was) ∙ ap (λ b. go t (Admitted ended (length c.loop.requests.read)) (Asked Admitting b)) c.if-not-admitted.false
          ∙ cell.more_admit t ended (length c.loop.requests.read) _ ∙ ap (Admitted ended) (sym more);
      leads = λ queries events parts unsent offered polls failures base was.
          c.ask-admitted.ensures.leads queries events parts unsent offered polls failures base (i.leads queries events parts unsent offered polls failures base was);
    }
