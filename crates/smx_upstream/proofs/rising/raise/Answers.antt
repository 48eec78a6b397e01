use Rattle.std.proofs.Common.{◌≡◌, true, Result, Ok, Err, refl, sym, ◌∙◌, subst, true≢false}
use Rattle.smx_history.specs.declared.reply.UpRefusal.TheVariants as refusal
use Rattle.smx_shared.specs.declared.fault.UpFault.{UpFault}
use Rattle.smx_shared.specs.declared.fault.UpFault.TheVariants as ups
use Rattle.smx_shared.specs.Serving.{ComesUp}
use Rattle.smx_upstream.specs.Rising.{is_history_full}
use Rattle.smx_upstream.proofs.rising.raise.Goals as goal

full_is : (r : Result (Unit {0}) UpFault) → is_history_full r ≡ true → r ≡ Err (ups.Refused refusal.HistoryFull)
full_is (Ok done) is = absurd (true≢false (sym is))
full_is (Err ups.Spent) is = absurd (true≢false (sym is))
full_is (Err (ups.Refused refusal.AlreadyUp)) is = absurd (true≢false (sym is))
full_is (Err (ups.Refused refusal.WindowNotEmpty)) is = absurd (true≢false (sym is))
full_is (Err (ups.Refused refusal.HistoryFull)) is = refl

pub returns-clause-rises : goal.returns-clause-rises
returns-clause-rises g c = (
  c.up-first.new.self.front,
  c.turn_over-entries.new.self.front,
  subst (ComesUp _ _) (full_is _ (sym c.is_full.ensures ∙ c.if-not-is_full.false)) c.up-first.ensures.served,
  c.turn_over-entries.ensures.served,
  c.up-said.ensures.served,
)
