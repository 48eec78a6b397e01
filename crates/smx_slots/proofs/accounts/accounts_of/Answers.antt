use Rattle.std.proofs.Common.{length, ◌∙◌, arith}
use Rattle.smx_slots.specs.Ledger.{key_moved}
use Rattle.smx_slots.proofs.Moving.{account_entered, some_within}
use Rattle.smx_slots.proofs.accounts.accounts_of.Goals as goal

pub enter-requires : goal.enter-requires
enter-requires c = some_within c.key_moved-key.result (length c.args.table.now) (length c.loop-index.all.items) c.loop-index.invariant.more (c.key_moved-key.ensures.among (length c.args.table.now) c.requires)

pub loop-index-preserved : goal.loop-index-preserved
loop-index-preserved c = record {
  steps = account_entered (key_moved c.args.moves.now c.args.keys.now) c.args.limits.now c.loop-index.index c.key_moved-key.result _ _ _ c.loop-index-test.true c.key_moved-key.ensures.moved c.in_ok-enter.ensures.entered ∙ c.loop-index.invariant.steps;
  within = c.in_ok-enter.ensures.within c.loop-index.invariant.within;
  more = omega (arith, c.in_ok-enter.ensures.more, c.loop-index.invariant.more);
}
