use Rattle.smx_slots.proofs.client_bell.ClientBellGate.at.Goals.{in-Reading, in-Binding, in-Refusing, in-Admitting, in-Collecting, in-Submitting, in-Taking}
use Rattle.smx_slots.proofs.client_bell.ClientBellGate.at.Goals as goal

pub invariant_of-self-clause-sure : goal.invariant_of-self-clause-sure
invariant_of-self-clause-sure c = elim c.match-point.branch [
  | in-Reading w ↦ rw w.self-is c.args.self.now.sure
  | in-Binding w ↦ rw w.self-is (w.bind-answer.ensures.sure c.args.self.now.leaves)
  | in-Refusing w ↦ rw w.self-is c.args.self.now.sure
  | in-Admitting w ↦ rw w.self-is w.admit-answer.ensures.sure
  | in-Collecting w ↦ rw w.self-is c.args.self.now.sure
  | in-Submitting w ↦ rw w.self-is (w.submit-answer.ensures.sure c.args.self.now.turn.client c.args.self.now.ledger.now)
  | in-Taking w ↦ rw w.self-is c.args.self.now.sure
]
