use Rattle.std.proofs.Common.{◌∙◌, sym, filter}
use Rattle.smx_legal.specs.Checks.{is_in}
use Rattle.smx_legal.proofs.Nth.{list_found, list_passed, last_list, get_none}
use Rattle.smx_legal.proofs.past.Past.nth.Goals as goal

pub returns-in-Ok : goal.returns-in-Ok
returns-in-Ok c = list_found (is_in c.args.part) c.args.self.earlier.now c.args.self.since.now c.loop-list.list-index c.loop-list.left _ _ _ c.in-Ok.entry _ c.loop-list-test.true c.list-item.is c.as_slice.ensures.value c.loop-list.invariant.1 c.in-Ok.ensures

pub loop-list-preserved : goal.loop-list-preserved
loop-list-preserved c = (c.loop-list.invariant.0, list_passed (is_in c.args.part) c.args.self.earlier.now c.args.self.since.now c.loop-list.list-index c.loop-list.left c.in-Err.rest _ _ _ _ c.loop-list-test.true c.list-item.is c.as_slice.ensures.value c.loop-list.invariant.1 c.in-Err.ensures)

pub returns-in-Err-nth_in : goal.returns-in-Err-nth_in
returns-in-Err-nth_in c =
    sym (get_none (filter (is_in c.args.part) c.args.self.since.now) c.loop-list.left c.in-Err-nth_in.field-0 c.in-Err-nth_in.ensures)
    ∙ last_list (is_in c.args.part) c.args.self.earlier.now c.args.self.since.now c.loop-list.list-index c.loop-list.left _ c.loop-list-test.false c.loop-list.invariant.1
