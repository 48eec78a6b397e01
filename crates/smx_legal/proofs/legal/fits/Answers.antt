use Rattle.smx_legal.specs.Checks.{entries_before}
use Rattle.smx_legal.proofs.AdmitFits.{admit_iff}
use Rattle.smx_legal.proofs.AcceptFits.{accept_iff}
use Rattle.smx_legal.proofs.TakeFits.{take_iff}
use Rattle.smx_legal.proofs.SettleFits.{answer_iff, late_iff, fail_iff}
use Rattle.smx_legal.proofs.LinkFits.{down_iff, up_iff}
use Rattle.smx_legal.proofs.CollectFits.{collect_iff, retire_iff}
use Rattle.smx_legal.proofs.legal.fits.Goals as goal

pub returns-in-Admit : goal.returns-in-Admit
returns-in-Admit c = admit_iff c.args.limits c.args.totals (entries_before c.args.past) c.args.entry _ c.requires.rules c.requires.counted c.in-Admit.is c.admit_fits.ensures

pub returns-in-Accept : goal.returns-in-Accept
returns-in-Accept c = accept_iff c.args.limits c.args.totals (entries_before c.args.past) c.args.entry _ c.requires.rules c.requires.counted c.in-Accept.is c.accept_fits.ensures

pub returns-in-Take : goal.returns-in-Take
returns-in-Take c = take_iff c.args.limits c.args.totals (entries_before c.args.past) c.args.entry _ c.requires.rules c.requires.counted c.in-Take.is c.take_fits.ensures

pub returns-in-Answer : goal.returns-in-Answer
returns-in-Answer c = answer_iff c.args.limits (entries_before c.args.past) c.args.entry _ c.requires.rules c.in-Answer.is c.answer_fits.ensures

pub returns-in-Late : goal.returns-in-Late
returns-in-Late c = late_iff c.args.limits (entries_before c.args.past) c.args.entry _ c.requires.rules c.in-Late.is c.late_fits.ensures

pub returns-in-Collect : goal.returns-in-Collect
returns-in-Collect c = collect_iff c.args.limits (entries_before c.args.past) c.args.entry _ c.requires.rules c.in-Collect.is c.collect_fits.ensures

pub returns-in-Retire : goal.returns-in-Retire
returns-in-Retire c = retire_iff c.args.limits (entries_before c.args.past) c.args.entry _ c.requires.rules c.in-Retire.is c.retire_fits.ensures

pub returns-in-Fail : goal.returns-in-Fail
returns-in-Fail c = fail_iff c.args.limits (entries_before c.args.past) c.args.entry _ c.requires.rules c.in-Fail.is c.fail_fits.ensures

pub returns-in-Down : goal.returns-in-Down
returns-in-Down c = down_iff c.args.limits c.args.totals (entries_before c.args.past) c.args.entry _ c.requires.rules c.requires.counted c.in-Down.is c.down_fits.ensures

pub returns-in-Up : goal.returns-in-Up
returns-in-Up c = up_iff c.args.limits c.args.totals (entries_before c.args.past) c.args.entry _ c.requires.rules c.requires.counted c.in-Up.is c.up_fits.ensures
