use Rattle.std.proofs.Common.{◌∙◌, ap, subst, Err}
use Rattle.smx_shared.specs.Serving.{AdmitServes}
use Rattle.smx_shared.proofs.Entering.{enters_of, admit_crowded}
use Rattle.smx_shared.proofs.admit.admit_on.Goals as goal

pub returns-in-Ok-Ok-clause-ok : goal.returns-in-Ok-Ok-clause-ok
returns-in-Ok-Ok-clause-ok g c =
    enters_of c.args.client c.args.seat.now c.split.new.self c.in-Ok.guest c.hold.new.self c.in-Ok.ensures.served
    (subst (AdmitServes c.in-Ok.guest c.hold.new.self c.args.client) c.in-Ok-Ok.field-0-is c.in-Ok-Ok.ensures.served)

pub returns-in-Ok-Err-Known-clause-err : goal.returns-in-Ok-Err-Known-clause-err
returns-in-Ok-Err-Known-clause-err g c = (
  c.in-Ok.guest,
  c.in-Ok.ensures.served,
  subst (AdmitServes c.in-Ok.guest c.hold.new.self c.args.client) (c.in-Ok-Err-Known.field-0-is ∙ ap Err c.in-Ok-Err-Known.field-0-0-is) c.in-Ok-Err-Known.ensures.served,
)

pub returns-in-Ok-Err-HistoryFull-clause-err : goal.returns-in-Ok-Err-HistoryFull-clause-err
returns-in-Ok-Err-HistoryFull-clause-err g c =
    let h = subst (AdmitServes c.in-Ok.guest c.hold.new.self c.args.client) (c.in-Ok-Err-HistoryFull.field-0-is ∙ ap Err c.in-Ok-Err-HistoryFull.field-0-0-is) c.in-Ok-Err-HistoryFull.ensures.served in
    (c.in-Ok.guest, c.in-Ok.ensures.served, (h, admit_crowded c.in-Ok.guest c.hold.new.self c.args.client h))

pub returns-in-Ok-Err-NoMemory-clause-err : goal.returns-in-Ok-Err-NoMemory-clause-err
returns-in-Ok-Err-NoMemory-clause-err g c = (
  c.in-Ok.guest,
  c.in-Ok.ensures.served,
  subst (AdmitServes c.in-Ok.guest c.hold.new.self c.args.client) (c.in-Ok-Err-NoMemory.field-0-is ∙ ap Err c.in-Ok-Err-NoMemory.field-0-0-is) c.in-Ok-Err-NoMemory.ensures.served,
)
