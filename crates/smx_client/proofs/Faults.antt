-- A part of a turn that ended by a fault.
use Rattle.std.proofs.Common.{◌≡◌, Option, Result, Ok, Err, IsErr, IsErrAnd, sym, subst, true≢false}
use Rattle.smx_turns.specs.declared.end.Fault.{Fault}
use Rattle.smx_client.specs.declared.event.Progress.{Progress}
use Rattle.smx_client.specs.Table.{Phase, Faulted, IsPart}

pub part_err : (q : Phase) (r : Result (Option Progress) Fault) (e : Fault) (p : Phase) → IsErr r → IsErrAnd r (λ (y : Fault). y ≡ e) → Faulted e p → IsPart q r p
part_err q (Ok at) e p is same f = absurd (true≢false (sym is))
part_err q (Err y) e p is same f = subst (λ (x : Fault). Faulted x p) (sym same) f
