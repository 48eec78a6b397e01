use Rattle.std.proofs.Common.{sym, refl, ◌∙◌, ap, arith}
use Rattle.smx_shared.specs.Views.{locks_of}
use Rattle.smx_shared.proofs.Making.{locks_of-firsts, tapped_firsts, stuck_first, taps_locks, doors_unused, taps_unused}
use Rattle.smx_shared.proofs.exchange.Exchange.new_at.Goals as goal

pub split_taps-requires-clause-locks : goal.split_taps-requires-clause-locks
split_taps-requires-clause-locks g c = ap locks_of c.in-Ok.ensures.seats ∙ locks_of-firsts c.in-Ok.made.0.items ∙ sym c.as_slice.ensures.value

pub returns-clause-ok : goal.returns-clause-ok
returns-clause-ok g c =
    let made = c.in-Ok.ensures in
    let tapped = tapped_firsts c.args.lanes c.in-Ok.made.0.items c.in-Ok.made.1.items c.split_taps.new.seats.items c.split_taps.new.taps.items made.seats made.locks.count c.in_default-split_taps.ensures.ok in
    record {
      ranges = ((omega (arith, c.if-lanes-eq0.false), omega (arith, c.if-lanes-gt16.false)), made.limits);
      made = made.locks;
      numbers = (refl, refl);
      seats = tapped.locks ∙ locks_of-firsts c.in-Ok.made.0.items;
      tapped = tapped;
    }

pub returns-clause-taps : goal.returns-clause-taps
returns-clause-taps g c =
    let made = c.in-Ok.ensures in
    taps_locks c.args.lanes c.in-Ok.made.0.items c.split_taps.new.seats.items c.split_taps.new.taps.items made.locks.count
    (tapped_firsts c.args.lanes c.in-Ok.made.0.items c.in-Ok.made.1.items c.split_taps.new.seats.items c.split_taps.new.taps.items made.seats made.locks.count c.in_default-split_taps.ensures.ok)

pub returns-clause-empty : goal.returns-clause-empty
returns-clause-empty g c =
    let made = c.in-Ok.ensures in
    let locks = c.in-Ok.made.0.items in
    let door = c.split_taps.new.seats.items in
    let taps = c.split_taps.new.taps.items in
    let tapped = tapped_firsts c.args.lanes locks c.in-Ok.made.1.items door taps made.seats made.locks.count c.in_default-split_taps.ensures.ok in
    (doors_unused c.args.lanes locks door taps made.locks.count tapped, taps_unused c.args.lanes locks door taps made.locks.count tapped)

pub returns-in-Err-split_taps-clause-err : goal.returns-in-Err-split_taps-clause-err
returns-in-Err-split_taps-clause-err g c =
    let made = c.in-Ok.ensures in
    rw c.spent.ensures ((omega (arith, c.if-lanes-eq0.false), omega (arith, c.if-lanes-gt16.false)), made.limits, stuck_first c.in-Ok.made.0.items c.in-Ok.made.1.items c.in-Err-split_taps.seat made.seats c.in-Err-split_taps.ensures.err)
