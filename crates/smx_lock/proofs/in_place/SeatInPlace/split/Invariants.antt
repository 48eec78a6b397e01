use Rattle.std.proofs.Common.{[]}
use Rattle.smx_lock.proofs.in_place.SeatInPlace.split.Given as goal

abbrev pub ghost-release : goal.ghost-release
ghost-release g a = []
