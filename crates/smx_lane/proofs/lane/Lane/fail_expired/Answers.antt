use Rattle.std.proofs.Common.{sym}
use Rattle.smx_history.specs.Replies.{is_expired, moment_at}
use Rattle.smx_lane.specs.Inside.{content_of}
use Rattle.smx_lane.proofs.Answering.{found_index}
use Rattle.smx_lane.proofs.lane.Lane.fail_expired.Goals as goal

pub give_up-requires : goal.give_up-requires
give_up-requires c =
    let v = content_of c.self.inside in
    rw c.in-Some.ensures.same (found_index (is_expired (moment_at v c.args.now) c.args.age) v.window c.in-Some.place (sym c.in-Some.ensures.found))
