use Rattle.std.proofs.Common.{ℕ, rules, arith, refl, subst, Option}
use Rattle.std.proofs.lemmas.Result.{IfOk-weaker}
use Rattle.smx_lines.specs.Lanes.{lasts}
use Rattle.smx_lines.specs.Private.Lanes.{EntersLanes}
use Rattle.smx_lines.proofs.ClientTurns.{entered_all, entered_none, have_entered}
use Rattle.smx_lines.proofs.clients.enter.Goals as goal

pub retire_before-requires : goal.retire_before-requires
retire_before-requires c =
    let s = c.requires.0 in
    let a = c.requires.1 in
    have_entered c.args.state.now s c.len-client.result c.in-Some.refusing c.admit_all.new.lanes.items a
    (subst (λ (o : Option ℕ). EntersLanes s.limits (lasts s.clients) s.lanes c.len-client.result o c.admit_all.new.lanes.items) c.in-Some.is (c.in_ok-admit_all.ensures s.limits (lasts s.clients) s.lanes a.lanes))

pub returns-in_ok-push-in-None : goal.returns-in_ok-push-in-None
returns-in_ok-push-in-None c = λ s a.
    let enters = subst (λ (o : Option ℕ). EntersLanes s.limits (lasts s.clients) s.lanes c.len-client.result o c.admit_all.new.lanes.items) c.in-None.is (c.in_ok-admit_all.ensures s.limits (lasts s.clients) s.lanes a.lanes) in
    IfOk-weaker c.client_line.result _ _ (λ text e. entered_all c.args.state.now _ s c.args.kind c.len-client.result c.new-link.result text.items a (omega arith) enters (record { limits = refl; count = refl; started = refl; accounts = refl; places = refl; routes = refl; moment = refl }) (search rules) c.new-link.ensures e) c.client_line.ensures

pub returns-in_ok-push-in-Some : goal.returns-in_ok-push-in-Some
returns-in_ok-push-in-Some c = λ s a.
    let enters = subst (λ (o : Option ℕ). EntersLanes s.limits (lasts s.clients) s.lanes c.len-client.result o c.admit_all.new.lanes.items) c.in-Some.is (c.in_ok-admit_all.ensures s.limits (lasts s.clients) s.lanes a.lanes) in
    IfOk-weaker c.from_slice.result _ _ (λ text e. entered_none c.args.state.now c.admit_all.new.lanes.items _ s c.args.kind c.len-client.result c.in-Some.refusing text.items a (omega arith) enters c.retire_before.ensures
    (record { limits = refl; count = refl; started = refl; accounts = refl; places = refl; routes = refl; moment = refl }) (search rules) e) (search rules)
