use Rattle.std.proofs.Common.{◌<◌, ℕ, List, length, rules, false, Ok, refl, sym, ap, ◌∙◌, subst}
use Rattle.smx_frame.specs.Stream.{HasNone}
use Rattle.smx_turns.specs.declared.gate.Point.TheVariants.{Reading}
use Rattle.smx_turns.specs.declared.step.Step.TheVariants.{Asked, Marked}
use Rattle.smx_turns.specs.declared.mark.Mark.TheVariants.{Full}
use Rattle.smx_upstream.specs.Phases.{Deciding, Emptied, Stopped, when_may_read, when_next}
use Rattle.smx_upstream.specs.Phases.Source.{Earlier}
use Rattle.smx_upstream.specs.Working.{scene_of}
use Rattle.smx_turns.proofs.Scenes.{asks, scenes_same}
use Rattle.smx_upstream.proofs.Eventful.{goes_by, goes_then, goes_from}
use Rattle.smx_upstream.proofs.Cells.{stepped, cell_brim, cell_reading, early, course_err, wanted, ends_stopped, waits_as, no_goes, no_goes_over}
use Rattle.smx_upstream.proofs.worker.UpstreamWorker.read_part.Goals as goal

pub returns-in_err-make_ready-clause-phase : goal.returns-in_err-make_ready-clause-phase
returns-in_err-make_ready-clause-phase g c = λ t same was.
    course_err _ _ _ c.from_residual.ensures.0 c.from_residual.ensures.1 (wanted _ _ _ (Deciding (Earlier false)) c.in_err-make_ready.ensures.err refl was tt)

pub returns-then-unsent-ge-MAX_PDU-clause-phase : goal.returns-then-unsent-ge-MAX_PDU-clause-phase
returns-then-unsent-ge-MAX_PDU-clause-phase g c = λ t same was. c.halt.ensures.phase t (stepped t _ _ (Marked Full) (Deciding (Earlier false)) _ c.push.ensures (cell_brim t (Earlier false)) was)

pub returns-then-unsent-ge-MAX_PDU-clause-waits : goal.returns-then-unsent-ge-MAX_PDU-clause-waits
returns-then-unsent-ge-MAX_PDU-clause-waits g c = λ t same was. c.halt.ensures.waits t (stepped t _ _ (Marked Full) (Deciding (Earlier false)) _ c.push.ensures (cell_brim t (Earlier false)) was)

pub returns-then-unsent-ge-MAX_PDU-clause-whole : goal.returns-then-unsent-ge-MAX_PDU-clause-whole
returns-then-unsent-ge-MAX_PDU-clause-whole g c = λ e. absurd (no_goes _ false refl (c.halt.ensures.filled false e).0)

pub returns-then-unsent-ge-MAX_PDU-clause-few : goal.returns-then-unsent-ge-MAX_PDU-clause-few
returns-then-unsent-ge-MAX_PDU-clause-few g c = λ filled e. absurd (no_goes _ filled refl (c.halt.ensures.filled filled e).0)

pub returns-then-unsent-ge-MAX_PDU-clause-goes : goal.returns-then-unsent-ge-MAX_PDU-clause-goes
returns-then-unsent-ge-MAX_PDU-clause-goes g c = goes_then c.args.turn _ _ _ _ _ _ (goes_by c.args.turn _ _ _ _ (Marked Full) c.push.ensures tt (let h = c.unsent.ensures in let k = c.if-unsent-ge-MAX_PDU.true in let m = ap (λ w. w.wire.unsent) c.make_ready.ensures.same in (search rules), (scenes_same refl refl refl (ap (λ w. w.events) c.make_ready.ensures.same) (ap (λ w. w.stand) c.make_ready.ensures.same) (ap (λ w. w.wire.unsent) c.make_ready.ensures.same) (ap (λ w. g.L.Link.offered w.wire.link) c.make_ready.ensures.same) (ap (λ w. g.L.Link.polls w.wire.link) c.make_ready.ensures.same) (ap (λ w. g.L.Link.failures w.wire.link) c.make_ready.ensures.same)))) (c.halt.ensures.goes c.args.turn _)

pub returns-in_err-next-clause-phase : goal.returns-in_err-next-clause-phase
returns-in_err-next-clause-phase g c = λ t same was.
    course_err _ _ _ c.from_residual-in_err-next.ensures.0 c.from_residual-in_err-next.ensures.1 (c.in_err-next.ensures.phase t (Earlier false) same was)

pub returns-in_err-next-clause-goes : goal.returns-in_err-next-clause-goes
returns-in_err-next-clause-goes g c = (goes_from c.args.turn _ _ _ _ _ (ap (λ w. scene_of g.L.Link.offered g.L.Link.polls g.L.Link.failures (g.G.Gate.asked c.args.gate.now) (g.G.Gate.told c.args.gate.now) (g.D.Directory.queries c.args.directory.now) w) c.make_ready.ensures.same) (c.decide_next.ensures.goes c.args.turn))

pub returns-in_default-clause-phase : goal.returns-in_default-clause-phase
returns-in_default-clause-phase g c = λ t same was. c.halt-in_default.ensures.phase t (c.in_ok-progress-in_default.ensures.phase t same (c.in_ok-next.ensures.phase t (Earlier false) same was))

pub returns-in_default-clause-waits : goal.returns-in_default-clause-waits
returns-in_default-clause-waits g c = λ t same was. c.halt-in_default.ensures.waits t (c.in_ok-progress-in_default.ensures.phase t same (c.in_ok-next.ensures.phase t (Earlier false) same was))

pub returns-in_default-clause-goes : goal.returns-in_default-clause-goes
returns-in_default-clause-goes g c = goes_then c.args.turn _ _ _ _ _ _ (goes_then c.args.turn _ _ _ _ _ _ (goes_from c.args.turn _ _ _ _ _ (ap (λ w. scene_of g.L.Link.offered g.L.Link.polls g.L.Link.failures (g.G.Gate.asked c.args.gate.now) (g.G.Gate.told c.args.gate.now) (g.D.Directory.queries c.args.directory.now) w) c.make_ready.ensures.same) (c.decide_next.ensures.goes c.args.turn)) (c.decide_left.ensures.goes c.args.turn)) (c.halt-in_default.ensures.goes c.args.turn _)

pub returns-in_default-clause-whole : goal.returns-in_default-clause-whole
returns-in_default-clause-whole g c = λ e.
    subst (HasNone 65536) (sym c.halt-in_default.ensures.unread.1) (c.in_ok-progress-in_default.ensures.part (ap Ok (c.halt-in_default.ensures.filled false e).0))

pub returns-in_default-clause-few : goal.returns-in_default-clause-few
returns-in_default-clause-few g c = λ filled e.
    let goes = c.halt-in_default.ensures.filled filled e in
    subst (λ (l : List ℕ). length l < 65536) (sym goes.1) (c.in_ok-progress-in_default.ensures.few (λ over. no_goes_over _ filled over goes.0) (λ brims. no_goes _ filled brims goes.0))

pub returns-in_err-expire-clause-phase : goal.returns-in_err-expire-clause-phase
returns-in_err-expire-clause-phase g c = λ t same was.
    course_err _ _ _ c.from_residual-in_err-expire.ensures.0 c.from_residual-in_err-expire.ensures.1 (c.in_err-expire.ensures.phase t Stopped (stepped t _ _ (Asked Reading c.ask-may.result) Emptied _ c.ask-may.ensures.log (cell_reading t c.ask-may.result) (c.in_ok-next.ensures.phase t (Earlier false) same was ∙ ap (when_next (Earlier false)) c.in-Part.is) ∙ ap when_may_read c.if-not-may.true))

pub returns-in_err-expire-clause-goes : goal.returns-in_err-expire-clause-goes
returns-in_err-expire-clause-goes g c = goes_then c.args.turn _ _ _ _ _ _ (goes_then c.args.turn _ _ _ _ _ _ (goes_from c.args.turn _ _ _ _ _ (ap (λ w. scene_of g.L.Link.offered g.L.Link.polls g.L.Link.failures (g.G.Gate.asked c.args.gate.now) (g.G.Gate.told c.args.gate.now) (g.D.Directory.queries c.args.directory.now) w) c.make_ready.ensures.same) (c.decide_next.ensures.goes c.args.turn)) (goes_by c.args.turn _ _ _ _ (Asked Reading c.ask-may.result) c.ask-may.ensures.log (let h = c.unsent.ensures in let k = c.if-unsent-ge-MAX_PDU.false in let m = ap (λ w. w.wire.unsent) c.self.view_is in let n = (c.in_ok-next.ensures.part (ap Ok c.in-Part.is)).2 in search rules) (asks _ _ _ _ _ _ _ _ _ _ _ _ c.ask-may.ensures.asked c.ask-may.ensures.told))) (c.expire.ensures.goes c.args.turn _)

pub returns-then-not-may-clause-phase : goal.returns-then-not-may-clause-phase
returns-then-not-may-clause-phase g c = λ t same was. early _ _ Stopped (c.in_ok-expire.ensures.phase t Stopped (stepped t _ _ (Asked Reading c.ask-may.result) Emptied _ c.ask-may.ensures.log (cell_reading t c.ask-may.result) (c.in_ok-next.ensures.phase t (Earlier false) same was ∙ ap (when_next (Earlier false)) c.in-Part.is) ∙ ap when_may_read c.if-not-may.true)) ends_stopped

pub returns-then-not-may-clause-waits : goal.returns-then-not-may-clause-waits
returns-then-not-may-clause-waits g c = λ t same was. waits_as _ Stopped _ _ (c.in_ok-expire.ensures.phase t Stopped (stepped t _ _ (Asked Reading c.ask-may.result) Emptied _ c.ask-may.ensures.log (cell_reading t c.ask-may.result) (c.in_ok-next.ensures.phase t (Earlier false) same was ∙ ap (when_next (Earlier false)) c.in-Part.is) ∙ ap when_may_read c.if-not-may.true)) tt

pub returns-then-not-may-clause-goes : goal.returns-then-not-may-clause-goes
returns-then-not-may-clause-goes g c = goes_then c.args.turn _ _ _ _ _ _ (goes_then c.args.turn _ _ _ _ _ _ (goes_from c.args.turn _ _ _ _ _ (ap (λ w. scene_of g.L.Link.offered g.L.Link.polls g.L.Link.failures (g.G.Gate.asked c.args.gate.now) (g.G.Gate.told c.args.gate.now) (g.D.Directory.queries c.args.directory.now) w) c.make_ready.ensures.same) (c.decide_next.ensures.goes c.args.turn)) (goes_by c.args.turn _ _ _ _ (Asked Reading c.ask-may.result) c.ask-may.ensures.log (let h = c.unsent.ensures in let k = c.if-unsent-ge-MAX_PDU.false in let m = ap (λ w. w.wire.unsent) c.self.view_is in let n = (c.in_ok-next.ensures.part (ap Ok c.in-Part.is)).2 in search rules) (asks _ _ _ _ _ _ _ _ _ _ _ _ c.ask-may.ensures.asked c.ask-may.ensures.told))) (c.expire.ensures.goes c.args.turn _)

pub returns-clause-phase : goal.returns-clause-phase
returns-clause-phase g c = λ t same was. c.read_on.ensures.phase t same (stepped t _ _ (Asked Reading c.ask-may.result) Emptied _ c.ask-may.ensures.log (cell_reading t c.ask-may.result) (c.in_ok-next.ensures.phase t (Earlier false) same was ∙ ap (when_next (Earlier false)) c.in-Part.is) ∙ ap when_may_read c.if-not-may.false)

pub returns-clause-waits : goal.returns-clause-waits
returns-clause-waits g c = λ t same was. c.read_on.ensures.waits t same (stepped t _ _ (Asked Reading c.ask-may.result) Emptied _ c.ask-may.ensures.log (cell_reading t c.ask-may.result) (c.in_ok-next.ensures.phase t (Earlier false) same was ∙ ap (when_next (Earlier false)) c.in-Part.is) ∙ ap when_may_read c.if-not-may.false)

pub returns-clause-goes : goal.returns-clause-goes
returns-clause-goes g c = goes_then c.args.turn _ _ _ _ _ _ (goes_then c.args.turn _ _ _ _ _ _ (goes_from c.args.turn _ _ _ _ _ (ap (λ w. scene_of g.L.Link.offered g.L.Link.polls g.L.Link.failures (g.G.Gate.asked c.args.gate.now) (g.G.Gate.told c.args.gate.now) (g.D.Directory.queries c.args.directory.now) w) c.make_ready.ensures.same) (c.decide_next.ensures.goes c.args.turn)) (goes_by c.args.turn _ _ _ _ (Asked Reading c.ask-may.result) c.ask-may.ensures.log (let h = c.unsent.ensures in let k = c.if-unsent-ge-MAX_PDU.false in let m = ap (λ w. w.wire.unsent) c.self.view_is in let n = (c.in_ok-next.ensures.part (ap Ok c.in-Part.is)).2 in search rules) (asks _ _ _ _ _ _ _ _ _ _ _ _ c.ask-may.ensures.asked c.ask-may.ensures.told))) (c.read_on.ensures.goes c.args.turn)
