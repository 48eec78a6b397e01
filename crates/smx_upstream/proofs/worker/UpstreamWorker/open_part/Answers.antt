use Rattle.std.proofs.Common.{◌≡◌, ◌≢◌, [], List, ℕ, true, false, is_some, rules, refl, sym, ap, ◌∙◌, subst}
use Rattle.smx_upstream.specs.Phases.Source.{Earlier}
use Rattle.smx_upstream.specs.Working.{scene_of}
use Rattle.smx_turns.specs.Rounds.{last_end}
use Rattle.smx_turns.specs.declared.end.TurnEnd.{TurnEnd}
use Rattle.smx_upstream.specs.Phases.{Written, Clear, Deciding, Gone, Clogged, EndsEarly, phase_of, unless_left, when_kept, after_offer, when_gone}
use Rattle.smx_upstream.proofs.Eventful.{goes_then, goes_to}
use Rattle.smx_upstream.proofs.Cells.{early, ends_clogged, ends_left, ends_gone, part_err, waits_as, wanted}
use Rattle.smx_upstream.proofs.worker.UpstreamWorker.open_part.Goals as goal

pub returns-in_err-left-clause-goes : goal.returns-in_err-left-clause-goes
returns-in_err-left-clause-goes g c = λ turn queries. c.offer.ensures.goes turn (g.G.Gate.asked c.args.gate.now) (g.G.Gate.told c.args.gate.now) queries

pub returns-then-is_some-clause-goes : goal.returns-then-is_some-clause-goes
returns-then-is_some-clause-goes g c = λ turn queries. c.offer.ensures.goes turn (g.G.Gate.asked c.args.gate.now) (g.G.Gate.told c.args.gate.now) queries

pub returns-in_err-make_room-clause-goes : goal.returns-in_err-make_room-clause-goes
returns-in_err-make_room-clause-goes g c = λ turn queries. (goes_to turn _ _ _ _ _ (ap (λ w. scene_of g.L.Link.offered g.L.Link.polls g.L.Link.failures (g.G.Gate.asked c.args.gate.now) (g.G.Gate.told c.args.gate.now) queries w) c.make_room.ensures.same) (c.offer.ensures.goes turn (g.G.Gate.asked c.args.gate.now) (g.G.Gate.told c.args.gate.now) queries))

pub returns-then-look-clause-goes : goal.returns-then-look-clause-goes
returns-then-look-clause-goes g c = λ turn queries. (goes_then turn _ _ _ _ _ _ (goes_to turn _ _ _ _ _ (ap (λ w. scene_of g.L.Link.offered g.L.Link.polls g.L.Link.failures (g.G.Gate.asked c.args.gate.now) (g.G.Gate.told c.args.gate.now) queries w) c.make_room.ensures.same) (c.offer.ensures.goes turn (g.G.Gate.asked c.args.gate.now) (g.G.Gate.told c.args.gate.now) queries)) (c.look.ensures.goes turn (g.G.Gate.asked c.args.gate.now) (g.G.Gate.told c.args.gate.now) queries))

pub returns-in_err-renew-clause-goes : goal.returns-in_err-renew-clause-goes
returns-in_err-renew-clause-goes g c = λ turn queries. (goes_then turn _ _ _ _ _ _ (goes_then turn _ _ _ _ _ _ (goes_to turn _ _ _ _ _ (ap (λ w. scene_of g.L.Link.offered g.L.Link.polls g.L.Link.failures (g.G.Gate.asked c.args.gate.now) (g.G.Gate.told c.args.gate.now) queries w) c.make_room.ensures.same) (c.offer.ensures.goes turn (g.G.Gate.asked c.args.gate.now) (g.G.Gate.told c.args.gate.now) queries)) (c.look.ensures.goes turn (g.G.Gate.asked c.args.gate.now) (g.G.Gate.told c.args.gate.now) queries)) (c.renew.ensures.goes turn (g.G.Gate.asked c.args.gate.now) (g.G.Gate.told c.args.gate.now) queries))

pub returns-in_err-expire-clause-goes : goal.returns-in_err-expire-clause-goes
returns-in_err-expire-clause-goes g c = λ turn queries. (goes_then turn _ _ _ _ _ _ (goes_then turn _ _ _ _ _ _ (goes_then turn _ _ _ _ _ _ (goes_to turn _ _ _ _ _ (ap (λ w. scene_of g.L.Link.offered g.L.Link.polls g.L.Link.failures (g.G.Gate.asked c.args.gate.now) (g.G.Gate.told c.args.gate.now) queries w) c.make_room.ensures.same) (c.offer.ensures.goes turn (g.G.Gate.asked c.args.gate.now) (g.G.Gate.told c.args.gate.now) queries)) (c.look.ensures.goes turn (g.G.Gate.asked c.args.gate.now) (g.G.Gate.told c.args.gate.now) queries)) (c.renew.ensures.goes turn (g.G.Gate.asked c.args.gate.now) (g.G.Gate.told c.args.gate.now) queries)) (c.expire.ensures.goes turn queries))

pub returns-then-left-clause-goes : goal.returns-then-left-clause-goes
returns-then-left-clause-goes g c = λ turn queries. (goes_then turn _ _ _ _ _ _ (goes_then turn _ _ _ _ _ _ (goes_then turn _ _ _ _ _ _ (goes_to turn _ _ _ _ _ (ap (λ w. scene_of g.L.Link.offered g.L.Link.polls g.L.Link.failures (g.G.Gate.asked c.args.gate.now) (g.G.Gate.told c.args.gate.now) queries w) c.make_room.ensures.same) (c.offer.ensures.goes turn (g.G.Gate.asked c.args.gate.now) (g.G.Gate.told c.args.gate.now) queries)) (c.look.ensures.goes turn (g.G.Gate.asked c.args.gate.now) (g.G.Gate.told c.args.gate.now) queries)) (c.renew.ensures.goes turn (g.G.Gate.asked c.args.gate.now) (g.G.Gate.told c.args.gate.now) queries)) (c.expire.ensures.goes turn queries))

pub returns-in_err-make_room-2-clause-goes : goal.returns-in_err-make_room-2-clause-goes
returns-in_err-make_room-2-clause-goes g c = λ turn queries. (goes_to turn _ _ _ _ _ (ap (λ w. scene_of g.L.Link.offered g.L.Link.polls g.L.Link.failures (g.G.Gate.asked c.args.gate.now) (g.G.Gate.told c.args.gate.now) queries w) c.make_room-2.ensures.same) (goes_then turn _ _ _ _ _ _ (goes_then turn _ _ _ _ _ _ (goes_to turn _ _ _ _ _ (ap (λ w. scene_of g.L.Link.offered g.L.Link.polls g.L.Link.failures (g.G.Gate.asked c.args.gate.now) (g.G.Gate.told c.args.gate.now) queries w) c.make_room.ensures.same) (c.offer.ensures.goes turn (g.G.Gate.asked c.args.gate.now) (g.G.Gate.told c.args.gate.now) queries)) (c.look.ensures.goes turn (g.G.Gate.asked c.args.gate.now) (g.G.Gate.told c.args.gate.now) queries)) (c.renew.ensures.goes turn (g.G.Gate.asked c.args.gate.now) (g.G.Gate.told c.args.gate.now) queries)))

pub returns-in_err-seek-clause-goes : goal.returns-in_err-seek-clause-goes
returns-in_err-seek-clause-goes g c = λ turn queries. (goes_then turn _ _ _ _ _ _ (goes_to turn _ _ _ _ _ (ap (λ w. scene_of g.L.Link.offered g.L.Link.polls g.L.Link.failures (g.G.Gate.asked c.args.gate.now) (g.G.Gate.told c.args.gate.now) queries w) c.make_room-2.ensures.same) (goes_then turn _ _ _ _ _ _ (goes_then turn _ _ _ _ _ _ (goes_to turn _ _ _ _ _ (ap (λ w. scene_of g.L.Link.offered g.L.Link.polls g.L.Link.failures (g.G.Gate.asked c.args.gate.now) (g.G.Gate.told c.args.gate.now) queries w) c.make_room.ensures.same) (c.offer.ensures.goes turn (g.G.Gate.asked c.args.gate.now) (g.G.Gate.told c.args.gate.now) queries)) (c.look.ensures.goes turn (g.G.Gate.asked c.args.gate.now) (g.G.Gate.told c.args.gate.now) queries)) (c.renew.ensures.goes turn (g.G.Gate.asked c.args.gate.now) (g.G.Gate.told c.args.gate.now) queries))) (c.seek.ensures.goes turn (g.G.Gate.asked c.args.gate.now) (g.G.Gate.told c.args.gate.now) queries))

pub returns-clause-goes : goal.returns-clause-goes
returns-clause-goes g c = λ turn queries. (goes_then turn _ _ _ _ _ _ (goes_to turn _ _ _ _ _ (ap (λ w. scene_of g.L.Link.offered g.L.Link.polls g.L.Link.failures (g.G.Gate.asked c.args.gate.now) (g.G.Gate.told c.args.gate.now) queries w) c.make_room-2.ensures.same) (goes_then turn _ _ _ _ _ _ (goes_then turn _ _ _ _ _ _ (goes_to turn _ _ _ _ _ (ap (λ w. scene_of g.L.Link.offered g.L.Link.polls g.L.Link.failures (g.G.Gate.asked c.args.gate.now) (g.G.Gate.told c.args.gate.now) queries w) c.make_room.ensures.same) (c.offer.ensures.goes turn (g.G.Gate.asked c.args.gate.now) (g.G.Gate.told c.args.gate.now) queries)) (c.look.ensures.goes turn (g.G.Gate.asked c.args.gate.now) (g.G.Gate.told c.args.gate.now) queries)) (c.renew.ensures.goes turn (g.G.Gate.asked c.args.gate.now) (g.G.Gate.told c.args.gate.now) queries))) (c.seek.ensures.goes turn (g.G.Gate.asked c.args.gate.now) (g.G.Gate.told c.args.gate.now) queries))

pub returns-in_err-left-clause-phase : goal.returns-in_err-left-clause-phase
returns-in_err-left-clause-phase g c = λ t same was.
    part_err (Deciding (Earlier false)) _ _ _ c.from_residual.ensures.0 c.from_residual.ensures.1 (c.in_err-left.ensures.opening t (ap (λ x. x.waited) same) was)

pub returns-then-is_some-clause-phase : goal.returns-then-is_some-clause-phase
returns-then-is_some-clause-phase g c = λ t same was.
    subst (λ (e : TurnEnd). EndsEarly e (phase_of t c.offer.new.log)) (sym c.last_end.ensures) (early (last_end c.in_ok-left.left) (phase_of t c.offer.new.log) (unless_left c.in_ok-left.left) ((c.in_ok-left.ensures.opening t (ap (λ x. x.waited) same) was) ∙ ap (λ e. after_offer e c.in_ok-left.left) (ap (λ x. x.ending) same ∙ sym (ap (λ w. is_some w.ending) c.self.view_is ∙ ap (λ w. is_some w.ending) c.offer.ensures.same) ∙ (let some : is_some c.self.inside.ending ≡ true = (let h = c.is_some.ensures in let k = c.if-is_some.true in search rules) in some))) (ends_left c.in_ok-left.left))

pub returns-in_err-make_room-clause-phase : goal.returns-in_err-make_room-clause-phase
returns-in_err-make_room-clause-phase g c = λ t same was.
    part_err (Deciding (Earlier false)) _ _ _ c.from_residual-in_err-make_room.ensures.0 c.from_residual-in_err-make_room.ensures.1 (wanted _ _ _ (Written c.in_ok-left.left) c.in_err-make_room.ensures.err refl ((c.in_ok-left.ensures.opening t (ap (λ x. x.waited) same) was) ∙ ap (λ e. after_offer e c.in_ok-left.left) (ap (λ x. x.ending) same ∙ sym (ap (λ w. is_some w.ending) c.self.view_is ∙ ap (λ w. is_some w.ending) c.offer.ensures.same) ∙ (let none : is_some c.self.inside.ending ≡ false = (let h = c.is_some.ensures in let k = c.if-is_some.false in search rules) in none))) tt)

pub returns-then-look-clause-phase : goal.returns-then-look-clause-phase
returns-then-look-clause-phase g c = λ t same was.
    early _ _ Gone (c.look.ensures.phase t (ap (λ x. x.now) same) ((c.in_ok-left.ensures.opening t (ap (λ x. x.waited) same) was) ∙ ap (λ e. after_offer e c.in_ok-left.left) (ap (λ x. x.ending) same ∙ sym (ap (λ w. is_some w.ending) c.self.view_is ∙ ap (λ w. is_some w.ending) c.offer.ensures.same) ∙ (let none : is_some c.self.inside.ending ≡ false = (let h = c.is_some.ensures in let k = c.if-is_some.false in search rules) in none))) ∙ ap (when_gone c.in_ok-left.left) c.if-look.true) ends_gone

pub returns-in_err-renew-clause-phase : goal.returns-in_err-renew-clause-phase
returns-in_err-renew-clause-phase g c = λ t same was.
    part_err (Deciding (Earlier false)) _ _ _ c.from_residual-in_err-renew.ensures.0 c.from_residual-in_err-renew.ensures.1 (c.in_err-renew.ensures.phase t c.in_ok-left.left (c.look.ensures.phase t (ap (λ x. x.now) same) ((c.in_ok-left.ensures.opening t (ap (λ x. x.waited) same) was) ∙ ap (λ e. after_offer e c.in_ok-left.left) (ap (λ x. x.ending) same ∙ sym (ap (λ w. is_some w.ending) c.self.view_is ∙ ap (λ w. is_some w.ending) c.offer.ensures.same) ∙ (let none : is_some c.self.inside.ending ≡ false = (let h = c.is_some.ensures in let k = c.if-is_some.false in search rules) in none))) ∙ ap (when_gone c.in_ok-left.left) c.if-look.false))

pub returns-in_err-expire-clause-phase : goal.returns-in_err-expire-clause-phase
returns-in_err-expire-clause-phase g c = λ t same was.
    part_err (Deciding (Earlier false)) _ _ _ c.from_residual-in_err-expire.ensures.0 c.from_residual-in_err-expire.ensures.1 (c.in_err-expire.ensures.phase t Clogged (c.in_ok-renew.ensures.phase t c.in_ok-left.left (c.look.ensures.phase t (ap (λ x. x.now) same) ((c.in_ok-left.ensures.opening t (ap (λ x. x.waited) same) was) ∙ ap (λ e. after_offer e c.in_ok-left.left) (ap (λ x. x.ending) same ∙ sym (ap (λ w. is_some w.ending) c.self.view_is ∙ ap (λ w. is_some w.ending) c.offer.ensures.same) ∙ (let none : is_some c.self.inside.ending ≡ false = (let h = c.is_some.ensures in let k = c.if-is_some.false in search rules) in none))) ∙ ap (when_gone c.in_ok-left.left) c.if-look.false) ∙ ap when_kept c.if-left.true))

pub returns-then-left-clause-phase : goal.returns-then-left-clause-phase
returns-then-left-clause-phase g c = λ t same was.
    early _ _ Clogged (c.in_ok-expire.ensures.phase t Clogged (c.in_ok-renew.ensures.phase t c.in_ok-left.left (c.look.ensures.phase t (ap (λ x. x.now) same) ((c.in_ok-left.ensures.opening t (ap (λ x. x.waited) same) was) ∙ ap (λ e. after_offer e c.in_ok-left.left) (ap (λ x. x.ending) same ∙ sym (ap (λ w. is_some w.ending) c.self.view_is ∙ ap (λ w. is_some w.ending) c.offer.ensures.same) ∙ (let none : is_some c.self.inside.ending ≡ false = (let h = c.is_some.ensures in let k = c.if-is_some.false in search rules) in none))) ∙ ap (when_gone c.in_ok-left.left) c.if-look.false) ∙ ap when_kept c.if-left.true)) ends_clogged

pub returns-then-left-clause-waits : goal.returns-then-left-clause-waits
returns-then-left-clause-waits g c = λ t same was.
    waits_as _ Clogged _ _ (c.in_ok-expire.ensures.phase t Clogged (c.in_ok-renew.ensures.phase t c.in_ok-left.left (c.look.ensures.phase t (ap (λ x. x.now) same) ((c.in_ok-left.ensures.opening t (ap (λ x. x.waited) same) was) ∙ ap (λ e. after_offer e c.in_ok-left.left) (ap (λ x. x.ending) same ∙ sym (ap (λ w. is_some w.ending) c.self.view_is ∙ ap (λ w. is_some w.ending) c.offer.ensures.same) ∙ (let none : is_some c.self.inside.ending ≡ false = (let h = c.is_some.ensures in let k = c.if-is_some.false in search rules) in none))) ∙ ap (when_gone c.in_ok-left.left) c.if-look.false) ∙ ap when_kept c.if-left.true))
    (subst (λ (l : List ℕ). l ≢ []) (sym (ap (λ w. w.wire.unsent) c.expire.ensures.same ∙ ap (λ w. w.wire.unsent) c.renew.ensures.same))
    (c.look.ensures.left (subst (λ (l : List ℕ). l ≢ []) (sym (ap (λ w. w.wire.unsent) c.make_room.ensures.same)) (c.in_ok-left.ensures.left.0 c.if-left.true))))

pub returns-in_err-make_room-2-clause-phase : goal.returns-in_err-make_room-2-clause-phase
returns-in_err-make_room-2-clause-phase g c = λ t same was.
    part_err (Deciding (Earlier false)) _ _ _ c.from_residual-in_err-make_room-2.ensures.0 c.from_residual-in_err-make_room-2.ensures.1 (wanted _ _ _ Clear c.in_err-make_room-2.ensures.err refl (c.in_ok-renew.ensures.phase t c.in_ok-left.left (c.look.ensures.phase t (ap (λ x. x.now) same) ((c.in_ok-left.ensures.opening t (ap (λ x. x.waited) same) was) ∙ ap (λ e. after_offer e c.in_ok-left.left) (ap (λ x. x.ending) same ∙ sym (ap (λ w. is_some w.ending) c.self.view_is ∙ ap (λ w. is_some w.ending) c.offer.ensures.same) ∙ (let none : is_some c.self.inside.ending ≡ false = (let h = c.is_some.ensures in let k = c.if-is_some.false in search rules) in none))) ∙ ap (when_gone c.in_ok-left.left) c.if-look.false) ∙ ap when_kept c.if-left.false) tt)

pub returns-in_err-seek-clause-phase : goal.returns-in_err-seek-clause-phase
returns-in_err-seek-clause-phase g c = λ t same was.
    part_err (Deciding (Earlier false)) _ _ _ c.from_residual-in_err-seek.ensures.0 c.from_residual-in_err-seek.ensures.1 (c.in_err-seek.ensures.phase t (c.in_ok-renew.ensures.phase t c.in_ok-left.left (c.look.ensures.phase t (ap (λ x. x.now) same) ((c.in_ok-left.ensures.opening t (ap (λ x. x.waited) same) was) ∙ ap (λ e. after_offer e c.in_ok-left.left) (ap (λ x. x.ending) same ∙ sym (ap (λ w. is_some w.ending) c.self.view_is ∙ ap (λ w. is_some w.ending) c.offer.ensures.same) ∙ (let none : is_some c.self.inside.ending ≡ false = (let h = c.is_some.ensures in let k = c.if-is_some.false in search rules) in none))) ∙ ap (when_gone c.in_ok-left.left) c.if-look.false) ∙ ap when_kept c.if-left.false))

pub returns-clause-waits : goal.returns-clause-waits
returns-clause-waits g c = λ t same was. waits_as _ (Deciding (Earlier false)) _ _ (c.in_ok-seek.ensures.phase t (c.in_ok-renew.ensures.phase t c.in_ok-left.left (c.look.ensures.phase t (ap (λ x. x.now) same) ((c.in_ok-left.ensures.opening t (ap (λ x. x.waited) same) was) ∙ ap (λ e. after_offer e c.in_ok-left.left) (ap (λ x. x.ending) same ∙ sym (ap (λ w. is_some w.ending) c.self.view_is ∙ ap (λ w. is_some w.ending) c.offer.ensures.same) ∙ (let none : is_some c.self.inside.ending ≡ false = (let h = c.is_some.ensures in let k = c.if-is_some.false in search rules) in none))) ∙ ap (when_gone c.in_ok-left.left) c.if-look.false) ∙ ap when_kept c.if-left.false)) tt

pub returns-clause-phase : goal.returns-clause-phase
returns-clause-phase g c = λ t same was. c.in_ok-seek.ensures.phase t (c.in_ok-renew.ensures.phase t c.in_ok-left.left (c.look.ensures.phase t (ap (λ x. x.now) same) ((c.in_ok-left.ensures.opening t (ap (λ x. x.waited) same) was) ∙ ap (λ e. after_offer e c.in_ok-left.left) (ap (λ x. x.ending) same ∙ sym (ap (λ w. is_some w.ending) c.self.view_is ∙ ap (λ w. is_some w.ending) c.offer.ensures.same) ∙ (let none : is_some c.self.inside.ending ≡ false = (let h = c.is_some.ensures in let k = c.if-is_some.false in search rules) in none))) ∙ ap (when_gone c.in_ok-left.left) c.if-look.false) ∙ ap when_kept c.if-left.false)
