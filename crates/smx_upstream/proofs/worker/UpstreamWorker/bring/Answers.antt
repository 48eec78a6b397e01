use Rattle.std.proofs.Common.{◌≡◌, ◌≤◌, ◌++◌, length, Some, false, true, refl, sym, ap, ◌∙◌, subst}
use Rattle.std.proofs.lemmas.List.{append-nil}
use Rattle.std.specs.Result.{is_err}
use Rattle.smx_session.specs.Moments.{is_bound}
use Rattle.smx_shared.specs.Batches.{BringsAll}
use Rattle.smx_turns.specs.declared.step.Step.TheVariants.{Did}
use Rattle.smx_turns.specs.Worth.{those}
use Rattle.smx_turns.proofs.Breaking.{none_bad}
use Rattle.smx_turns.proofs.Scenes.{happens}
use Rattle.smx_upstream.specs.declared.event.Event.TheVariants.{Brought}
use Rattle.smx_upstream.specs.Events.{worth, brought_tells}
use Rattle.smx_upstream.specs.May.{MayDecide}
use Rattle.smx_upstream.specs.Phases.{Deciding, going_on, unless_spent}
use Rattle.smx_upstream.specs.Standing.{Does}
use Rattle.smx_upstream.proofs.AnswerLists.{listed, waits_so, brought_does}
use Rattle.smx_upstream.proofs.Cells.{stepped, cell_brought, at_its_moment}
use Rattle.smx_upstream.proofs.Eventful.{did_hearing, goes_by, goes_on}
use Rattle.smx_upstream.proofs.worker.UpstreamWorker.bring.Goals as goal

pub invariant_of-self : goal.invariant_of-self
invariant_of-self g c =
    let e = Brought c.of-read.result c.args.now c.lane-lane.result c.of.result in
    let heard = c.gather.ensures.heard in
    let p = c.in-Some.first in
    let held : c.self.inside.held ≡ Some p = sym c.take.ensures.value ∙ c.in-Some.is in
    let all = ap (λ v. v.items) c.of-read.ensures ∙ listed c.args.empty.0.items c.push_reserved.new.self.items c.gather.new.responses.items heard.0 p c.requires.empty.0 c.push_reserved.ensures.items heard.1 in
    let on = ap (λ w. w.ending) c.self.view_is ∙ c.requires.goes_on in
    let few = subst (λ v. length v.items ≤ 16) (sym c.of-read.ensures) c.gather.ensures.few in
    let answer = waits_so c.self.inside.held c.requires.answer.0 p (ap (λ w. w.held) c.self.view_is ∙ c.requires.answer.1) c.requires.answer.2 held in
    let brings = subst (λ v. BringsAll c.self.inside.tap.front c.answer_all-brought.new.self.front v.items c.of.result.value) (sym c.of-read.ensures)
    (subst (λ r. BringsAll c.self.inside.tap.front c.answer_all-brought.new.self.front c.gather.new.responses.items r) (sym c.of.ensures) c.answer_all-brought.ensures.served) in
    did_hearing _ _ e heard.0 c.self.invariant c.jot.ensures.events heard.2 (all ∙ ap (λ o. those o ++ heard.0) (sym held)) c.take.ensures.after
    (ap (λ w. w.said) c.gather.ensures.same ∙ sym (append-nil _)) refl
    (brought_does _ _ c.of-read.result c.args.now c.lane-lane.result c.of.result p heard.0 all (ap (λ w. is_bound w.stand.session.state) c.self.view_is ∙ c.requires.bound) (answer, heard.3) c.on_pdu.ensures.session brings c.lane-lane.ensures c.answer_all-brought.ensures.same.0 refl few)
    (λ h. ap (λ w. w.failed) c.gather.ensures.same ∙ c.self.invariant.goes_on h) (goes_on c.self.inside.ending)
    (record { stays = none_bad c.self.inside.wire (c.self.invariant.goes_on on); met = λ h. let no : false ≡ true = h in cc }) refl c.answer_all-brought.ensures.same

pub returns-clause-phase : goal.returns-clause-phase
returns-clause-phase g c = λ t source same was.
    let e = Brought c.of-read.result c.args.now c.lane-lane.result c.of.result in
    c.unless_spent.ensures.leads (Deciding (going_on source)) _ (stepped t _ _ (Did e) (Deciding source) _ c.jot.ensures.log (cell_brought t source _ _ _ _ ∙ at_its_moment t _ _ same) was
    ∙ ap (λ b. unless_spent b (Deciding (going_on source))) (ap is_err c.of.ensures ∙ sym c.tell_all-spent.ensures.spent))

pub returns-clause-goes : goal.returns-clause-goes
returns-clause-goes g c =
    let e = Brought c.of-read.result c.args.now c.lane-lane.result c.of.result in
    let heard = c.gather.ensures.heard in
    let p = c.in-Some.first in
    let held : c.self.inside.held ≡ Some p = sym c.take.ensures.value ∙ c.in-Some.is in
    let all = ap (λ v. v.items) c.of-read.ensures ∙ listed c.args.empty.0.items c.push_reserved.new.self.items c.gather.new.responses.items heard.0 p c.requires.empty.0 c.push_reserved.ensures.items heard.1 in
    let few = subst (λ v. length v.items ≤ 16) (sym c.of-read.ensures) c.gather.ensures.few in
    let answer = waits_so c.self.inside.held c.requires.answer.0 p (ap (λ w. w.held) c.self.view_is ∙ c.requires.answer.1) c.requires.answer.2 held in
    let brings = subst (λ v. BringsAll c.self.inside.tap.front c.answer_all-brought.new.self.front v.items c.of.result.value) (sym c.of-read.ensures)
    (subst (λ r. BringsAll c.self.inside.tap.front c.answer_all-brought.new.self.front c.gather.new.responses.items r) (sym c.of.ensures) c.answer_all-brought.ensures.served) in
    let does = brought_does _ _ c.of-read.result c.args.now c.lane-lane.result c.of.result p heard.0 all (ap (λ w. is_bound w.stand.session.state) c.self.view_is ∙ c.requires.bound) (answer, heard.3) c.on_pdu.ensures.session brings c.lane-lane.ensures c.answer_all-brought.ensures.same.0 refl few in
    rw (← c.self.view_is)
    (λ turn queries. goes_by turn _ _ _ _ (Did e) c.jot.ensures.log (subst (λ w. MayDecide (g.L.Link.polls w.wire.link) w.wire.unsent) (sym c.self.view_is) c.requires.may)
    (happens g.L.Link.offered g.L.Link.polls g.L.Link.failures Does worth _ _ _ _ _ _ _ _ _ _ _ _ _ _ e does c.tell_all-spent.ensures.asked
    (c.tell_all-spent.ensures.told ∙ ap (λ r. g.G.Gate.told c.args.gate.now ++ brought_tells c.lane-lane.result r) (sym c.of.ensures)) (sym (append-nil queries)) c.jot.ensures.events
    (ap (λ w. w.unsent) c.gather.ensures.same ∙ sym (append-nil _)) (ap (λ w. w.link) c.gather.ensures.same)))
