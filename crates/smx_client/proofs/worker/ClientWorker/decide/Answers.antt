use Rattle.std.proofs.Common.{◌≡◌, ◌≢◌, ◌++◌, List, refl, sym, ap, ◌∙◌, subst, Some, IsSome}
use Rattle.std.proofs.lemmas.List.{append-nil}
use Rattle.smx_link.specs.Wiring.{Wiring, spellings}
use Rattle.smx_session.specs.Login.{Login}
use Rattle.smx_session.specs.ClientTable.{client_decides}
use Rattle.smx_session.specs.declared.act.Act.TheVariants as act
use Rattle.smx_session.specs.declared.ask.Ask.TheVariants.{Request}
use Rattle.smx_client.specs.declared.event.Event.TheVariants.{Decided}
use Rattle.smx_client.specs.declared.event.Fate.TheVariants.{Own}
use Rattle.smx_client.specs.declared.event.Verdict.TheVariants.{Over}
use Rattle.smx_client.specs.Parts.{Suits, parts, Does}
use Rattle.smx_session.specs.ClientMoments.{Client}
use Rattle.smx_turns.specs.Scenes.{scene}
use Rattle.smx_client.specs.Turns.{Changes}
use Rattle.smx_client.specs.Serving.{Serving, held_asks}
use Rattle.smx_client.specs.Table.{with_leave}
use Rattle.smx_client.proofs.Leave as leave
use Rattle.smx_client.proofs.Doings as doing
use Rattle.smx_client.proofs.Fates.{message_keeps, stays_ended, own_out, says_session, ends_session, kept_of, not_forward, message_asks, message_decides}
use Rattle.smx_turns.proofs.Scenes.{happens}
use Rattle.smx_turns.proofs.Breaking.{stays_bad}
use Rattle.smx_client.proofs.Serving.{did, holds_on, as_below, decides, undecided}
use Rattle.smx_client.specs.Events.{act_worth, worth}
use Rattle.smx_client.proofs.Bindings.{ends_by, refused_as}
use Rattle.smx_client.proofs.worker.ClientWorker.decide.Goals as goal

pub invariant_of-self-in_default-act : goal.invariant_of-self-in_default-act
invariant_of-self-in_default-act g c =
    let s = c.self.inside in
    let e = c.say_act.ensures.same in
    did g.L.Link.polls _ _ (Decided c.of.result c.of-in_default-act.result Own) c.self.invariant (ap (λ w. w.link) e) (ap (λ w. w.start) e) refl refl refl c.note.ensures.events (ends_by _ _ _ _ c.take_in.ensures.ending (ap (λ a. (act_worth a).ends) (sym c.of-in_default-act.ensures))) (refused_as _ _ _ _ _ _ c.take_in.ensures.refused c.of.ensures c.of-in_default-act.ensures) (ap (λ w. w.heard) e)
    (decides s.held c.take.new.self c.in-Some.pdu _ c.of.ensures c.in-Some.ensures.value c.take.ensures.after)
    (doing.owned _ _ _ _ _ _ _ _ _ _ c.of.result c.of-in_default-act.result (c.say_act.ensures.said ∙ ap (λ l. s.wire.said ++ l) (own_out _ _ c.of-in_default-act.ensures))
    (subst (λ (l : List Login). ((c.of-in_default-act.result.value, c.on_pdu.new.self.state) ≡ client_decides l s.session.account s.session.state c.of.result.value) × Suits c.of-in_default-act.result.value Own) c.as_slice.ensures.value
    (says_session _ _ _ _ c.in-Some.pdu _ c.in-Ok.act _ c.of.ensures c.of-in_default-act.ensures c.in-Ok.ensures.act (ap (λ x. x.state) c.in-Ok.ensures.state) (not_forward _ _ _ s.held c.in-Some.pdu c.in-Ok.act c.in-Some.ensures.value (subst (λ (w : Serving g.row.L.Denot). held_asks w ≢ Some Request) (sym c.self.view_is) c.requires.own) (subst (λ (l : List Login). c.in-Ok.act ≡ (client_decides l s.session.account s.session.state c.in-Some.pdu).0) c.as_slice.ensures.value c.in-Ok.ensures.act)) c.in_default-act.not-MoAnswer)) (kept_of s.session _ _ _ _ (c.of-in_default-act.ensures ∙ c.in-Ok.ensures.act) c.in-Ok.ensures.state))
    (undecided _ _ _ c.self.invariant.settled (subst (λ (w : Serving g.row.L.Denot). IsSome w.held) (sym c.self.view_is) c.requires.some))
    (stays_bad refl (ap (λ (w : Wiring g.row.L.Denot). w.failed) e) (ap (λ (w : Wiring g.row.L.Denot). w.rest) e))
    (λ closed on. undecided _ _ _ c.self.invariant.settled (subst (λ (w : Serving g.row.L.Denot). IsSome w.held) (sym c.self.view_is) c.requires.some)
    (c.self.invariant.closed closed (stays_ended _ _ _ _ c.in-Some.pdu (ap (λ x. x.state) c.in-Ok.ensures.state) on)).0)

pub returns-in_default-act-clause-moves : goal.returns-in_default-act-clause-moves
returns-in_default-act-clause-moves g c = rw (← c.self.view_is) (λ n asked told queries base was.
    let s = c.self.inside in
    c.note.ensures.leads n _ _ (as_below _ _ c.self.view_is c.requires.below) (happens g.L.Link.offered g.L.Link.polls g.L.Link.failures Does worth asked asked told told queries queries _ _ _ _ _ _ _ _ (Decided c.of.result c.of-in_default-act.result Own)
    (doing.owned _ _ _ _ _ _ _ _ _ _ c.of.result c.of-in_default-act.result (c.say_act.ensures.said ∙ ap (λ l. s.wire.said ++ l) (own_out _ _ c.of-in_default-act.ensures))
    (subst (λ (l : List Login). ((c.of-in_default-act.result.value, c.on_pdu.new.self.state) ≡ client_decides l s.session.account s.session.state c.of.result.value) × Suits c.of-in_default-act.result.value Own) c.as_slice.ensures.value
    (says_session _ _ _ _ c.in-Some.pdu _ c.in-Ok.act _ c.of.ensures c.of-in_default-act.ensures c.in-Ok.ensures.act (ap (λ x. x.state) c.in-Ok.ensures.state) (not_forward _ _ _ s.held c.in-Some.pdu c.in-Ok.act c.in-Some.ensures.value (subst (λ (w : Serving g.row.L.Denot). held_asks w ≢ Some Request) (sym c.self.view_is) c.requires.own) (subst (λ (l : List Login). c.in-Ok.act ≡ (client_decides l s.session.account s.session.state c.in-Some.pdu).0) c.as_slice.ensures.value c.in-Ok.ensures.act)) c.in_default-act.not-MoAnswer)) (kept_of s.session _ _ _ _ (c.of-in_default-act.ensures ∙ c.in-Ok.ensures.act) c.in-Ok.ensures.state))
    refl (sym (append-nil told)) (sym (append-nil queries)) c.note.ensures.events (c.say_act.ensures.unsent ∙ ap (λ l. s.wire.unsent ++ spellings l) (own_out _ _ c.of-in_default-act.ensures))
    (ap (λ w. w.link) c.say_act.ensures.same)) base was)

pub returns-in_default-act-clause-phase : goal.returns-in_default-act-clause-phase
returns-in_default-act-clause-phase g c = rw (← c.self.view_is) (λ t ended was.
    let s = c.self.inside in
    c.note.ensures.phase t _ was
    ∙ leave.owned t ended _ _ _ s.held c.in-Some.pdu _ c.of.result c.of-in_default-act.result c.in-Ok.act _ c.in-Some.ensures.value refl c.of-in_default-act.ensures
    (subst (λ (l : List Login). c.in-Ok.act ≡ (client_decides l s.session.account s.session.state c.in-Some.pdu).0) c.as_slice.ensures.value c.in-Ok.ensures.act) c.verdict_of-verdict.ensures
    (subst (λ (w : Serving g.row.L.Denot). held_asks w ≢ Some Request) (sym c.self.view_is) c.requires.own) c.in_default-act.not-MoAnswer)

pub returns-in-MoAnswer-clause-phase : goal.returns-in-MoAnswer-clause-phase
returns-in-MoAnswer-clause-phase g c = rw (← c.self.view_is) (λ t ended was.
    let s = c.self.inside in
    was ∙ ap (with_leave ended) (message_asks _ _ _ s.held c.in-Some.pdu c.in-Ok.act _ c.in-Some.ensures.value
    (subst (λ (l : List Login). c.in-Ok.act ≡ (client_decides l s.session.account s.session.state c.in-Some.pdu).0) c.as_slice.ensures.value c.in-Ok.ensures.act) c.in-MoAnswer.is))

pub returns-in_default-on_pdu-clause-phase : goal.returns-in_default-on_pdu-clause-phase
returns-in_default-on_pdu-clause-phase g c = λ t ended was. leave.leave_wants _ ended _ was

pub returns-in_default-act-clause-over : goal.returns-in_default-act-clause-over
returns-in_default-act-clause-over g c = λ e.
    let over : c.verdict_of-verdict.result ≡ Over = cc in
    ends_session _ _ _ _ c.in-Some.pdu c.in-Ok.act _ c.in-Ok.ensures.act (ap (λ x. x.state) c.in-Ok.ensures.state) c.verdict_of-verdict.ensures over

pub returns-in-MoAnswer-clause-settle : goal.returns-in-MoAnswer-clause-settle
returns-in-MoAnswer-clause-settle g c = λ e.
    let state = c.on_pdu.new.self.state in
    subst (λ (l : List Login). client_decides l c.on_pdu.new.self.account state c.in-Some.pdu ≡ (act.MoAnswer c.in-Some.pdu.number, state)) c.as_slice.ensures.value
    (message_decides _ _ _ _ _ c.in-Some.pdu c.in-Ok.act _ c.in-Ok.ensures.act (ap (λ x. x.state) c.in-Ok.ensures.state) (ap (λ x. x.account) c.in-Ok.ensures.state) c.in-MoAnswer.is)

pub invariant_of-self-in-MoAnswer : goal.invariant_of-self-in-MoAnswer
invariant_of-self-in-MoAnswer g c = holds_on g.L.Link.polls _ _ c.self.invariant refl (message_keeps _ _ _ c.in-Some.pdu c.in-Ok.act _ c.in-Ok.ensures.act c.in-Ok.ensures.state c.in-MoAnswer.is) c.in-Some.ensures.value

pub returns-in-MoAnswer-clause-moves : goal.returns-in-MoAnswer-clause-moves
returns-in-MoAnswer-clause-moves g c = rw (← c.self.view_is) (λ n asked told queries base was.
    let s = c.self.inside in
    subst (λ (x : Client). Changes n base c.args.log.now (scene asked told queries s.events (parts s.desk.now s.wire.said s.port x s.window s.inbox s.senders.items s.parked) s.wire.unsent
    (g.L.Link.offered s.wire.link) (g.L.Link.polls s.wire.link) (g.L.Link.failures s.wire.link))) (sym (message_keeps _ _ _ c.in-Some.pdu c.in-Ok.act _ c.in-Ok.ensures.act c.in-Ok.ensures.state c.in-MoAnswer.is)) was)

pub verdict_of-verdict-requires : goal.verdict_of-verdict-requires
verdict_of-verdict-requires g c =
    let s = c.self.inside in
    not_forward _ _ _ s.held c.in-Some.pdu c.in-Ok.act c.in-Some.ensures.value (subst (λ (w : Serving g.row.L.Denot). held_asks w ≢ Some Request) (sym c.self.view_is) c.requires.own)
    (subst (λ (l : List Login). c.in-Ok.act ≡ (client_decides l s.session.account s.session.state c.in-Some.pdu).0) c.as_slice.ensures.value c.in-Ok.ensures.act)
