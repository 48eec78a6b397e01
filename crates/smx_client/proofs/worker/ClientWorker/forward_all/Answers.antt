use Rattle.std.proofs.Common.{◌≡◌, ◌≤◌, ◌++◌, ◌∷◌, [], length, Some, refl, sym, ap, ◌∙◌, subst, arith}
use Rattle.std.proofs.lemmas.List.{append-nil}
use Rattle.smx_link.specs.Wiring.{Wiring, spellings}
use Rattle.smx_session.specs.declared.ask.Ask.TheVariants.{Request}
use Rattle.smx_turns.specs.Worth.{those}
use Rattle.smx_turns.proofs.Breaking.{none_bad}
use Rattle.smx_turns.proofs.Scenes.{happens}
use Rattle.smx_client.specs.declared.event.Event.TheVariants.{Forwarded}
use Rattle.smx_client.specs.Events.{landings_told, refusals_out, worth}
use Rattle.smx_client.specs.Parts.{Does}
use Rattle.smx_client.specs.Private.Lists.{list_out}
use Rattle.smx_client.specs.Serving.{Serving, held_asks}
use Rattle.smx_client.proofs.Bindings.{going}
use Rattle.smx_client.proofs.Cells as cell
use Rattle.smx_client.proofs.RequestLists.{AreAsked, asked_first, forwarded_does, list_count, list_same, offers_count}
use Rattle.smx_client.proofs.Serving.{as_below, as_closed, did_hearing, some_asks, undecided}
use Rattle.smx_client.proofs.worker.ClientWorker.forward_all.Goals as goal

pub settle_list-requires : goal.settle_list-requires
settle_list-requires g c =
    let enough = subst (λ (w : Serving g.row.L.Denot). 65536 ≤ w.wire.room) (sym c.self.view_is) c.requires.room in
    let same = ap (λ (w : Wiring g.row.L.Denot). w.room) c.gather-next.ensures.same in
    record { room = omega (arith, list_count c.self.inside.port c.submit_all-landed.new.self c.gather-next.new.requests.offers.items c.submit_all-landed.result c.submit_all-landed.ensures.served, c.gather-next.ensures.few, same, enough) }

pub invariant_of-self : goal.invariant_of-self
invariant_of-self g c =
    let s = c.self.inside in
    let read = c.gather-next.new.requests.read in
    let landed = c.submit_all-landed.result in
    let e = Forwarded read c.of-offered.result c.of.result in
    let heard = c.gather-next.ensures.heard in
    let was = c.gather-next.ensures.same in
    let is = c.settle_list.ensures.spoke.same in
    let p = c.in-Some.first in
    let held : s.held ≡ Some p = sym c.in-Some.ensures.value in
    let asks = subst (λ (w : Serving g.row.L.Denot). held_asks w ≡ Some Request) (sym c.self.view_is) c.requires.asks in
    let all : read ≡ p ∷ heard.0 = heard.1 ∙ ap (λ l. l ++ heard.0) (c.push.ensures.read ∙ ap (λ l. l ++ p ∷ []) c.new.ensures) in
    let out = list_same s.port c.submit_all-landed.new.self read c.gather-next.new.requests.offers.items landed c.gather-next.ensures.pairs c.submit_all-landed.ensures.served ∙ ap (refusals_out read) (sym c.of.ensures) in
    let few : length read ≤ 16 = omega (arith, offers_count read c.gather-next.new.requests.offers.items c.gather-next.ensures.pairs, c.gather-next.ensures.few) in
    let on = ap (λ (w : Serving g.row.L.Denot). w.wire.failed) c.self.view_is ∙ c.requires.goes_on in
    did_hearing g.L.Link.polls _ _ e heard.0 c.self.invariant (ap (λ w. w.link) is ∙ ap (λ w. w.link) was) (ap (λ w. w.start) is ∙ ap (λ w. w.start) was) refl refl c.submit_all-landed.ensures.locks c.note.ensures.events (going _ _ refl) refl
    (ap (λ w. w.heard) is ∙ heard.2) (all ∙ ap (λ o. those o ++ heard.0) (sym held))
    (forwarded_does _ _ _ _ _ _ _ _ _ _ read c.of-offered.result c.of.result _ _ c.of-offered.ensures c.of.ensures
    (c.settle_list.ensures.spoke.said ∙ ap (λ l. l ++ list_out landed) (ap (λ w. w.said) was) ∙ ap (λ l. s.wire.said ++ l) out)
    few c.gather-next.ensures.pairs (subst (λ (w : Serving g.row.L.Denot). length w.port.fronts ≡ 1) (sym c.self.view_is) c.requires.lane, c.submit_all-landed.ensures.served, c.submit_all-landed.ensures.same) c.submit_all-landed.ensures.listed
    (asked_first _ _ _ s.held p read heard.0 held all asks (subst (λ accounts. AreAsked accounts s.session.account s.session.state heard.0) c.as_slice-accounts.ensures.value heard.3)))
    (undecided _ _ _ c.self.invariant.settled (some_asks _ _ _ s.held _ asks))
    (record { stays = none_bad s.wire on; met = λ h. absurd (cc) })
    (as_closed g.L.Link.polls _ _ _ _ _ (ap (λ w. w.link) is ∙ ap (λ w. w.link) was) c.self.invariant.closed)

pub returns-clause-leads : goal.returns-clause-leads
returns-clause-leads g c =
    let s = c.self.inside in
    let read = c.gather-next.new.requests.read in
    let landed = c.submit_all-landed.result in
    let e = Forwarded read c.of-offered.result c.of.result in
    let heard = c.gather-next.ensures.heard in
    let was = c.gather-next.ensures.same in
    let is = c.settle_list.ensures.spoke.same in
    let p = c.in-Some.first in
    let held : s.held ≡ Some p = sym c.in-Some.ensures.value in
    let asks = subst (λ (w : Serving g.row.L.Denot). held_asks w ≡ Some Request) (sym c.self.view_is) c.requires.asks in
    let all : read ≡ p ∷ heard.0 = heard.1 ∙ ap (λ l. l ++ heard.0) (c.push.ensures.read ∙ ap (λ l. l ++ p ∷ []) c.new.ensures) in
    let out = list_same s.port c.submit_all-landed.new.self read c.gather-next.new.requests.offers.items landed c.gather-next.ensures.pairs c.submit_all-landed.ensures.served ∙ ap (refusals_out read) (sym c.of.ensures) in
    let few : length read ≤ 16 = omega (arith, offers_count read c.gather-next.new.requests.offers.items c.gather-next.ensures.pairs, c.gather-next.ensures.few) in
    rw (← c.self.view_is) (λ queries base before.
    c.note.ensures.leads c.args.turn _ _ (as_below _ _ c.self.view_is c.requires.below) (happens g.L.Link.offered g.L.Link.polls g.L.Link.failures Does worth _ _ _ _ queries queries _ _ _ _ _ _ _ _ e
    (forwarded_does _ _ _ _ _ _ _ _ _ _ read c.of-offered.result c.of.result _ _ c.of-offered.ensures c.of.ensures
    (c.settle_list.ensures.spoke.said ∙ ap (λ l. l ++ list_out landed) (ap (λ w. w.said) was) ∙ ap (λ l. s.wire.said ++ l) out)
    few c.gather-next.ensures.pairs (subst (λ (w : Serving g.row.L.Denot). length w.port.fronts ≡ 1) (sym c.self.view_is) c.requires.lane, c.submit_all-landed.ensures.served, c.submit_all-landed.ensures.same) c.submit_all-landed.ensures.listed
    (asked_first _ _ _ s.held p read heard.0 held all asks (subst (λ accounts. AreAsked accounts s.session.account s.session.state heard.0) c.as_slice-accounts.ensures.value heard.3)))
    c.settle_list.ensures.asked (c.settle_list.ensures.told ∙ ap (λ r. g.G.Gate.told c.gather-next.new.gate ++ landings_told r) (sym c.of.ensures)) (sym (append-nil queries)) c.note.ensures.events
    (c.settle_list.ensures.spoke.unsent ∙ ap (λ u. u ++ spellings (list_out landed)) (ap (λ w. w.unsent) was) ∙ ap (λ l. s.wire.unsent ++ spellings l) out)
    (ap (λ w. w.link) is ∙ ap (λ w. w.link) was)) base (c.gather-next.ensures.leads queries _ _ _ _ _ _ base before))

pub returns-clause-phase : goal.returns-clause-phase
returns-clause-phase g c = λ t ended was.
    let read = c.gather-next.new.requests.read in
    let list = c.gather-next.ensures.phase t ended was in
    c.note.ensures.phase t _ list.1 ∙ cell.forwards t ended list.0 (length read) read c.of-offered.result c.of.result refl
