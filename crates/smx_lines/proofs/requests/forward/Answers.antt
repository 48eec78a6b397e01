use Rattle.std.proofs.Common.{◌≡◌, ◌+◌, ◌∙◌, Some, None, refl, ap, subst, rules}
use Rattle.std.proofs.lemmas.Result.{IfOk-weaker}
use Rattle.smx_lines.specs.declared.state.LinkedClient.{LinkedClient}
use Rattle.smx_lines.specs.Relay.{client_of, request_of}
use Rattle.smx_lines.proofs.Offers.{request_named}
use Rattle.smx_lines.proofs.Offering.{dropped, forwarded}
use Rattle.smx_lines.proofs.KnownClients.{known_at}
use Rattle.smx_lines.proofs.Links.{client_is}
use Rattle.smx_lines.proofs.requests.forward.Goals as goal

pub unreachable-requires : goal.unreachable-requires
unreachable-requires c = absurd (cc (known_at c.args.state.now.clients.list.items c.args.client c.requires.known, c.in_default.ensures.none))

pub offer-requires : goal.offer-requires
offer-requires c =
    let is : request_of c.args.client c.in-Some-checked_add.ordinal c.args.pdu ≡ Some c.in-Some-request_of.request = search rules in
    let named = request_named c.args.client c.in-Some-checked_add.ordinal c.args.pdu c.in-Some-request_of.request is in
    let next : c.in-Some-checked_add.ordinal ≡ c.in-Some.known.now.last + 1 = search rules in
    record { reached = c.requires.reached; known = (c.in-Some.known.now, ap (λ d. client_of c.args.state.now.clients.list.items d) named.0 ∙ c.in-Some.ensures.some, refl); next = named.1 ∙ next }

pub returns-in-None : goal.returns-in-None
returns-in-None c = λ s a.
    let k = c.in-Some.known.now in
    let is : request_of c.args.client c.in-Some-checked_add.ordinal c.args.pdu ≡ None = search rules in
    let next : c.in-Some-checked_add.ordinal ≡ k.last + 1 = search rules in
    let is_next : request_of c.args.client (k.last + 1) c.args.pdu ≡ None = subst (λ n. request_of c.args.client n c.args.pdu ≡ None) next is in
    let last = ap (λ (x : LinkedClient). x.last) (client_is c.args.state.now s c.args.client k a c.in-Some.ensures.some) in
    dropped s c.args.client k.last c.args.pdu c.args.state.now _ last is_next a c.new.ensures.items

pub returns-in-Some-request_of : goal.returns-in-Some-request_of
returns-in-Some-request_of c = λ s a.
    let k = c.in-Some.known.now in
    let is : request_of c.args.client c.in-Some-checked_add.ordinal c.args.pdu ≡ Some c.in-Some-request_of.request = search rules in
    let next : c.in-Some-checked_add.ordinal ≡ k.last + 1 = search rules in
    let is_next : request_of c.args.client (k.last + 1) c.args.pdu ≡ Some c.in-Some-request_of.request = subst (λ n. request_of c.args.client n c.args.pdu ≡ Some c.in-Some-request_of.request) next is in
    let last = ap (λ (x : LinkedClient). x.last) (client_is c.args.state.now s c.args.client k a c.in-Some.ensures.some) in
    IfOk-weaker c.offer.result _ _ (λ text t. forwarded s c.args.client k.last c.args.pdu c.in-Some-request_of.request c.offer.new.state text.items last is_next t) (c.offer.ensures s a)
