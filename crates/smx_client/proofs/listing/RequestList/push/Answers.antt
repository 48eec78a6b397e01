use Rattle.std.proofs.Common.{◌++◌, ◌∷◌, [], sym, subst}
use Rattle.smx_client.specs.Parts.{AreOffersOf}
use Rattle.smx_client.proofs.RequestLists.{offers_push}
use Rattle.smx_client.proofs.listing.RequestList.push.Goals as goal

pub returns-clause-pairs : goal.returns-clause-pairs
returns-clause-pairs c =
    let was = c.args.self.now in
    subst (λ ps. AreOffersOf ps c.push_reserved.new.self.items) (sym c.and-self.ensures)
    (subst (λ os. AreOffersOf (was.read ++ c.args.pdu ∷ []) os) (sym c.push_reserved.ensures.items) (offers_push was.read was.offers.items c.args.pdu c.offer_of.result c.requires.pairs c.offer_of.ensures))
