use Rattle.std.proofs.Common.{length, refl}
use Rattle.std.proofs.lemmas.Option.{slice_get_read}
use Rattle.smx_turns.proofs.Putting.{answers, put_is}
use Rattle.smx_turns.proofs.put.put_at.Goals as goal

pub returns-clause-contents : goal.returns-clause-contents
returns-clause-contents g c = λ k.
    let senders = c.args.senders.now.items in
    let at = slice_get_read senders (length senders) c.args.index c.index_mut.result.now refl c.requires c.index_mut.ensures.value in
    let e = c.put.ensures in
    put_is senders _ c.args.index c.args.item c.put.result k
    (c.index_mut.result.now, c.put.new.self, at, refl, answers c.index_mut.result.now c.put.new.self c.args.item c.put.result e.number e.ok e.err e.served e.full e.spent)
