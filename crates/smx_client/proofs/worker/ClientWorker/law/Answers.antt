use Rattle.std.proofs.Common.{◌++◌, ap, ◌∙◌, arith}
use Rattle.smx_link.specs.Wiring.{spellings}
use Rattle.smx_client.specs.Replies.{put_in, parked_on}
use Rattle.smx_client.specs.Events.{answers}
use Rattle.smx_client.proofs.Laws.{chain_says, chain_answers, chain_lists, put_first}
use Rattle.smx_client.proofs.worker.ClientWorker.law.Goals as goal

pub returns-clause-given : goal.returns-clause-given
returns-clause-given g c = rw (← c.self.view_is) (
    let s = c.self.inside in
    c.law.ensures.hears ∙ ap (λ l. g.L.Link.given s.wire.start ++ (spellings l ++ s.wire.rest)) c.self.invariant.heard)

pub returns-clause-taken : goal.returns-clause-taken
returns-clause-taken g c = rw (← c.self.view_is) (
    let s = c.self.inside in
    c.law.ensures.says ∙ ap (λ l. g.L.Link.taken s.wire.start ++ spellings l) (chain_says _ _ _ c.self.invariant.runs))

pub returns-clause-accepts : goal.returns-clause-accepts
returns-clause-accepts g c = rw (← c.self.view_is) (chain_lists _ _ _ c.self.invariant.runs)

pub returns-clause-answers : goal.returns-clause-answers
returns-clause-answers g c = rw (← c.self.view_is) (λ k within.
    let s = c.self.inside in
    put_first (put_in s.origin.senders.value.items k) (put_in s.senders.items k ++ parked_on k s.parked) (answers k s.events) (chain_answers k _ _ _ within c.self.invariant.runs))

pub returns-clause-apart : goal.returns-clause-apart
returns-clause-apart g c = rw (← c.self.view_is) (λ k d within same. let low = c.law-2.ensures.numbers k d within in omega (arith, low, same))
