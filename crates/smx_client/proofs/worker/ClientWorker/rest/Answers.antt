use Rattle.std.proofs.Common.{[], refl, sym, ap, ◌∙◌}
use Rattle.std.specs.Prelude.{if◌then◌else◌}
use Rattle.std.proofs.lemmas.List.{append-nil}
use Rattle.smx_turns.proofs.Breaking.{stays_bad}
use Rattle.smx_client.specs.declared.event.Event.TheVariants.{LinkEnded}
use Rattle.smx_client.specs.Table.{Closing, Settled, Wrong}
use Rattle.smx_client.proofs.Cells as cell
use Rattle.smx_client.proofs.Doings as doing
use Rattle.smx_turns.proofs.Scenes.{happens}
use Rattle.smx_client.proofs.Serving.{did, as_below}
use Rattle.smx_client.specs.Events.{worth}
use Rattle.smx_client.specs.Parts.{Does}
use Rattle.smx_client.proofs.worker.ClientWorker.rest.Goals as goal

pub invariant_of-self : goal.invariant_of-self
invariant_of-self g c =
    did g.L.Link.polls _ _ LinkEnded c.self.invariant refl refl refl refl refl c.note.ensures.events c.or_end-self-inside.ensures refl refl refl
    (doing.ebbed _ _ [] _ _ _ _ _ _)
    c.self.invariant.settled (stays_bad refl refl refl)
    c.self.invariant.closed

pub returns-clause-moves : goal.returns-clause-moves
returns-clause-moves g c = rw (← c.self.view_is) (λ n asked told queries base was.
    let s = c.self.inside in
    c.note.ensures.leads n _ _ (as_below _ _ c.self.view_is c.requires.below) (happens g.L.Link.offered g.L.Link.polls g.L.Link.failures Does worth asked asked told told queries queries _ _ _ _ _ _ _ _ LinkEnded
    (doing.ebbed _ _ [] _ _ _ _ _ _)
    refl (sym (append-nil told)) (sym (append-nil queries)) c.note.ensures.events (sym (append-nil s.wire.unsent))
    refl) base was)

pub returns-clause-phase : goal.returns-clause-phase
returns-clause-phase g c = λ t was. c.note.ensures.phase t _ was ∙ cell.ebbed t c.args.ended ∙ ap (λ b. if b then Closing else Wrong) c.if-not-ended.false

pub returns-then-not-ended-clause-moves : goal.returns-then-not-ended-clause-moves
returns-then-not-ended-clause-moves g c = λ n asked told queries base was.
    c.mark.ensures.leads n _ _ c.requires.below refl base was

pub returns-then-not-ended-clause-phase : goal.returns-then-not-ended-clause-phase
returns-then-not-ended-clause-phase g c = λ t was. c.mark.ensures.phase t _ was ∙ cell.parted t c.args.ended ∙ ap (λ b. if b then Wrong else Settled) c.if-not-ended.true
