-- When a turn reads, and what the reads answered.
use Rattle.std.proofs.Common.{◌≡◌, ◌≢◌, ℕ, ◌+◌, Bool, true, false, List, [], ◌∷◌, length, refl, ap, ◌∙◌, arith, sym, subst, Option, None, Result}
use Rattle.std.specs.Prelude.{◌==◌, if◌then◌else◌}
use Rattle.std.proofs.lemmas.List.{length-append}
use Rattle.smx_pdu.specs.declared.pdu.Pdu.{Pdu}
use Rattle.smx_pdu.proofs.Spelling.{Spells-length}
use Rattle.smx_frame.specs.Stream.{HasNone}
use Rattle.smx_link.specs.declared.link.Polled.{Polled}
use Rattle.smx_link.specs.declared.link.LinkFault.{LinkFault}
use Rattle.smx_turns.specs.declared.end.Fault.{Fault}
use Rattle.smx_turns.specs.declared.end.TurnEnd.{TurnEnd}
use Rattle.smx_turns.specs.declared.step.Step.TheVariants.{Asked, Read, Marked, Did}
use Rattle.smx_turns.specs.Steps.{polls, phase_from}
use Rattle.smx_client.specs.Table.{Before, Phase, Opening, AtLane, Left, MayCollect, Clear, Draining, MayRead, Hearing, Ageing, Looking, Gone, Deciding, MayBind, MayRefuse, Admitted, Listed, Barring, MaySubmit, Entering, Unentered, Settled, Parked, Stopped, Clogged, Closing, Ending, Over, Failed, Exhausted, Wrong, step_of, phase_of, go, from_opening, from_lane, from_boxing, from_collecting, from_draining, from_clear, from_may_read, from_hearing, from_ageing, from_looking, from_deciding, from_may_bind, from_may_refuse, from_admitted, from_listed, from_barring, from_may_submit, from_entering, from_closing, IsTurn}
use Rattle.smx_client.proofs.Filters.{stays_wrong, is_right}

boxes : (now : ℕ) (b c : Bool) (answer : Result Polled LinkFault) → (if b then from_boxing now c (Read answer) else Wrong) ≡ Wrong
unfolding from_boxing
boxes now true true answer = refl
boxes now true false answer = refl
boxes now false c answer = refl

reads_none : (t : Before) (p : Phase) (answer : Result Polled LinkFault) → t.settled ≡ false → go t p (Read answer) ≡ Wrong
unfolding go from_opening from_lane from_collecting from_draining from_clear from_may_read from_hearing from_ageing from_looking from_deciding from_may_bind from_may_refuse from_admitted from_listed from_barring from_may_submit from_entering from_closing
reads_none t Opening answer some_left = refl
reads_none t (AtLane n) answer some_left = boxes t.now (n == t.lanes) t.parked answer
reads_none t Left answer some_left = refl
reads_none t (MayCollect n) answer some_left = refl
reads_none t Clear answer some_left = refl
reads_none t Draining answer some_left = refl
reads_none t MayRead answer some_left = ap (λ b. from_may_read t b (Read answer)) some_left
reads_none t Hearing answer some_left = refl
reads_none t Ageing answer some_left = refl
reads_none t Looking answer some_left = refl
reads_none t (Deciding ended) answer some_left = refl
reads_none t (MayBind ended i) answer some_left = refl
reads_none t (MayRefuse ended) answer some_left = refl
reads_none t (Admitted ended n) answer some_left = refl
reads_none t (Listed ended n) answer some_left = refl
reads_none t (Barring ended l) answer some_left = refl
reads_none t (MaySubmit ended) answer some_left = refl
reads_none t (Entering ended account) answer some_left = refl
reads_none t Unentered answer some_left = refl
reads_none t Settled answer some_left = refl
reads_none t Parked answer some_left = refl
reads_none t Stopped answer some_left = refl
reads_none t Clogged answer some_left = refl
reads_none t Closing answer some_left = refl
reads_none t Ending answer some_left = refl
reads_none t Over answer some_left = refl
reads_none t Gone answer some_left = refl
reads_none t Failed answer some_left = refl
reads_none t Exhausted answer some_left = refl
reads_none t Wrong answer some_left = refl

polls_none : (t : Before) (p : Phase) (ss : List step_of) → t.settled ≡ false → phase_from (go t) p ss ≢ Wrong → polls ss ≡ []
unfolding polls
polls_none t p [] some_left right = refl
polls_none t p (Asked point x ∷ ss) some_left right = polls_none t (go t p (Asked point x)) ss some_left right
polls_none t p (Read r ∷ ss) some_left right = absurd (right (ap (λ q. phase_from (go t) q ss) (reads_none t p r some_left) ∙ stays_wrong t ss))
polls_none t p (Marked m ∷ ss) some_left right = polls_none t (go t p (Marked m)) ss some_left right
polls_none t p (Did e ∷ ss) some_left right = polls_none t (go t p (Did e)) ss some_left right

read_at : (t : Before) (b : Bool) (ss : List step_of) → t.settled ≡ b → phase_of t ss ≢ Wrong → polls ss ≢ [] → t.settled ≡ true
unfolding phase_of
read_at t true ss is right some = is
read_at t false ss is right some = absurd (some (polls_none t Opening ss is right))

-- a turn that read began where every whole PDU was decided
pub reads_settled : (t : Before) (r : Result TurnEnd Fault) (quiet : Bool) (ss : List step_of) → IsTurn r quiet (phase_of t ss) → polls ss ≢ [] → t.settled ≡ true
reads_settled t r quiet ss ends some = read_at t t.settled ss refl (is_right r quiet (phase_of t ss) ends) some

-- no octets are no PDU
pub none_begins : (r : List ℕ) → r ≡ [] → HasNone 65536 r
none_begins r none p octets more frame parts =
    let size = Spells-length p octets frame.spells in
    let empty : length r ≡ 0 = ap length none in
    let total : length r ≡ length octets + length more = ap length parts ∙ length-append octets more in
    omega (arith, size, empty, total)

-- of the same rest
pub still : (settled : Bool) (held : Option Pdu) (r r' : List ℕ) → r' ≡ r → (settled ≡ true → (held ≡ None) × HasNone 65536 r) → settled ≡ true → (held ≡ None) × HasNone 65536 r'
still settled held r r' same was all = ((was all).0, subst (λ x. HasNone 65536 x) (sym same) (was all).1)
