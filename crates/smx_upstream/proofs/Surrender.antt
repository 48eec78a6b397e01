-- What giving up all that a lane holds adds to its tap's own notes, and to what it has seen.
use Rattle.std.proofs.Common.{◌≡◌, ℕ, List, [], ◌∷◌, ◌++◌, length, map, sym, ap, ◌∙◌, subst, append_assoc, Option, Some, None, Ok, Err}
use mathlib.Core.List.{IsPrefix}
use Rattle.std.proofs.lemmas.List.{append-nil}
use Rattle.smx_lock.specs.Fronts.{Front}
use Rattle.smx_history.specs.declared.limits.Limits.{Limits}
use Rattle.smx_history.specs.declared.note.Note.{Note}
use Rattle.smx_history.specs.declared.reply.Failed.{Failed}
use Rattle.smx_lane.specs.declared.sent.Sent.{Sent}
use Rattle.smx_shared.specs.declared.fault.FailFault.{FailFault}
use Rattle.smx_shared.specs.declared.fault.TakeFault.{TakeFault}
use Rattle.smx_shared.specs.Taps.{Known, Took, known_of}
use Rattle.smx_shared.proofs.Knowing.{takes_known, down_known, fail_known}
use Rattle.smx_turns.specs.Runs.{Runs}
use Rattle.smx_upstream.specs.declared.abandoning.AbandonEnd.{AbandonEnd}
use Rattle.smx_upstream.specs.declared.abandoning.AbandonEnd.TheVariants.{Emptied, StaysDown, Spent, Left}
use Rattle.smx_upstream.specs.declared.abandoning.Abandoned.{Abandoned}
use Rattle.smx_upstream.specs.declared.abandoning.Round.{Round}
use Rattle.smx_upstream.specs.declared.losing.Lost.{Lost}
use Rattle.smx_upstream.specs.Abandoning.{TakesOne, StopsTaking, GoesRound, EndsRounds, Abandons, LeavesNone, round_known, rounds_known}
use Rattle.smx_upstream.specs.Losing.{GivesUp, StopsGivingUp, Loses}
use Rattle.smx_shared.specs.Views.{TapView}
use Rattle.smx_upstream.specs.declared.event.Event.TheVariants.{GaveUp}
use Rattle.smx_upstream.specs.declared.event.GivenUp.{GivenUp}
use Rattle.smx_upstream.specs.Standing.{Stand, Does}
use Rattle.smx_upstream.proofs.Seen.{nothing, self, longer, rise_note, rise_seen}
use Rattle.smx_upstream.proofs.Emptied.{lost_seen, rounds_seen}

given_note : (f g : Front Note Limits) (given : List Failed) → Runs GivesUp f given g → known_of g.mine ≡ known_of f.mine
unfolding Runs
given_note f g [] r = ap (λ x. known_of x.mine) r
given_note f g (x ∷ given) r = given_note r.0 g given r.2 ∙ fail_known f r.0 (Ok x) r.1

stopped_note : (f g : Front Note Limits) (s : Option FailFault) → StopsGivingUp f g s → known_of g.mine ≡ known_of f.mine
stopped_note f g (Some e) h = fail_known f g (Err e) h
stopped_note f g None h = ap (λ x. known_of x.mine) h

lost_note : (f g : Front Note Limits) (lost : Lost) → Loses f g lost → known_of g.mine ≡ known_of f.mine
lost_note f g lost (down, falls, (last, given, stops)) = stopped_note last g lost.end stops ∙ given_note down last lost.given given ∙ down_known f down lost.down falls

abbrev took : Sent → Known
took s = Took s.request.client s.upstream

taken_note : (now : ℕ) (f g : Front Note Limits) (all : List Sent) → Runs (TakesOne now) f all g → known_of g.mine ≡ known_of f.mine ++ map took all
unfolding Runs
taken_note now f g [] r = nothing _ _ (ap (λ x. known_of x.mine) r)
taken_note now f g (s ∷ all) r =
    taken_note now r.0 g all r.2 ∙ ap (λ l. l ++ map took all) (takes_known f r.0 now (Ok s) r.1) ∙ append_assoc (known_of f.mine) (took s ∷ []) (map took all)

refused_note : (now : ℕ) (f g : Front Note Limits) (s : Option TakeFault) → StopsTaking now f g s → known_of g.mine ≡ known_of f.mine
refused_note now f g (Some e) h = takes_known f g now (Err e) h ∙ append-nil (known_of f.mine)
refused_note now f g None h = ap (λ x. known_of x.mine) h

round_note : (now : ℕ) (f g : Front Note Limits) (r : Round) → GoesRound now f r g → known_of g.mine ≡ known_of f.mine ++ round_known r
round_note now f g r d =
    lost_note d.full g r.lost d.loses ∙ refused_note now d.takes.last d.full r.stop d.takes.stops ∙ taken_note now d.up d.takes.last r.taken d.takes.runs
    ∙ ap (λ l. l ++ round_known r) (rise_note f d.up r.rise d.rises)

rounds_note : (now : ℕ) (f g : Front Note Limits) (rs : List Round) → Runs (GoesRound now) f rs g → known_of g.mine ≡ known_of f.mine ++ rounds_known rs
unfolding Runs
rounds_note now f g [] r = nothing _ _ (ap (λ x. known_of x.mine) r)
rounds_note now f g (x ∷ rs) r =
    rounds_note now r.0 g rs r.2 ∙ ap (λ l. l ++ rounds_known rs) (round_note now f r.0 x r.1) ∙ append_assoc (known_of f.mine) (round_known x) (rounds_known rs)

ends_note : (f g : Front Note Limits) (e : AbandonEnd) → EndsRounds f g e → known_of g.mine ≡ known_of f.mine
ends_note f g Emptied h = ap (λ x. known_of x.mine) h
ends_note f g (StaysDown rise) h = rise_note f g rise h
ends_note f g Spent h = ap (λ x. known_of x.mine) h
ends_note f g Left h = ap (λ x. known_of x.mine) h

pub gave_note : (now : ℕ) (f m g : Front Note Limits) (lost : Lost) (done : Abandoned) → Loses f m lost → Abandons now m g done → known_of g.mine ≡ known_of f.mine ++ rounds_known done.rounds
gave_note now f m g lost done loses d =
    ends_note d.last g done.end d.ends ∙ rounds_note now m d.last done.rounds d.runs ∙ ap (λ l. l ++ rounds_known done.rounds) (lost_note f m lost loses)

ends_seen : (f g : Front Note Limits) (e : AbandonEnd) → EndsRounds f g e → IsPrefix f.seen g.seen
ends_seen f g Emptied h = self f.seen g.seen (ap (λ x. x.seen) h)
ends_seen f g (StaysDown rise) h = rise_seen f g rise h
ends_seen f g Spent h = self f.seen g.seen (ap (λ x. x.seen) h)
ends_seen f g Left h = self f.seen g.seen (ap (λ x. x.seen) h)

pub gave_seen : (now : ℕ) (f m g : Front Note Limits) (lost : Lost) (done : Abandoned) → Loses f m lost → Abandons now m g done → IsPrefix f.seen g.seen
gave_seen now f m g lost done loses d =
    longer f.seen m.seen g.seen (lost_seen f m lost loses) (longer m.seen d.last.seen g.seen (rounds_seen now m d.last done.rounds d.runs) (ends_seen d.last g done.end d.ends))

pub gave_does : (s t : Stand) (mid : TapView) (lost : Lost) (done : Abandoned) (given : GivenUp) → given.lane ≡ s.tap.lane → given.lost.value ≡ lost → given.between.value ≡ mid → given.abandoned.value ≡ done
    → Loses s.tap.front mid.front lost → Abandons given.now mid.front t.tap.front done → t.tap.lane ≡ s.tap.lane → t ≡ record s { tap = t.tap } → Does s (GaveUp given) t
gave_does s t mid lost done given lane l b a loses abandons same is = (
  lane,
  subst (λ (x : Lost). Loses s.tap.front given.between.value.front x) (sym l) (subst (λ (x : TapView). Loses s.tap.front x.front lost) (sym b) loses),
  subst (λ (x : Abandoned). Abandons given.now given.between.value.front t.tap.front x) (sym a) (subst (λ (x : TapView). Abandons given.now x.front t.tap.front done) (sym b) abandons),
  same,
  is,
)

pub gave_settled : (g : Front Note Limits) (mid : TapView) (done : Abandoned) (given : GivenUp) → given.between.value ≡ mid → given.abandoned.value ≡ done → (done.end ≡ Emptied → LeavesNone mid.front g)
    → given.abandoned.value.end ≡ Emptied → LeavesNone given.between.value.front g
gave_settled g mid done given b a settled e = subst (λ (x : TapView). LeavesNone x.front g) (sym b) (settled (sym (ap (λ x. x.end) a) ∙ e))

pub gave_all : (lost : Lost) (given : GivenUp) → given.lost.value ≡ lost → lost.failed ≡ length lost.given → (lost.end ≡ None → lost.failed ≡ 1025) → given.lost.value.end ≡ None → length given.lost.value.given ≡ 1025
gave_all lost given l count all e = ap (λ x. length x.given) l ∙ sym count ∙ all (sym (ap (λ x. x.end) l) ∙ e)
