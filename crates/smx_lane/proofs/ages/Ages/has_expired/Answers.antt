use Rattle.std.proofs.Common.{◌≡◌, ◌<◌, ◌≤◌, length, refl, sym, ap, ◌∙◌, arith, Some, get_or, false, true, subst}
use Rattle.std.proofs.lemmas.Option.{slice_get-get_or}
use Rattle.smx_lane.specs.declared.ages.Aged.{Aged}
use Rattle.smx_lane.specs.Private.Places.{Listed, KeepsListed}
use Rattle.std.specs.Global.{Vec}
use Rattle.std.specs.Prelude.{vec_len}
use Rattle.smx_lane.proofs.Listing.{gone_more, listed_from, none_older}
use Rattle.smx_lane.proofs.ages.Ages.has_expired.Goals as goal

pub loop-at-init : goal.loop-at-init
loop-at-init c = record { list = refl; latest = refl; gone = λ j a from below there has. omega (arith, from, below) }

pub loop-at-preserved : goal.loop-at-preserved
loop-at-preserved c =
    let list = c.self.inside.list.items in
    let a = c.index-aged.result.now in
    let same = c.loop-at.invariant.list in
    let within : c.loop-at.at < length list = omega (arith, c.loop-at-test.true, c.len-at-end.ensures, c.self.inside.list.ok.0) in
    let is : get_or list c.loop-at.at a ≡ a = ap (λ (v : Vec Aged). get_or v.items c.loop-at.at a) (sym same) ∙ sym c.index-aged.ensures in
    record {
      list = same;
      latest = c.loop-at.invariant.latest;
      gone = gone_more c.args.rows.now list c.self.inside.first c.loop-at.at a c.loop-at.invariant.gone (slice_get-get_or list c.loop-at.at a within ∙ ap Some is)
          (λ has. let clash : false ≡ true = sym c.if-has.false ∙ c.has.ensures.1 has in cc);
    }

pub returns-then-not-is_expired-clause-each : goal.returns-then-not-is_expired-clause-each
returns-then-not-is_expired-clause-each c = λ listed.
    let was = subst (λ (v : Listed). KeepsListed c.args.rows.now v.aged) (sym c.self.view_is) listed in
    rw c.loop-at.invariant.list (listed_from c.args.rows.now c.self.inside.list.items c.self.inside.first c.loop-at.at c.loop-at.auto.at c.loop-at.invariant.gone was)

pub returns-then-has-clause-each : goal.returns-then-has-clause-each
returns-then-has-clause-each c = λ listed.
    let was = subst (λ (v : Listed). KeepsListed c.args.rows.now v.aged) (sym c.self.view_is) listed in
    rw c.loop-at.invariant.list (listed_from c.args.rows.now c.self.inside.list.items c.self.inside.first c.loop-at.at c.loop-at.auto.at c.loop-at.invariant.gone was)

pub returns-then-not-is_expired-clause-none : goal.returns-then-not-is_expired-clause-none
returns-then-not-is_expired-clause-none c = λ no.
    let list = c.self.inside.list.items in
    let a = c.index-aged.result.now in
    let same = c.loop-at.invariant.list in
    let within : c.loop-at.at < length list = omega (arith, c.loop-at-test.true, c.len-at-end.ensures, c.self.inside.list.ok.0) in
    let is : get_or list c.loop-at.at a ≡ a = ap (λ (v : Vec Aged). get_or v.items c.loop-at.at a) (sym same) ∙ sym c.index-aged.ensures in
    rw same (none_older list c.loop-at.at c.args.now c.args.age a c.self.invariant.order (slice_get-get_or list c.loop-at.at a within ∙ ap Some is) (sym c.is_expired.ensures ∙ c.if-not-is_expired.true))

pub returns-clause-each : goal.returns-clause-each
returns-clause-each c = λ listed.
    let was = subst (λ (v : Listed). KeepsListed c.args.rows.now v.aged) (sym c.self.view_is) listed in
    let same = c.loop-at.invariant.list in
    let all : c.len-self-inside.result ≡ c.len-at-end.result = c.len-self-inside.ensures ∙ ap vec_len same ∙ sym c.len-at-end.ensures in
    let le : c.self.inside.first ≤ c.len-self-inside.result = omega (arith, all, c.len-at-end.ensures, c.self.inside.list.ok.0, c.self.invariant.first) in
    rw same (listed_from c.args.rows.now c.self.inside.list.items c.self.inside.first c.len-self-inside.result le
    (λ j a from below. c.loop-at.invariant.gone j a from (omega (arith, below, all, c.loop-at-test.false))) was)
