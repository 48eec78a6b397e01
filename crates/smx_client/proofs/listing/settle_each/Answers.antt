use Rattle.std.proofs.Common.{◌++◌, ◌∷◌, [], length, sym, ap, ◌∙◌, subst, append_assoc, arith}
use Rattle.std.specs.List.{flat_map}
use Rattle.smx_shared.specs.declared.batch.Landing.{Landing}
use Rattle.smx_turns.proofs.Chains.{pushed}
use Rattle.smx_client.specs.Events.{submit_told}
use Rattle.smx_client.specs.Sayings.{Spoke}
use Rattle.smx_client.specs.Private.Lists.{landed_out}
use Rattle.smx_client.proofs.Lists.{spoke_more}
use Rattle.smx_client.proofs.listing.settle_each.Goals as goal

pub loop-landing-preserved-in-Some : goal.loop-landing-preserved-in-Some
loop-landing-preserved-in-Some g c =
    let i = c.loop-landing.invariant in
    let ls = i.made.0 in
    let l = c.in-Some.landing in
    let next = c.in-Some.ensures.items in
    let outs = pushed (λ (x : Landing). landed_out x.landed) ls l in
    let tolds = pushed (λ (x : Landing). submit_told x.landed) ls l in
    record {
      made = (
        ls ++ l ∷ [],
        append_assoc ls (l ∷ []) c.pop_front.new.self.items ∙ ap (λ xs. ls ++ xs) (sym next) ∙ i.made.1,
        subst (Spoke c.args.wire.now c.say_landed.new.wire) (sym outs) (spoke_more _ _ _ _ _ i.made.2 c.say_landed.ensures.spoke),
        c.tell_accepted.ensures.told ∙ ap (λ t. t ++ submit_told l.landed) i.made.3 ∙ append_assoc (g.G.Gate.told c.args.gate.now) (flat_map (λ (x : Landing). submit_told x.landed) ls) (submit_told l.landed)
            ∙ ap (λ t. g.G.Gate.told c.args.gate.now ++ t) (sym tolds),
      );
      room = omega (arith, i.room, ap length next, c.say_landed.ensures.left);
      asked = c.tell_accepted.ensures.asked ∙ i.asked;
    }

pub loop-landing-preserved : goal.loop-landing-preserved
loop-landing-preserved g c =
    let i = c.loop-landing.invariant in
    let ls = i.made.0 in
    let l = c.in-Some.landing in
    let next = c.in-Some.ensures.items in
    let outs = pushed (λ (x : Landing). landed_out x.landed) ls l in
    let tolds = pushed (λ (x : Landing). submit_told x.landed) ls l in
    record {
      made = (
        ls ++ l ∷ [],
        append_assoc ls (l ∷ []) c.pop_front.new.self.items ∙ ap (λ xs. ls ++ xs) (sym next) ∙ i.made.1,
        subst (Spoke c.args.wire.now c.say_landed.new.wire) (sym outs) (spoke_more _ _ _ _ _ i.made.2 c.say_landed.ensures.spoke),
        c.tell_accepted.ensures.told ∙ ap (λ t. t ++ submit_told l.landed) i.made.3 ∙ append_assoc (g.G.Gate.told c.args.gate.now) (flat_map (λ (x : Landing). submit_told x.landed) ls) (submit_told l.landed)
            ∙ ap (λ t. g.G.Gate.told c.args.gate.now ++ t) (sym tolds),
      );
      room = omega (arith, i.room, ap length next, c.say_landed.ensures.left);
      asked = c.tell_accepted.ensures.asked ∙ i.asked;
    }
