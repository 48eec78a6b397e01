use Rattle.std.proofs.Common.{◌≡◌, ◌≢◌, ◌≤◌, ◌==◌, not, rules, refl, arith}
use Rattle.std.proofs.lemmas.Fn.{filter_same}
use Rattle.std.proofs.lemmas.List.Kept.{AllPairs-filter}
use Rattle.std.proofs.lemmas.List.Elements.{All-filter}
use Rattle.smx_routes.specs.declared.mo_window.Waiting.{Waiting}
use Rattle.smx_routes.specs.Window.{without, greatest}
use Rattle.smx_routes.proofs.mo_window.MoWindow.remove.Goals as goal

kept : (c : goal.After-retain) → c.retain.new.self.items ≡ without c.args.number c.self.inside.waiting.items
kept c = filter_same _ (λ (w : Waiting). not (w.given == c.args.number)) _ (λ x b f k. search rules) _ _ c.retain.ensures.filtered

pub invariant_of-self : goal.invariant_of-self
invariant_of-self c = record {
  size = c.self.invariant.size;
  room = omega (arith, c.retain.ensures.capacity, c.self.invariant.room);
  within = omega (arith, c.retain.ensures.bound, c.self.invariant.within);
  apart = rw (kept c) (AllPairs-filter (λ (v : Waiting) (w : Waiting). v.given ≢ w.given) (λ (w : Waiting). not (w.given == c.args.number)) c.self.inside.waiting.items c.self.invariant.apart);
  last = c.self.invariant.last;
  numbers = rw (kept c) (All-filter (λ (w : Waiting). not (w.given == c.args.number)) (λ (w : Waiting). w.given ≤ greatest) c.self.inside.waiting.items c.self.invariant.numbers);
}

pub returns : goal.returns
returns c = rw (← c.self.view_is, kept c) refl
