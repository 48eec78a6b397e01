-- A window in another order: what a lane keeps and what it agrees with stays.
use Rattle.std.proofs.Common.{◌==◌, List, refl, ◌∙◌, arith}
use Rattle.smx_history.specs.declared.place.Place.{Place}
use Rattle.smx_history.specs.declared.note.Note.{Note}
use Rattle.smx_history.specs.Prefixes.{SameCounts}
use Rattle.smx_history.specs.Contents.{Content, AgreesWith}
use Rattle.smx_history.proofs.Room.{KeepsRoom, FitsBox}
use Rattle.smx_history.proofs.Counts.{length-same}
use Rattle.smx_history.proofs.Keeping.{All-each}

pub KeepsRoom-reordered : (v : Content) (window : List Place) → SameCounts v.window window → KeepsRoom v → KeepsRoom (record v { window = window })
KeepsRoom-reordered v window same k =
    let n = length-same v.window window same in
    record {
      limits = k.limits;
      queue = k.queue;
      window = omega (arith, n, k.window);
      size = omega (arith, n, k.size);
      boxes = All-each (FitsBox v) (FitsBox (record v { window = window })) (λ m fits. (omega (arith, same (λ p. p.client == m.client), fits.0), fits.1)) v.members k.boxes;
      queue_known = k.queue_known;
      window_known = λ c above. same (λ p. p.client == c) ∙ k.window_known c above;
      members_known = k.members_known;
      clients = k.clients;
    }

pub AgreesWith-reordered : (h : List Note) (v : Content) (window : List Place) → SameCounts v.window window → AgreesWith h v → AgreesWith h (record v { window = window })
AgreesWith-reordered h v window same a = record {
  legal = a.legal;
  numbered = a.numbered;
  after = record {
    limits = refl;
    queue = a.after.queue;
    window = λ test. same test ∙ a.after.window test;
    members = a.after.members;
    greatest = a.after.greatest;
    up = a.after.up;
    generations = a.after.generations;
    latest = a.after.latest;
    entries = a.after.entries;
  };
}
