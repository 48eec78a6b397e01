-- A take keeps the room.
use Rattle.std.proofs.Common.{◌≡◌, ◌<◌, ◌+◌, ◌==◌, ℕ, cond, List, [], ◌∷◌, ◌++◌, length, drop, ◌∙◌, ap, arith, count_by, length-append, suc}
use Rattle.std.proofs.lemmas.List.Sums.{sum_by-cons}
use Rattle.smx_history.specs.declared.request.Request.{Request}
use Rattle.smx_history.specs.declared.note.Event.TheVariants.{Take}
use Rattle.smx_history.specs.History.{entry_by}
use Rattle.smx_history.specs.Contents.{Content, Member}
use Rattle.smx_history.proofs.Room.{KeepsRoom, FitsBox}
use Rattle.smx_history.proofs.Updates.{taken, place_for}
use Rattle.smx_history.proofs.Keeping.{count_by-push, All-each}

box-taken : (v : Content) (by : ℕ) (r : Request) (u t : ℕ) (rest : List Request) → v.queue ≡ r ∷ rest → (m : Member) → FitsBox v m → FitsBox (taken v by r u t) m
box-taken v by r u t rest front m fits =
    let q : count_by (λ x. x.client == m.client) v.queue ≡ cond (r.client == m.client) 1 0 + count_by (λ x. x.client == m.client) rest =
    ap (count_by (λ x. x.client == m.client)) front ∙ sum_by-cons (λ x. cond (x.client == m.client) 1 0) r rest in
    let w : count_by (λ p. p.client == m.client) (v.window ++ place_for r u t ∷ []) ≡ count_by (λ p. p.client == m.client) v.window + cond (r.client == m.client) 1 0 =
    count_by-push (λ p. p.client == m.client) v.window (place_for r u t) in
    let d : drop 1 v.queue ≡ rest = ap (drop 1) front in
    (rw (d) (omega (arith, q, w, fits.0)), fits.1)

pub KeepsRoom-taken : (v : Content) (by : ℕ) (r : Request) (u t : ℕ) (rest : List Request) → KeepsRoom v → v.queue ≡ r ∷ rest → length v.window < v.limits.window → KeepsRoom (taken v by r u t)
KeepsRoom-taken v by r u t rest k front room =
    let d : drop 1 v.queue ≡ rest = ap (drop 1) front in
    let q : length v.queue ≡ suc (length rest) = ap length front in
    let q' : length (drop 1 v.queue) ≡ length rest = ap length d in
    let counts : (c : ℕ) → (count_by (λ x. x.client == c) v.queue ≡ cond (r.client == c) 1 0 + count_by (λ x. x.client == c) rest) × (count_by (λ p. p.client == c) (v.window ++ place_for r u t ∷ []) ≡ count_by (λ p. p.client == c) v.window + cond (r.client == c) 1 0) =
    λ c. (ap (count_by (λ x. x.client == c)) front ∙ sum_by-cons (λ x. cond (x.client == c) 1 0) r rest, count_by-push (λ p. p.client == c) v.window (place_for r u t)) in
    let w : length (v.window ++ place_for r u t ∷ []) ≡ length v.window + 1 = length-append v.window (place_for r u t ∷ []) in
    let e : length (v.entries ++ entry_by by (Take r.client r.ordinal u t) ∷ []) ≡ length v.entries + 1 = length-append v.entries (entry_by by (Take r.client r.ordinal u t) ∷ []) in
    record {
      limits = k.limits;
      queue = omega (arith, q, q', k.queue);
      window = omega (arith, w, room);
      size = omega (arith, q, q', w, e, k.size);
      boxes = All-each (FitsBox v) (FitsBox (taken v by r u t)) (box-taken v by r u t rest front) v.members k.boxes;
      queue_known = λ c above. let n = counts c in omega (arith, n.0, k.queue_known c above, ap (count_by (λ x. x.client == c)) d);
      window_known = λ c above. let n = counts c in omega (arith, n.0, n.1, k.queue_known c above, k.window_known c above);
      members_known = k.members_known;
      clients = k.clients;
    }
