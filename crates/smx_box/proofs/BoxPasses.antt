-- The senders of a new box.
use Rattle.std.proofs.Common.{◌≡◌, ℕ, ◌+◌, List, [], ◌∷◌, ◌++◌, length, subst, arith}
use Rattle.atomic_table.specs.Seated.{TableId}
use Rattle.smx_box.specs.Boxes.{QueueId, Sending, StandFrom}

pub same_queue : (t u : TableId) (n m : ℕ) → t ≡ u → n ≡ m → ◌≡◌ {A = QueueId} record { table = t; places = n } record { table = u; places = m }
same_queue t u n m e f i = record { table = e i; places = f i }

module _ {T : Type 0} where
  pub stand_more : (n k : ℕ) (q : QueueId) (ss : List (Sending T)) (s : Sending T) → StandFrom n q ss → k ≡ n + length ss → (s.sender ≡ k) × (s.put ≡ []) × (s.front.queue ≡ q) → StandFrom n q (ss ++ s ∷ [])
  stand_more n k q [] s all e here = (subst (λ j. (s.sender ≡ j) × (s.put ≡ []) × (s.front.queue ≡ q)) (let f : k ≡ n = omega arith in f) here, tt)
  stand_more n k q (t ∷ ss) s all e here = (all.0, stand_more (n + 1) k q ss s all.1 (omega arith) here)
