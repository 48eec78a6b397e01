-- What a hold of the counter may leave, and how it serves a call.
use Rattle.std.proofs.Common.{rules, ◌≡◌, ℕ, ◌+◌, Bool, true, false, List, [], ◌∷◌, ◌++◌, sym, ap, ◌∙◌, arith}
use Rattle.std.specs.Prelude.{All}
use Rattle.std.proofs.lemmas.List.{append-nil}
use Rattle.smx_lock.specs.Fronts.{Front, Hold, MayLeave, Finds, after_hold, holding}
use Rattle.smx_lock.proofs.Serving.{serves_hold}
use Rattle.smx_lock_example.specs.declared.counter.Added.{Added}
use Rattle.smx_lock_example.specs.declared.counter.Counter.{Counter}
use Rattle.smx_lock_example.specs.Counting.{by, limit, agrees, total, addition_note, notes_told, deed_of, DidAdd, AddServes}

total-more : (h : List Added) (n : Added) → total (h ++ n ∷ []) ≡ total h + n.amount
total-more [] n = omega arith
total-more (m ∷ h) n = let e = total-more h n in omega arith

one : (k n : ℕ) → All (λ (x : Added). by x ≡ k) (addition_note k n ∷ [])
one k n = search rules

no_note : (k : ℕ) → All (λ (x : Added). by x ≡ k) []
no_note k = λ j d lt. absurd (omega arith)

pub may : (f : Front Added ℕ) (h : Hold Counter Added ℕ) (c : Counter) (n : ℕ) (done : Bool) → Finds by limit agrees f h → DidAdd h.value c n done → MayLeave by limit agrees (holding h c) (notes_told (deed_of done n) h.number)
may f h c n true found did = record { own = one h.number n; agrees = let e = total-more h.found (addition_note h.number n) in let a = found.agrees in let d = did.1.0 in omega arith; fixed = did.0 ∙ found.fixed }
may f h c n false found did = record { own = no_note h.number; agrees = did.1.0 ∙ found.agrees ∙ ap total (sym (append-nil h.found)); fixed = did.0 ∙ found.fixed }

pub serves : (f g : Front Added ℕ) (h : Hold Counter Added ℕ) (c : Counter) (n : ℕ) (done : Bool) → Finds by limit agrees f h → DidAdd h.value c n done → g ≡ after_hold (holding h c) (notes_told (deed_of done n) h.number) → AddServes f g n done
serves f g h c n true found did is = (
  h.found,
  serves_hold by limit agrees f g h (addition_note f.number n ∷ []) found (is ∙ ap (λ k. after_hold h (addition_note k n ∷ [])) found.number),
  (let a = found.agrees in let b = did.1.1 in let e = found.fixed in let l = ap (λ z. z.fixed) found.lock in omega arith),
)
serves f g h c n false found did is = (
  h.found,
  serves_hold by limit agrees f g h [] found is,
  (let a = found.agrees in let b = did.1.1 in let e = found.fixed in let l = ap (λ z. z.fixed) found.lock in omega arith),
)

-- nothing was changed
pub may_stay : (f : Front Added ℕ) (h : Hold Counter Added ℕ) (c : Counter) → Finds by limit agrees f h → c ≡ h.value → MayLeave by limit agrees (holding h c) []
may_stay f h c found same = record { own = no_note h.number; agrees = ap (λ z. z.count) same ∙ found.agrees ∙ ap total (sym (append-nil h.found)); fixed = ap (λ z. z.limit) same ∙ found.fixed }
