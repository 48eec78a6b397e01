-- What is sent, one message after another.
use Rattle.std.proofs.Common.{◌≡◌, ◌<◌, ◌≤◌, ◌+◌, ◌∷◌, ◌++◌, ℕ, Bool, true, false, not, Some, List, [], length, map, drop, slice_get, refl, ap, sym, ◌∙◌, arith, inl, inr, zero, suc, unwrap_or}
use Rattle.std.specs.List.{find, range_with_len}
use Rattle.std.proofs.lemmas.Bool.{cases_lt, le-leb, lt-leb}
use Rattle.smx_pdu.specs.declared.pdu.Pdu.{Pdu}
use Rattle.smx_routes.specs.Window.{Window, IsFirstFree, number_behind, waits}
use Rattle.smx_mailbox.specs.declared.message.Message.{Message}
use Rattle.smx_mailbox.specs.Mailbox.{next_number, with_given, sent_as, pdus_sent, after_sent}

-- the first place in a range that passes is found
find_first : (p : ℕ → Bool) (f : ℕ → ℕ) (n a j : ℕ) → a ≤ j → j < a + n → p (f j) ≡ true → ((i : ℕ) → a ≤ i → i < j → p (f i) ≡ false) → find p (map f (range_with_len a n)) ≡ Some (f j)
find_first p f zero a j from within here before = absurd (omega arith)
find_first p f (suc n) a j from within here before =
    elim (cases_lt a j) [
      | inl below ↦
          let not_here = before a (omega arith) below in
          rw not_here (find_first p f n (a + 1) j (omega arith) (omega arith) here (λ i low high. before i (omega arith) high))
      | inr there ↦
          let same : a ≡ j = omega arith in
          let is_here : p (f a) ≡ true = ap (λ i. p (f i)) same ∙ here in
          rw is_here (ap (λ i. Some (f i)) same)
    ]

-- the number that a window gives is the next one
next_is : (w : Window) (number : ℕ) → IsFirstFree w number → next_number w ≡ number
next_is w number next =
    let is_free : not (waits (number_behind w.last next.passed) w.waiting) ≡ true = ap (λ n. not (waits n w.waiting)) (sym next.is) ∙ ap not next.free in
    let found = find_first (λ n. not (waits n w.waiting)) (number_behind w.last) w.places 0 next.passed (omega arith) (omega (arith, next.within)) is_free (λ i low high. ap not (next.others i high)) in
    ap (λ o. unwrap_or o 0) found ∙ sym next.is

-- where something is first, it and the rest are all
first_and_rest : {X : Type 0} (xs : List X) (x : X) → slice_get xs 0 ≡ Some x → xs ≡ x ∷ drop 1 xs
first_and_rest [] x is = cc
first_and_rest (y ∷ ys) x is = let same : y ≡ x = cc in ap (λ z. z ∷ ys) same

pub sent-full : (w : Window) (ms : List Message) → length w.waiting ≡ w.places → pdus_sent w ms ≡ []
sent-full w [] full = refl
sent-full w (m ∷ ms) full = rw (le-leb w.places (length w.waiting) (omega arith)) refl

pub after_sent-full : (w : Window) (ms : List Message) → length w.waiting ≡ w.places → after_sent w ms ≡ record { waiting = ms; window = w }
after_sent-full w [] full = refl
after_sent-full w (m ∷ ms) full = rw (le-leb w.places (length w.waiting) (omega arith)) refl

-- the message waits under the number
abbrev pub under : ℕ → Window → Message → Window
under number w m = record w {
  last = number;
  waiting = w.waiting ++ record { given = number; lane = m.lane; number = m.pdu.number; command = m.pdu.command; since = 0 } ∷ [];
}

given_is : (w : Window) (m : Message) (number : ℕ) → IsFirstFree w number → with_given w m ≡ under number w m
given_is w m number next = ap (λ n. under n w m) (next_is w number next)

sent-more : (w : Window) (m : Message) (ms : List Message) → length w.waiting < w.places → pdus_sent w (m ∷ ms) ≡ sent_as m (next_number w) ∷ pdus_sent (with_given w m) ms
sent-more w m ms room = rw (lt-leb w.places (length w.waiting) room) refl

after_sent-more : (w : Window) (m : Message) (ms : List Message) → length w.waiting < w.places → after_sent w (m ∷ ms) ≡ after_sent (with_given w m) ms
after_sent-more w m ms room = rw (lt-leb w.places (length w.waiting) room) refl

-- the window has given the first message that waited this number
pub record GaveFirst (w v : Window) (ms rest : List Message) (m : Message) (number : ℕ) : Type 0 where
  pub room : length w.waiting < w.places
  pub next : IsFirstFree w number
  pub window : v ≡ under number w m
  pub first : slice_get ms 0 ≡ Some m
  pub rest_is : rest ≡ drop 1 ms

pub sent-gave : (w v : Window) (ms rest : List Message) (m : Message) (number : ℕ) → GaveFirst w v ms rest m number → pdus_sent w ms ≡ sent_as m number ∷ pdus_sent v rest
sent-gave w v ms rest m number gave =
    let split : ms ≡ m ∷ rest = first_and_rest ms m gave.first ∙ ap (λ (xs : List Message). m ∷ xs) (sym gave.rest_is) in
    let one = ap (λ xs. pdus_sent w xs) split ∙ sent-more w m rest gave.room in
    let window : with_given w m ≡ v = given_is w m number gave.next ∙ sym gave.window in
    let left : sent_as m (next_number w) ∷ pdus_sent (with_given w m) rest ≡ sent_as m number ∷ pdus_sent v rest = λ i. sent_as m (next_is w number gave.next i) ∷ pdus_sent (window i) rest in
    one ∙ left

pub after_sent-gave : (w v : Window) (ms rest : List Message) (m : Message) (number : ℕ) → GaveFirst w v ms rest m number → after_sent w ms ≡ after_sent v rest
after_sent-gave w v ms rest m number gave =
    let split : ms ≡ m ∷ rest = first_and_rest ms m gave.first ∙ ap (λ (xs : List Message). m ∷ xs) (sym gave.rest_is) in
    let window : with_given w m ≡ v = given_is w m number gave.next ∙ sym gave.window in
    ap (λ xs. after_sent w xs) split ∙ after_sent-more w m rest gave.room ∙ ap (λ u. after_sent u rest) window

-- no more is sent than waits
pub length-sent : (w : Window) (ms : List Message) → length (pdus_sent w ms) ≤ length ms
length-sent w [] = omega arith
length-sent w (m ∷ ms) =
    elim (cases_lt (length w.waiting) w.places) [
      | inl room ↦ omega (arith, ap (λ (ps : List Pdu). length ps) (sent-more w m ms room), length-sent (with_given w m) ms)
      | inr full ↦
          let nothing : pdus_sent w (m ∷ ms) ≡ [] = rw (le-leb w.places (length w.waiting) full) refl in
          omega (arith, ap (λ (ps : List Pdu). length ps) nothing)
    ]
