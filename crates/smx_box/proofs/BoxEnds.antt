-- What a sender and a receiver keep of their seats.
use Rattle.std.specs.Bool.{◌==◌}
use Rattle.std.proofs.Common.{cond, ◌≡◌, ℕ, ◌+◌, ◌<◌, ◌≤◌, Bool, true, false, eqb, List, [], ◌∷◌, ◌++◌, length, sym, refl, ap, ◌∙◌, subst, arith, Option, Some, None, Result, Ok, Err, MatchOption, MatchResult, length-append, nat_le}
use Rattle.std.proofs.lemmas.Bool.{eqb-true}
use Rattle.std.proofs.lemmas.List.{append-nil, nil_from_length}
use Rattle.crossbeam_queue.specs.Fifo.{Held}
use Rattle.crossbeam_queue.specs.Passes.{Pass, view, IsSamePass}
use Rattle.smx_box.specs.declared.letter.Letter.{Letter}
use Rattle.smx_box.specs.declared.letter.Known.{Known}
use Rattle.smx_box.specs.declared.letter.Note.{Note}
use Rattle.smx_box.specs.declared.letter.Deed.TheVariants.{Putting, Getting}
use Rattle.smx_box.specs.Letters.{is_item, letter, of, is_open, Numbered, AllShut}
use Rattle.smx_box.specs.Boxes.{most_items, deed_note, pass_notes, puts, gets, Stood, Posts, TakesLetter, FindsLetters, BoxHistory, PassFront, PutServes, FullPutServes, LookServes, OldestServes, EmptyGetServes, Receiving, Hands, GetServes}
use Rattle.smx_box.specs.Private.Ends.{pass_front, IsTold, IsNextLetter, IsFreshPass, IsSender, IsReceiver, shut_below, sending, receiving, CountServes, PostServes}
use Rattle.smx_box.specs.Private.Rule.{Tells, WasTold, FindsNone, FindsOne, telling_known, told_known}
use Rattle.smx_box.specs.declared.receiver.Got.TheVariants.{Item, Shut}
use Rattle.smx_box.proofs.LetterLists.{of-append, of_yes, of_no, open_snoc, shut_snoc, Numbered_snoc, next_got, numbered_got}
use Rattle.smx_box.proofs.BoxHistories.{puts-append, gets-append, own_puts, own_gets, none_since, notes_here}
use Rattle.smx_box.proofs.ShutCounts.{shut_same, shut_more, shut_not_all, all_shut, shut_all, none_shut}

not_nil : {A : Type 0} (xs : List A) (x : A) (ys : List A) → xs ++ x ∷ ys ≡ [] → ⊥
not_nil [] x ys e = cc
not_nil (m ∷ xs) x ys e = cc

module _ {T : Type 0} where
  -- what the history that a pass finds says of its own letters
  own_list : (v : Known T) (found : List (Note T)) (items : List (Letter T)) (p : ℕ) → Stood v found items → v.number ≡ p + 1 → of p (puts found) ≡ puts v.mine
  own_list v found items p s pass = own_puts found p s.history.own ∙ ap (λ k. puts (pass_notes k found)) (sym pass) ∙ ap puts s.own

  own_gots : (v : Known T) (found : List (Note T)) (items : List (Letter T)) → Stood v found items → v.number ≡ 0 → gets found ≡ gets v.mine
  own_gots v found items s pass = own_gets found s.history.own ∙ ap (λ k. gets (pass_notes k found)) (sym pass) ∙ ap gets s.own

  -- what a step of the queue tells of an end
  pub put_serves : (f g : PassFront T) (m : Letter T) → IsTold f → g.queue ≡ f.queue → f.known.number ≡ m.sender + 1 → Posts f.known m g.known → PutServes (sending m.sender f) g m
  put_serves f g m told same pass s = (same, s.0, s.1, s.2, own_list f.known s.0 s.1 m.sender s.2.finds pass, subst (λ n. length (s.1 ++ m ∷ []) ≤ n) (s.2.places.1 ∙ told.1) s.2.room_left)

  pub full_serves : (f g : PassFront T) (p : ℕ) → g ≡ f → f.known.number ≡ p + 1 → Held {T = Letter T} f.queue.places (FindsLetters f.known) → FullPutServes (sending p f) g
  full_serves f g p same pass s = (same, s.2.0, s.0, s.2.1, own_list f.known s.2.0 s.0 p s.2.1 pass, s.1)

  -- what a look tells of a sender
  pub looked : (f : PassFront T) (p count places : ℕ) → f.known.number ≡ p + 1 → CountServes f count → places ≡ f.queue.places → LookServes (sending p f) (count == places)
  looked f p count places pass s all = (s.0, s.1, s.2, own_list f.known s.0 s.1 p s.2 pass, (let n = s.3 in cc))

  pub got_serves : (f g : PassFront T) (m : Letter T) → IsTold f → g.queue ≡ f.queue → f.known.number ≡ 0 → TakesLetter f.known m g.known → OldestServes (receiving f) g (Some m)
  got_serves f g m told same pass s = (same, s.0, s.1, s.2, own_gots f.known s.0 (m ∷ s.1) s.2.finds pass, subst (λ n. length (m ∷ s.1) ≤ n) told.1 s.2.finds.room)

  pub empty_serves : (f g : PassFront T) → g ≡ f → f.known.number ≡ 0 → Held {T = Letter T} 0 (FindsLetters f.known) → OldestServes (receiving f) g None
  empty_serves f g same pass s = let none = nil_from_length s.0 s.1 in let stands = subst (Stood f.known s.2.0) none s.2.1 in (same, s.2.0, stands, own_gots f.known s.2.0 [] stands pass)

  same_front : (places : ℕ) (p q : Pass (Letter T) (Known T)) → IsSamePass p q → view q ≡ view p → pass_front places q ≡ pass_front places p
  same_front places p q same e = let t = same.0 in cc

  -- what a push tells
  pub posted : (places : ℕ) (p q : Pass (Letter T) (Known T)) (m : Letter T) (r : Result (Unit {0}) (Letter T)) → IsTold (pass_front places p) → (view p).number ≡ m.sender + 1 → IsSamePass p q
      → MatchResult r (λ _. Posts (view p) m (view q)) (λ x. (x ≡ m) × (view q ≡ view p) × Held {T = Letter T} places (FindsLetters (view p)))
      → PostServes (sending m.sender (pass_front places p)) (pass_front places q) m r
  posted places p q m (Ok _) knows number same told = put_serves (pass_front places p) (pass_front places q) m knows (let t = same.0 in cc) number told
  posted places p q m (Err back) knows number same told = (told.0, full_serves (pass_front places p) (pass_front places q) m.sender (same_front places p q same told.1) number told.2)

  -- what a pop tells
  pub popped : (places : ℕ) (p q : Pass (Letter T) (Known T)) (r : Option (Letter T)) → IsTold (pass_front places p) → (view p).number ≡ 0 → IsSamePass p q
      → MatchOption r ((view q ≡ view p) × Held {T = Letter T} 0 (FindsLetters (view p))) (λ x. TakesLetter (view p) x (view q))
      → OldestServes (receiving (pass_front places p)) (pass_front places q) r
  popped places p q (Some m) knows number same told = got_serves (pass_front places p) (pass_front places q) m knows (let t = same.0 in cc) number told
  popped places p q None knows number same told = empty_serves (pass_front places p) (pass_front places q) (same_front places p q same told.0) number told.1

  -- the letter that tells went in and came out
  pub went_in : (cap : ℕ) (v w : Known T) (m : Letter T) (r : Result (Unit {0}) (Letter T)) → 0 < cap
      → MatchResult r (λ _. Tells v m w) (λ x. (x ≡ m) × (w ≡ v) × Held {T = Letter T} cap (FindsNone v)) → w ≡ telling_known m.number
  went_in cap v w m (Ok _) some_places told = told
  went_in cap v w m (Err back) some_places told = let held = told.2 in let none : length held.0 ≡ 0 = ap length held.2 in let full = held.1 in absurd (omega arith)

  pub came_out : (n : ℕ) (v w : Known T) (r : Option (Letter T)) → v ≡ telling_known n → MatchOption r ((w ≡ v) × Held {T = Letter T} 0 (FindsOne v)) (λ x. WasTold v x w) → w ≡ told_known n
  came_out n v w (Some m) is told = told ∙ ap (λ (y : Known T). record y { told = true }) is
  came_out n v w None is told = let held = told.1 in let one = held.2 in let none = held.1 in absurd (omega arith)

  -- a sender
  pub first_sender : (f : PassFront T) (p : ℕ) → IsFreshPass f p → IsSender f p 0
  first_sender f p first = record {
    pass = first.0;
    counted = ap (λ l. length (puts l)) first.1;
    limit = omega arith;
    numbered = subst (λ l. Numbered 0 (puts l)) (sym first.1) tt;
    opened = ap (λ l. is_open (puts l)) first.1;
  }

  pub next_of : (f : PassFront T) (p count : ℕ) (x : Option T) → IsSender f p count → IsNextLetter f (letter p (count + 1) x)
  next_of f p count x is = record { pass = is.pass; number = ap (λ n. n + 1) (sym is.counted); opened = is.opened }

  pub put_more : (f g : PassFront T) (m : Letter T) → PutServes (sending m.sender f) g m → puts g.known.mine ≡ puts f.known.mine ++ m ∷ []
  put_more f g m s = ap puts s.3.mine ∙ puts-append f.known.mine (deed_note f.known.number (Putting m) ∷ [])

  pub sender_put : (f g : PassFront T) (p count n : ℕ) (x : T) → PutServes (sending p f) g (letter p n (Some x)) → n ≡ count + 1 → count < most_items → IsSender f p count → IsSender g p n
  sender_put f g p count n x s e lt is = let m : Letter T = letter p n (Some x) in let more = put_more f g m s in record {
    pass = s.3.number ∙ is.pass;
    counted = ap length more ∙ (let l = length-append (puts f.known.mine) (m ∷ []) in let c = is.counted in omega arith);
    limit = omega arith;
    numbered = subst (Numbered 0) (sym more) (Numbered_snoc 0 (puts f.known.mine) m is.numbered is.opened (let c = is.counted in omega arith));
    opened = ap is_open more ∙ open_snoc (puts f.known.mine) m is.opened refl;
  }

  -- a receiver got this letter
  pub record Taken (f g : PassFront T) (m : Letter T) : Type 0 where
    pub number : g.known.number ≡ f.known.number
    pub senders : g.known.senders ≡ f.known.senders
    pub more : gets g.known.mine ≡ gets f.known.mine ++ m ∷ []
    pub next : m.number ≡ length (of m.sender (gets f.known.mine)) + 1
    pub opened : is_open (of m.sender (gets f.known.mine)) ≡ true
    pub numbered : (p : ℕ) → Numbered 0 (of p (gets g.known.mine))
    pub below : m.sender < f.known.senders
    pub own : pass_notes 0 g.known.seen ≡ g.known.mine
    pub left : (items : List (Letter T)) × BoxHistory g.known.seen items

  one_of_them : (p : ℕ) (h : List (Note T)) (items : List (Letter T)) (m : Letter T) → BoxHistory h (m ∷ items) → m.sender ≡ p → of p (puts h) ≡ [] → ⊥
  one_of_them p h items m b is none = not_nil (of p (gets h)) m (of p items)
      (sym (of-append p (gets h) (m ∷ items) ∙ ap (λ l. of p (gets h) ++ l) (of-append p (m ∷ []) items ∙ ap (λ l. l ++ of p items) (of_yes p m is)))
      ∙ (b.delivers p).0 ∙ none)

  pub taken : (f g : PassFront T) (m : Letter T) → f.known.number ≡ 0 → OldestServes (receiving f) g (Some m) → Taken f g m
  taken f g m first s = let step = s.3 in let found = s.1 in let items = s.2 in
      let more : gets g.known.mine ≡ gets f.known.mine ++ m ∷ [] = ap gets step.mine ∙ gets-append f.known.mine (deed_note f.known.number (Getting m) ∷ []) in
      let got = s.4 in
      let seen : gets g.known.seen ≡ gets g.known.mine = ap gets step.seen ∙ gets-append found (deed_note f.known.number (Getting m) ∷ []) ∙ ap (λ l. l ++ m ∷ []) got ∙ sym more in
      let next = next_got _ (gets found) items m step.finds.history.delivers in record {
        number = step.number;
        senders = step.senders;
        more = more;
        next = next.0 ∙ ap (λ l. length (of m.sender l) + 1) got;
        opened = ap (λ l. is_open (of m.sender l)) (sym got) ∙ next.1;
        numbered = λ p. subst (λ l. Numbered 0 (of p l)) seen (numbered_got _ (gets g.known.seen) items step.leaves.delivers p);
        below = pick (nat_le f.known.senders m.sender) refl;
        own = ap (λ k. pass_notes k g.known.seen) (sym first) ∙ ap (pass_notes f.known.number) step.seen ∙ notes_here found f.known.number (Getting m)
            ∙ ap (λ l. l ++ deed_note f.known.number (Getting m) ∷ []) step.finds.own ∙ sym step.mine;
        left = (items, step.leaves);
      }
    where
      pick : (b : Bool) → nat_le f.known.senders m.sender ≡ b → m.sender < f.known.senders
      pick true e = absurd (one_of_them m.sender s.1 s.2 m s.3.finds.history refl (s.3.finds.no_others first m.sender (grind (arith, e))))
      pick false e = grind (arith, e)

  -- a receiver
  pub first_receiver : (f : PassFront T) (senders : ℕ) → f.known.number ≡ 0 → f.known.mine ≡ [] → f.known.seen ≡ [] → f.known.senders ≡ senders → IsReceiver f senders 0
  first_receiver f senders pass mine seen all = record {
    pass = pass;
    all = all;
    numbered = λ p. subst (λ l. Numbered 0 (of p (gets l))) (sym mine) tt;
    counted = sym (none_shut senders) ∙ ap (λ l. shut_below senders (λ p. is_open (of p (gets l)))) (sym mine);
    own = ap (pass_notes 0) seen ∙ sym mine;
    left = ([], subst (λ h. BoxHistory h []) (sym seen) record { delivers = λ p. (refl, tt); own = tt });
  }

  -- an item leaves each sender as open as it was
  open_more : (b : Bool) (l : List (Letter T)) (m : Letter T) → (b ≡ true → is_open l ≡ true) → is_item m.content ≡ true → is_open (l ++ cond b (m ∷ []) []) ≡ is_open l
  open_more true l m o e = open_snoc l m (o refl) e ∙ sym (o refl)
  open_more false l m o e = ap is_open (append-nil l)

  opens_same : (got : List (Letter T)) (m : Letter T) → is_item m.content ≡ true → is_open (of m.sender got) ≡ true → (p : ℕ) → is_open (of p (got ++ m ∷ [])) ≡ is_open (of p got)
  opens_same got m e o p = ap is_open (of-append p got (m ∷ [])) ∙ open_more (eqb m.sender p) (of p got) m (λ is. ap (λ q. is_open (of q got)) (sym (eqb-true m.sender p is)) ∙ o) e

  pub receiver_item : (f g : PassFront T) (senders shut : ℕ) (m : Letter T) → Taken f g m → is_item m.content ≡ true → IsReceiver f senders shut → IsReceiver g senders shut
  receiver_item f g senders shut m t item is = record {
    pass = t.number ∙ is.pass;
    all = t.senders ∙ is.all;
    numbered = t.numbered;
    counted = is.counted ∙ sym (shut_same senders (λ p. is_open (of p (gets f.known.mine))) (λ p. is_open (of p (gets g.known.mine)))
        (λ p. ap (λ l. is_open (of p l)) t.more ∙ opens_same (gets f.known.mine) m item t.opened p));
    own = t.own;
    left = t.left;
  }

  pub receiver_mark : (f g : PassFront T) (senders shut : ℕ) (m : Letter T) → Taken f g m → is_item m.content ≡ false → IsReceiver f senders shut → IsReceiver g senders (shut + 1)
  receiver_mark f g senders shut m t mark is = record {
    pass = t.number ∙ is.pass;
    all = t.senders ∙ is.all;
    numbered = t.numbered;
    counted = ap (λ n. n + 1) is.counted ∙ sym (shut_more senders m.sender (λ p. is_open (of p (gets f.known.mine))) (λ p. is_open (of p (gets g.known.mine)))
        (λ p other. ap (λ l. is_open (of p l)) t.more ∙ ap is_open (of-append p (gets f.known.mine) (m ∷ []) ∙ ap (λ l. of p (gets f.known.mine) ++ l) (of_no p m (λ e. other (sym e))) ∙ append-nil (of p (gets f.known.mine))))
        t.opened
        (ap (λ l. is_open (of m.sender l)) t.more ∙ ap is_open (of-append m.sender (gets f.known.mine) (m ∷ []) ∙ ap (λ l. of m.sender (gets f.known.mine) ++ l) (of_yes m.sender m refl)) ∙ shut_snoc (of m.sender (gets f.known.mine)) m t.opened mark)
        (let b = t.below in let a = is.all in omega arith));
    own = t.own;
    left = t.left;
  }

  pub some_open : (f g : PassFront T) (senders shut : ℕ) (m : Letter T) → Taken f g m → IsReceiver f senders shut → shut < senders
  some_open f g senders shut m t is = let l = shut_not_all senders m.sender (λ p. is_open (of p (gets f.known.mine))) t.opened (let b = t.below in let a = is.all in omega arith) in let c = is.counted in omega arith

  -- what a get hands out
  item_is : (m : Letter T) (x : T) → m.content ≡ Some x → m ≡ letter m.sender m.number (Some x)
  item_is m x e = ap (letter m.sender m.number) e

  mark_is : (m : Letter T) (n : ℕ) → m.number ≡ n → m.content ≡ None → m ≡ letter m.sender n None
  mark_is m n e f = ap (λ k. letter m.sender k m.content) e ∙ ap (letter m.sender n) f

  pub hands_item : (f g : PassFront T) (r : Receiving T) (m : Letter T) (x : T) → receiving f ≡ r → Taken f g m → m.content ≡ Some x → Hands r.got (gets g.known.mine) (Item m.sender m.number x)
  hands_item f g r m x is t e = subst (λ (z : Receiving T). Hands z.got (gets g.known.mine) (Item m.sender m.number x)) is
      (t.more ∙ ap (λ l. gets f.known.mine ++ l ∷ []) (item_is m x e), t.next, t.opened)

  pub hands_mark : (f g : PassFront T) (r : Receiving T) (m : Letter T) → receiving f ≡ r → Taken f g m → m.content ≡ None → Hands r.got (gets g.known.mine) (Shut m.sender)
  hands_mark f g r m is t e = subst (λ (z : Receiving T). Hands z.got (gets g.known.mine) (Shut m.sender)) is
      (t.more ∙ ap (λ l. gets f.known.mine ++ l ∷ []) (mark_is m (length (of m.sender (gets f.known.mine)) + 1) t.next e), t.opened)

  pub mark_serves : (f g : PassFront T) (r : Receiving T) (m : Letter T) → receiving f ≡ r → Taken f g m → m.content ≡ None → OldestServes (receiving f) g (Some m) → GetServes r g (Shut m.sender)
  mark_serves f g r m is t e s = subst (λ (z : Receiving T). GetServes z g (Shut m.sender)) is
      (subst (λ l. OldestServes (receiving f) g (Some l)) (mark_is m (length (of m.sender (gets f.known.mine)) + 1) t.next e) s)

  -- a receiver that finds nothing has seen all that was done
  nothing_since : (f : PassFront T) (senders shut : ℕ) (found : List (Note T)) → IsReceiver f senders shut → Stood f.known found [] → f.known.seen ≡ found
  nothing_since f senders shut found keeps s = let since = s.begins.0 in
      let whole : f.known.seen ++ since ≡ found = s.begins.1 in
      let none : since ≡ [] = none_since f.known.seen since keeps.left.0 keeps.left.1 (subst (λ h. BoxHistory h []) (sym whole) s.history)
      (ap (pass_notes 0) whole ∙ ap (λ k. pass_notes k found) (sym keeps.pass) ∙ s.own ∙ sym keeps.own) in sym (append-nil f.known.seen) ∙ ap (λ k. f.known.seen ++ k) (sym none) ∙ whole

  pub empty_get_serves : (f g : PassFront T) (r : Receiving T) (senders shut : ℕ) → receiving f ≡ r → IsReceiver f senders shut → OldestServes (receiving f) g None → EmptyGetServes r g
  empty_get_serves f g r senders shut is keeps s = let same = nothing_since f senders shut s.1 keeps s.2 in
      subst (λ (z : Receiving T). EmptyGetServes z g) is (s.0, subst (λ h. Stood f.known h []) (sym same) s.2, ap gets same ∙ s.3)

  pub ended_all : (f : PassFront T) (r : Receiving T) (senders shut : ℕ) → receiving f ≡ r → IsReceiver f senders shut → shut ≡ senders → AllShut r.senders r.got
  ended_all f r senders shut is keeps e = subst (λ (z : Receiving T). AllShut z.senders z.got) is
      (λ p lt. all_shut senders (λ q. is_open (of q (gets f.known.mine))) (sym keeps.counted ∙ e) p (let a = keeps.all in omega arith))

  pub all_ended : (f : PassFront T) (r : Receiving T) (senders shut : ℕ) → receiving f ≡ r → IsReceiver f senders shut → AllShut r.senders r.got → shut ≡ senders
  all_ended f r senders shut is keeps all = let here = subst (λ (z : Receiving T). AllShut z.senders z.got) (sym is) all in
      keeps.counted ∙ shut_all senders (λ q. is_open (of q (gets f.known.mine))) (λ p lt. here p (let a = keeps.all in omega arith))
