-- Each step keeps the rule.
use Rattle.std.proofs.Common.{true, false, ◌≡◌, ◌≢◌, ℕ, zero, suc, ◌+◌, ◌<◌, ◌≤◌, ◌⊎◌, ◌==◌, eqb, List, [], ◌∷◌, ◌++◌, map, length, set, get_or, refl, sym, ap, ◌∙◌, subst, inl, inr, ⊎_elim, arith, Ok, Option, Some}
use Rattle.std.specs.Prelude.{All}
use Rattle.std.proofs.lemmas.List.Elements.{filter-append}
use Rattle.std.proofs.lemmas.List.{append-nil}
use mathlib.Core.Logic.{dite}
use mathlib.Core.Option.{some, none, some-injective, some-ne-none}
use mathlib.Core.Option as maybe
use mathlib.Core.List.{IsPrefix, map-append}
use native.Mathlib.Decide.{ℕ_discrete}
use lib.ListN.{get_elem?}
use lib.Seq.{map-set}
use prog.Atomic.{either}
use Rattle.atomic_table.specs.Table.{step, Act, keeps, takes, gives, Valid, carried_after, homes_after, stepped, Allows, Splits, Joins, Final, Seen, opening}
use Rattle.atomic_table.proofs.Lists.{at_set, at_map, set_else, set_again, at_longer, exchanged}
use Rattle.smx_ticket_core.specs.declared.callers.Caller.{Caller}
use Rattle.smx_ticket_core.specs.declared.callers.Caller.TheVariants.{Idle, Read, Saw, Waiting, Holding}
use Rattle.smx_ticket_core.specs.declared.callers.Event.{Event}
use Rattle.smx_ticket_core.specs.declared.callers.Event.TheVariants.{ReadNext, Draw, Look, Leave, ReadServing, TryDraw}
use Rattle.smx_ticket_core.specs.Machine.{Machine, Reached, most, who, row, Sound, FitsNumbers, ticket}
use Rattle.smx_ticket_core.proofs.Lists.{at_end}
use Rattle.smx_ticket_core.proofs.Reach.{reached_sound, reached_start, runs_on, reached_more, draw_wins, draw_loses, look_hits, look_misses, try_wins, try_loses}
use Rattle.smx_lock.specs.declared.views.Case.{Case}
use Rattle.smx_lock.specs.declared.views.View.{View}
use Rattle.smx_lock.specs.Notes.{notes_of}
use Rattle.smx_lock.specs.Rule.{caller, machine_of, LockState, Seated, Knows, Agrees, Ruled}
use Rattle.smx_lock.specs.Steps.{turned, read_next, drew, Takes, looked, held, left, released, read_serving, tried, host, guest, newcomer, message, meeting, gone, compared}
use Rattle.smx_lock.proofs.Lists.{prefix_self, prefix_more, set_there, begins_other}
use Rattle.smx_lock.proofs.OwnNotes.{all_own, own_all, own_none}

not_true : false ≡ true → ⊥
not_true e = cc

module _ {S N F : Type 0} (writer : N → ℕ) (fixed_of : S → F) (suits : S → List N → Type 0) (first : ℕ) (fixed : F) where
  abbrev V : Type 0
  V = View N F

  abbrev St : Type 0
  St = LockState S N F

  abbrev M : Type 0
  M = Seated S N F

  abbrev R : St → Type 0
  R = Ruled writer fixed_of suits first fixed

  sound : (s : St) (r : R s) → Sound (machine_of r.next r.serving s.views)
  sound s r = reached_sound first (machine_of r.next r.serving s.views) r.low r.reached

  fits : (s : St) (r : R s) (id : ℕ) (v : V) → get_elem? s.views id ≡ some v → FitsNumbers r.next r.serving v.caller
  fits s r id v at = (sound s r).each id v.caller (at_map caller s.views id v at)

  abbrev KnowsAt : List N → ℕ → ℕ → Type 0 → V → Type 0
  KnowsAt h serving seats out v = Knows writer fixed h serving seats out v

  abbrev Apart : List V → Type 0
  Apart views = (i j : ℕ) (u v : V) → get_elem? views i ≡ some u → get_elem? views j ≡ some v → u.is_seat ≡ true → v.is_seat ≡ true → u.number ≡ v.number → i ≡ j

  -- the view at a place before one view changed
  was : (views : List V) (id : ℕ) (v w : V) → get_elem? views id ≡ some v → (w.is_seat ≡ true → w.number ≡ v.number) → w.is_seat ≡ v.is_seat → (i : ℕ) (u : V) → get_elem? (set views id w) i ≡ some u → u.is_seat ≡ true
      → (o : V) × (get_elem? views i ≡ some o) × (o.number ≡ u.number) × (o.is_seat ≡ true)
  was views id v w at number seat i u there stands = ⊎_elim (λ (z : (i ≡ id) × (w ≡ u)). (v, ap (get_elem? views) z.0 ∙ at, sym (number (ap (λ (x : V). x.is_seat) z.1 ∙ stands)) ∙ ap (λ (x : V). x.number) z.1, sym seat ∙ ap (λ (x : V). x.is_seat) z.1 ∙ stands))
      (λ (z : (i ≢ id) × (get_elem? views i ≡ some u)). (u, z.1, refl, stands)) (at_set views id i w u there)

  still_apart : (s : St) (r : R s) (id : ℕ) (v w : V) → get_elem? s.views id ≡ some v → (w.is_seat ≡ true → w.number ≡ v.number) → w.is_seat ≡ v.is_seat → Apart (set s.views id w)
  still_apart s r id v w at number seat i j u x hu hx su sx same = let a = was s.views id v w at number seat i u hu su in let b = was s.views id v w at number seat j x hx sx in
      r.apart i j a.0 b.0 a.1 b.1 a.3 b.3 (a.2 ∙ same ∙ sym b.2)

  -- the run goes on by one row of the table, and the seat id has the view w
  goes_on : (s : St) (r : R s) (id : ℕ) (v w : V) (e : Event) (n' s' : ℕ) → who e ≡ id → get_elem? s.views id ≡ some v → row r.next r.serving e v.caller ≡ Ok (n', (s', w.caller)) → Reached first (machine_of n' s' (set s.views id w))
  goes_on s r id v w e n' s' is at row_is = let m : Machine = machine_of r.next r.serving s.views in
      let c = runs_on first m e v.caller (n', (s', w.caller)) r.reached (ap (get_elem? m.callers) is ∙ at_map caller s.views id v at) row_is in
      subst (λ (l : List Caller). Reached first record { next = n'; serving = s'; callers = l }) (ap (λ (k : ℕ). set m.callers k w.caller) is ∙ sym (map-set caller s.views id w)) c

  abbrev Place : List N → ℕ → List V → List (maybe.Option (Option (Case S))) → Type 0
  Place h seats views homes = ((x : Case S) × (homes ≡ some (Some x) ∷ []) × Agrees fixed_of suits fixed h seats x)
      ⊎ ((homes ≡ none ∷ []) × ((i : ℕ) × (t : ℕ) × (v : V) × (get_elem? views i ≡ some v) × (v.caller ≡ Holding t)))

  stepped_rule : (s : St) (r : R s) (id : ℕ) (v w : V) (e : Event) (n' s' : ℕ) (words' : List ℕ) (h' : List N) (homes' : List (maybe.Option (Option (Case S)))) → who e ≡ id → get_elem? s.views id ≡ some v
      → row r.next r.serving e v.caller ≡ Ok (n', (s', w.caller)) → words' ≡ n' ∷ s' ∷ [] → w.number ≡ v.number → w.is_seat ≡ v.is_seat → Place h' r.seats (set s.views id w) homes' → KnowsAt h' s' r.seats (homes' ≡ none ∷ []) w
      → ((j : ℕ) (u : V) → j ≢ id → get_elem? s.views j ≡ some u → KnowsAt h' s' r.seats (homes' ≡ none ∷ []) u)
      → ((k : ℕ) → r.seats ≤ k → notes_of writer k h' ≡ []) → R record { words = words'; homes = homes'; views = set s.views id w }
  stepped_rule s r id v w e n' s' words' h' homes' is at row_is words_is number seat place mine others unmade = record {
    history = h';
    next = n';
    serving = s';
    seats = r.seats;
    words = words_is;
    reached = goes_on s r id v w e n' s' is at row_is;
    place = place;
    each_seat = λ j u there. ⊎_elim (λ (z : (j ≡ id) × (w ≡ u)). subst (KnowsAt h' s' r.seats (homes' ≡ none ∷ [])) z.1 mine)
        (λ (z : (j ≢ id) × (get_elem? s.views j ≡ some u)). others j u z.0 z.1) (at_set s.views id j w u there);
    apart = still_apart s r id v w at (λ _. number) seat;
    no_others = unmade;
    low = r.low;
    few = r.few;
  }

  abbrev pub Goes : St → ℕ → ℕ → M → (ℕ → M → Type 0) → ℕ → Type 0
  Goes s k id me tells x = (w : V) × (a : Act (Option (Case S))) × Valid s.homes me.1 a × R (stepped s k x id me.1 w a) × tells (get_or s.words k 0) (w, carried_after me.1 a)

  -- the value stays where it is, and so does a holder
  place_stays : (s : St) (r : R s) (id : ℕ) (v w : V) → get_elem? s.views id ≡ some v → ((t : ℕ) → v.caller ≡ Holding t → ⊥) → Place r.history r.seats (set s.views id w) s.homes
  place_stays s r id v w at idle = ⊎_elim (λ (z : (x : Case S) × (s.homes ≡ some (Some x) ∷ []) × Agrees fixed_of suits fixed r.history r.seats x). inl z)
      (λ (z : (s.homes ≡ none ∷ []) × ((i : ℕ) × (t : ℕ) × (u : V) × (get_elem? s.views i ≡ some u) × (u.caller ≡ Holding t))). let h = z.1 in
      inr (z.0, (h.0, h.1, h.2, set_else s.views id h.0 w (λ e. idle h.1 (ap caller (some-injective v h.2 (sym at ∙ ap (get_elem? s.views) (sym e) ∙ h.3)) ∙ h.4)) ∙ h.3, h.4))) r.place

  -- a step that changes the caller's state alone, and the words' numbers
  turns : (s : St) (r : R s) (k x id : ℕ) (v : V) (c : Caller) (e : Event) (n' s' : ℕ) (cs : List (ℕ × Option (Case S))) → who e ≡ id → get_elem? s.views id ≡ some v → row r.next r.serving e v.caller ≡ Ok (n', (s', c)) → set s.words k x ≡ n' ∷ s' ∷ []
      → v.is_seat ≡ true → r.serving ≤ s' → ((t : ℕ) → v.caller ≡ Holding t → ⊥) → ((t : ℕ) → c ≡ Holding t → ⊥) → R (stepped s k x id cs (turned v c) keeps)
  turns s r k x id v c e n' s' cs is at row_is words_is seat grows before idle = let mine = r.each_seat id v at in
      stepped_rule s r id v (turned v c) e n' s' (set s.words k x) r.history s.homes is at row_is words_is refl refl (place_stays s r id v (turned v c) at before)
      record { number = mine.number; made_with = mine.made_with; saw = mine.saw; met = mine.met; teller = mine.teller; own = mine.own; own_seen = mine.own_seen; last = (let l = mine.last in omega arith); counts = mine.counts; alone = mine.alone; acts = inr seat; holds = λ t h. absurd (idle t h) }
      (λ j u _ there. let o = r.each_seat j u there in record { number = o.number; made_with = o.made_with; saw = o.saw; met = o.met; teller = o.teller; own = o.own; own_seen = o.own_seen; last = (let l = o.last in omega arith); counts = o.counts; alone = o.alone; acts = o.acts; holds = o.holds })
      r.no_others

  word_0 : (s : St) (r : R s) → get_or s.words 0 0 ≡ r.next
  word_0 s r = ap (λ (l : List ℕ). get_or l 0 0) r.words

  word_1 : (s : St) (r : R s) → get_or s.words 1 0 ≡ r.serving
  word_1 s r = ap (λ (l : List ℕ). get_or l 1 0) r.words

  set_0 : (s : St) (r : R s) (x : ℕ) → set s.words 0 x ≡ x ∷ r.serving ∷ []
  set_0 s r x = ap (λ (l : List ℕ). set l 0 x) r.words

  set_1 : (s : St) (r : R s) (x : ℕ) → set s.words 1 x ≡ r.next ∷ x ∷ []
  set_1 s r x = ap (λ (l : List ℕ). set l 1 x) r.words

  not_holding : (c d : Caller) (t : ℕ) → c ≡ d → ((u : ℕ) → d ≡ Holding u → ⊥) → c ≡ Holding t → ⊥
  not_holding c d t e f g = f t (sym e ∙ g)

  idle_not : (t : ℕ) → Idle ≡ Holding t → ⊥
  idle_not t e = cc

  read_not : (x t : ℕ) → Read x ≡ Holding t → ⊥
  read_not x t e = cc

  waiting_not : (x t : ℕ) → Waiting x ≡ Holding t → ⊥
  waiting_not x t e = cc

  idle_read : (x : ℕ) → Idle ≡ Read x → ⊥
  idle_read x e = cc

  idle_saw : (x : ℕ) → Idle ≡ Saw x → ⊥
  idle_saw x e = cc

  idle_waiting : (x : ℕ) → Idle ≡ Waiting x → ⊥
  idle_waiting x e = cc

  -- what is in a call is a seat
  seat_at : (s : St) (r : R s) (id : ℕ) (v : V) (c : Caller) → get_elem? s.views id ≡ some v → v.caller ≡ c → (Idle ≡ c → ⊥) → v.is_seat ≡ true
  seat_at s r id v c at is busy = ⊎_elim (λ (idle : v.caller ≡ Idle). absurd (busy (sym idle ∙ is))) (λ (z : v.is_seat ≡ true). z) (r.each_seat id v at).acts

  -- *read-next*
  pub reads_next : (n id : ℕ) (me : M) → me.0.caller ≡ Idle → me.0.is_seat ≡ true → Allows R n id me 0 (λ x. x) (read_next (step n 0 0 0 none) me)
  reads_next n id me idle seat s r wide at _ = let x : ℕ = get_or s.words 0 0 in let is = word_0 s r in let b : r.next ≤ most = (sound s r).bounded in (
    turned me.0 (Read x),
    keeps,
    tt,
    turns s r 0 x id me.0 (Read x) (ReadNext id) r.next r.serving me.1 refl at (ap (row r.next r.serving (ReadNext id)) idle ∙ ap (λ (k : ℕ). Ok (r.next, (r.serving, Read k))) (sym is)) (set_0 s r x ∙ ap (λ (k : ℕ). k ∷ r.serving ∷ []) is)
        seat (omega arith) (λ t e. idle_not t (sym idle ∙ e)) (λ t e. read_not x t e),
    (refl, (let g : x ≡ r.next = is in omega arith)),
  )

  -- *draw*
  pub draws : (n id : ℕ) (me : M) (x : ℕ) → me.0.caller ≡ Read x → x ≢ most → Allows R n id me 0 (λ y. either (eqb y x) (x + 1) y) (drew (step n 0 x (x + 1) none) me)
  draws n id me x read left_over s r wide at _ = let y : ℕ = get_or s.words 0 0 in let is = word_0 s r in let b : r.next ≤ most = (sound s r).bounded in let told = drew (step n 0 x (x + 1) none) me in
      exchanged y x (x + 1) (Goes s 0 id me told)
      (λ hit. let here : r.next ≡ x = sym is ∙ hit in (
        turned me.0 (Waiting x),
        keeps,
        tt,
        turns s r 0 (x + 1) id me.0 (Waiting x) (Draw id) (x + 1) r.serving me.1 refl at (ap (row r.next r.serving (Draw id)) read ∙ draw_wins id r.next r.serving x here left_over) (set_0 s r (x + 1)) (seat_at s r id me.0 (Read x) at read (idle_read x)) (omega arith) (λ t e. read_not x t (sym read ∙ e)) (λ t e. waiting_not x t e),
        ((λ _. refl), λ miss. absurd (miss hit)),
      ))
      (λ miss. (
        turned me.0 (Read y),
        keeps,
        tt,
        turns s r 0 y id me.0 (Read y) (Draw id) r.next r.serving me.1 refl at (ap (row r.next r.serving (Draw id)) read ∙ draw_loses id r.next r.serving x y (λ e. miss (is ∙ e)) (sym is)) (set_0 s r y ∙ ap (λ (k : ℕ). k ∷ r.serving ∷ []) is) (seat_at s r id me.0 (Read x) at read (idle_read x)) (omega arith) (λ t e. read_not x t (sym read ∙ e)) (λ t e. read_not y t e),
        ((λ hit. absurd (miss hit)), λ _. (refl, (let g : y ≡ r.next = is in omega arith))),
      ))

  -- where nobody may hold, the value is at home
  at_home : (s : St) (r : R s) → ((i t : ℕ) (u : V) → get_elem? s.views i ≡ some u → u.caller ≡ Holding t → ⊥) → (x : Case S) × (s.homes ≡ some (Some x) ∷ []) × Agrees fixed_of suits fixed r.history r.seats x
  at_home s r nobody = ⊎_elim (λ (z : (x : Case S) × (s.homes ≡ some (Some x) ∷ []) × Agrees fixed_of suits fixed r.history r.seats x). z)
      (λ (z : (s.homes ≡ none ∷ []) × ((i : ℕ) × (t : ℕ) × (u : V) × (get_elem? s.views i ≡ some u) × (u.caller ≡ Holding t))). absurd (nobody z.1.0 z.1.1 z.1.2 z.1.3 z.1.4)) r.place

  home_not_out : (hs : List (maybe.Option (Option (Case S)))) (x : Case S) → hs ≡ some (Some x) ∷ [] → hs ≡ none ∷ [] → ⊥
  home_not_out hs x a b = cc

  -- a hold begins: at *look-and-enter* and *try-draw*
  begins : (s : St) (r : R s) (k word id t n' : ℕ) (me : M) (e : Event) → who e ≡ id → get_elem? s.views id ≡ some me.0 → row r.next r.serving e me.0.caller ≡ Ok (n', (r.serving, Holding t)) → set s.words k word ≡ n' ∷ r.serving ∷ []
      → me.0.is_seat ≡ true → t ≡ r.serving → t < n' → n' ≤ most → ((i u : ℕ) (o : V) → get_elem? s.views i ≡ some o → o.caller ≡ Holding u → ⊥) → (tells : ℕ → M → Type 0) → ((m' : M) → Takes writer fixed_of suits me t m' → tells (get_or s.words k 0) m') → Goes s k id me tells word
  begins s r k word id t n' me e is at row_is words_is seat here below top nobody tells tell = let home = at_home s r nobody in let x : Case S = home.0 in let mine = r.each_seat id me.0 at in
      let w : V = held me.0 (Holding t) r.history r.seats in let out : homes_after s.homes me.1 (takes 0 (Some x)) ≡ none ∷ [] = ap (λ (l : List (maybe.Option (Option (Case S)))). set l 0 none) home.1 in (
        w,
        takes 0 (Some x),
        ap (λ (l : List (maybe.Option (Option (Case S)))). get_elem? l 0) home.1,
        stepped_rule s r id me.0 w e n' r.serving (set s.words k word) r.history (homes_after s.homes me.1 (takes 0 (Some x))) is at row_is words_is refl refl
            (inr (out, (id, t, w, set_there s.views id w me.0 at, refl)))
            record { number = mine.number; made_with = mine.made_with; saw = prefix_self r.history; met = mine.met; teller = mine.teller; own = mine.own; own_seen = mine.own seat; last = (let l = mine.last in omega arith); counts = omega arith; alone = λ _ e. e; acts = inr seat; holds = λ u h. (refl, refl, out) }
            (λ j u _ there. let o = r.each_seat j u there in record { number = o.number; made_with = o.made_with; saw = o.saw; met = o.met; teller = o.teller; own = o.own; own_seen = o.own_seen; last = (let l = o.last in omega arith); counts = o.counts; alone = o.alone; acts = o.acts; holds = λ q h. absurd (home_not_out s.homes x home.1 (o.holds q h).2) })
            r.no_others,
        tell (w, (0, Some x) ∷ me.1) (
          refl,
          (
            x,
            refl,
            record {
              number = refl;
              made_with = refl;
              stands = seat;
              begins = mine.saw;
              mine = refl;
              own = mine.own seat;
              last = refl;
              rises = (let l = mine.last in omega arith);
              value = subst (λ (f : F). Agrees fixed_of suits f r.history r.seats x) (sym (mine.made_with seat)) home.2;
              some_seat = mine.number;
              few = r.few;
              no_others = r.no_others;
              counts = mine.counts;
              alone = λ one. all_own writer r.history me.0.number r.seats mine.number r.no_others (mine.alone seat one) ∙ mine.own seat;
              stays_alone = mine.alone seat;
            },
          ),
          omega arith,
        ),
      )

  -- *look-in-vain* and *look-and-enter*
  pub looks : (n id : ℕ) (me : M) (t : ℕ) → me.0.caller ≡ Waiting t → Allows R n id me 1 (λ x. x) (looked writer fixed_of suits (step n 1 0 0 none) me)
  looks n id me t waiting s r wide at _ = let y : ℕ = get_or s.words 1 0 in let is = word_1 s r in let tells = looked writer fixed_of suits (step n 1 0 0 none) me in let f = subst (FitsNumbers r.next r.serving) waiting (fits s r id me.0 at) in let so = sound s r in
      dite (ℕ_discrete r.serving t)
      (λ hit. let here : y ≡ t = is ∙ hit in begins s r 1 y id t r.next me (Look id) refl at (ap (row r.next r.serving (Look id)) waiting ∙ look_hits id r.next r.serving t hit) (set_1 s r y ∙ ap (λ (k : ℕ). r.next ∷ k ∷ []) is) (seat_at s r id me.0 (Waiting t) at waiting (idle_waiting t)) (sym hit) f.1 so.bounded
      (λ i u o there h. let g = subst (FitsNumbers r.next r.serving) h (so.each i o.caller (at_map caller s.views i o there)) in let same : ticket me.0.caller ≡ ticket o.caller = ap ticket waiting ∙ (let z : t + 1 ≡ u + 1 = omega arith in z) ∙ sym (ap ticket h) in
      let one : id ≡ i = so.apart id i me.0.caller o.caller (at_map caller s.views id me.0 at) (at_map caller s.views i o there) (subst (λ (c : Caller). 0 < ticket c) (sym waiting) (omega arith)) same in
      waiting_not t u (sym waiting ∙ ap caller (some-injective me.0 o (sym at ∙ ap (get_elem? s.views) one ∙ there)) ∙ h)) tells
      (λ m' took. ((λ _. subst (λ (k : ℕ). Takes writer fixed_of suits me k m') (sym here) took), λ miss. absurd (miss (waiting ∙ ap (λ (k : ℕ). Waiting k) (sym here))))))
      (λ miss. (
        turned me.0 (Waiting t),
        keeps,
        tt,
        turns s r 1 y id me.0 (Waiting t) (Look id) r.next r.serving me.1 refl at (ap (row r.next r.serving (Look id)) waiting ∙ look_misses id r.next r.serving t miss) (set_1 s r y ∙ ap (λ (k : ℕ). r.next ∷ k ∷ []) is) (seat_at s r id me.0 (Waiting t) at waiting (idle_waiting t)) (omega arith) (λ u e. waiting_not t u (sym waiting ∙ e)) (λ u e. waiting_not t u e),
        ((λ hit. absurd (miss (sym is ∙ waiting_is y t (sym hit ∙ waiting)))), λ _. ap (λ (c : Caller). (turned me.0 c, me.1)) (sym waiting)),
      ))
    where
      waiting_is : (a b : ℕ) → Waiting a ≡ Waiting b → a ≡ b
      waiting_is a b e = cc

  -- *leave*
  pub leaves : (n id : ℕ) (me : M) (t : ℕ) (x : Case S) (new : List N) → me.0.caller ≡ Holding t → me.1 ≡ (0, Some x) ∷ [] → All (λ k. writer k ≡ me.0.number) new → Agrees fixed_of suits me.0.fixed (me.0.seen ++ new) me.0.seats x
      → Allows R n id me 1 (λ _. t + 1) (λ _. released new (step n 1 (t + 1) 0 none) me)
  leaves n id me t x new holding has all agrees s r wide at _ = let so = sound s r in let f = subst (FitsNumbers r.next r.serving) holding (fits s r id me.0 at) in let mine = r.each_seat id me.0 at in let h = mine.holds t holding in let here : t ≡ r.serving = f.0 in let seat = seat_at s r id me.0 (Holding t) at holding (idle_not t) in
      let w : V = left me.0 new in let is : w.last ≡ t + 1 = ap ticket holding in let homes' = homes_after s.homes me.1 gives in
      let back : homes' ≡ some (Some x) ∷ [] = ap (λ (z : List (maybe.Option (Option (Case S))) × List (ℕ × Option (Case S))). homes_after z.0 z.1 gives) (λ k. (h.2 k, has k)) in
      let grown : (k : ℕ) → notes_of writer k (me.0.seen ++ new) ≡ notes_of writer k r.history ++ notes_of writer k new = λ k. filter-append (λ z. writer z == k) me.0.seen new ∙ ap (λ (l : List N). notes_of writer k l ++ notes_of writer k new) h.0 in
      let none_of : (k : ℕ) → k ≢ me.0.number → notes_of writer k (me.0.seen ++ new) ≡ notes_of writer k r.history = λ k other. grown k ∙ ap (λ (l : List N). notes_of writer k r.history ++ l) (own_none writer me.0.number k new other all) ∙ append-nil _ in
      let own : notes_of writer me.0.number (me.0.seen ++ new) ≡ me.0.mine ++ new = grown me.0.number ∙ ap (λ (l : List N). notes_of writer me.0.number r.history ++ l) (own_all writer me.0.number new all) ∙ ap (λ (l : List N). l ++ new) (mine.own seat) in (
        w,
        gives,
        tt,
        stepped_rule s r id me.0 w (Leave id) r.next (t + 1) (set s.words 1 (t + 1)) (me.0.seen ++ new) homes' refl at (ap (row r.next r.serving (Leave id)) holding) (set_1 s r (t + 1)) refl refl
            (inl (x, back, subst (λ (z : F × ℕ). Agrees fixed_of suits z.0 (me.0.seen ++ new) z.1 x) (λ k. (mine.made_with seat k, h.1 k)) agrees))
            record { number = mine.number; made_with = mine.made_with; saw = prefix_self (me.0.seen ++ new); met = subst (λ (l : List N). IsPrefix me.0.met (l ++ new)) (sym h.0) (prefix_more me.0.met r.history new mine.met); teller = mine.teller; own = λ _. own; own_seen = own; last = omega arith; counts = mine.counts; alone = mine.alone; acts = inl refl; holds = λ u e. absurd (idle_not u e) }
            (λ j u other there. let o = r.each_seat j u there in record {
              number = o.number;
              made_with = o.made_with;
              saw = subst (λ (l : List N). IsPrefix u.seen (l ++ new)) (sym h.0) (prefix_more u.seen r.history new o.saw);
              met = subst (λ (l : List N). IsPrefix u.met (l ++ new)) (sym h.0) (prefix_more u.met r.history new o.met);
              teller = o.teller;
              own = λ stands. none_of u.number (λ e. other (r.apart j id u me.0 there at stands seat e)) ∙ o.own stands;
              own_seen = o.own_seen;
              last = (let l = o.last in omega arith);
              counts = o.counts;
              alone = o.alone;
              acts = o.acts;
              holds = λ q e. let g = subst (FitsNumbers r.next r.serving) e (so.each j u.caller (at_map caller s.views j u there)) in let same : ticket u.caller ≡ ticket me.0.caller = ap ticket e ∙ (let z : q + 1 ≡ t + 1 = omega arith in z) ∙ sym (ap ticket holding) in
                  absurd (other (so.apart j id u.caller me.0.caller (at_map caller s.views j u there) (at_map caller s.views id me.0 at) (subst (λ (c : Caller). 0 < ticket c) (sym e) (omega arith)) same));
            })
            (λ k le. none_of k (λ e. let q = mine.number in omega arith) ∙ r.no_others k le),
        refl,
      )

  -- *make*
  pub opens : (x : Case S) → first ≤ most → Agrees fixed_of suits fixed [] 1 x → R (opening (first ∷ first ∷ []) (Some x ∷ []) (newcomer fixed))
  opens x low agrees = record {
    history = [];
    next = first;
    serving = first;
    seats = 1;
    words = refl;
    reached = reached_start 1 first refl;
    place = inl (x, refl, agrees);
    each_seat = λ j v e. ⊎_elim (λ (z : (j ≡ 0) × (newcomer fixed ≡ v)). subst (KnowsAt [] first 1 (some (Some x) ∷ [] ≡ none ∷ [])) z.1
        record { number = omega arith; made_with = λ _. refl; saw = prefix_self []; met = prefix_self []; teller = omega arith; own = λ _. refl; own_seen = refl; last = omega arith; counts = omega arith; alone = λ _ e. e; acts = inl refl; holds = λ t h. absurd (idle_not t h) }) (λ z. absurd z) (alone j v e);
    apart = λ i j u v a b _ _ _. at_zero i u a ∙ sym (at_zero j v b);
    no_others = λ k le. refl;
    low = low;
    few = omega arith;
  }
    where
      alone : (j : ℕ) (v : V) → get_elem? (newcomer fixed ∷ []) j ≡ some v → ((j ≡ 0) × (newcomer fixed ≡ v)) ⊎ ⊥
      alone zero v e = inl (refl, some-injective (newcomer fixed) v e)
      alone (suc j) v e = absurd (some-ne-none v (sym e))

      at_zero : (j : ℕ) (v : V) → get_elem? (newcomer fixed ∷ []) j ≡ some v → j ≡ 0
      at_zero j v e = ⊎_elim (λ (z : (j ≡ 0) × (newcomer fixed ≡ v)). z.0) (λ z. absurd z) (alone j v e)

  -- *read-serving*
  pub reads_serving : (n id : ℕ) (me : M) → me.0.caller ≡ Idle → me.0.is_seat ≡ true → Allows R n id me 1 (λ x. x) (read_serving (step n 1 0 0 none) me)
  reads_serving n id me idle seat s r wide at _ = let x : ℕ = get_or s.words 1 0 in let is = word_1 s r in let so = sound s r in let a : r.serving ≤ r.next = so.behind in let b : r.next ≤ most = so.bounded in (
    turned me.0 (Saw x),
    keeps,
    tt,
    turns s r 1 x id me.0 (Saw x) (ReadServing id) r.next r.serving me.1 refl at (ap (row r.next r.serving (ReadServing id)) idle ∙ ap (λ (k : ℕ). Ok (r.next, (r.serving, Saw k))) (sym is)) (set_1 s r x ∙ ap (λ (k : ℕ). r.next ∷ k ∷ []) is)
        seat (omega arith) (λ t e. idle_not t (sym idle ∙ e)) (λ t e. saw_not x t e),
    (refl, (let g : x ≡ r.serving = is in omega arith)),
  )
    where
      saw_not : (a t : ℕ) → Saw a ≡ Holding t → ⊥
      saw_not a t e = cc

  -- *try-draw*
  pub tries : (n id : ℕ) (me : M) (x : ℕ) → me.0.caller ≡ Saw x → x ≢ most → Allows R n id me 0 (λ y. either (eqb y x) (x + 1) y) (tried writer fixed_of suits (step n 0 x (x + 1) none) me)
  tries n id me x saw left_over s r wide at _ = let y : ℕ = get_or s.words 0 0 in let is = word_0 s r in let so = sound s r in let a : r.serving ≤ r.next = so.behind in let b : r.next ≤ most = so.bounded in let tells = tried writer fixed_of suits (step n 0 x (x + 1) none) me in
      let f : x ≤ r.serving = subst (FitsNumbers r.next r.serving) saw (fits s r id me.0 at) in
      exchanged y x (x + 1) (Goes s 0 id me tells)
      (λ hit. let here : r.next ≡ x = sym is ∙ hit in begins s r 0 (x + 1) id x (x + 1) me (TryDraw id) refl at (ap (row r.next r.serving (TryDraw id)) saw ∙ try_wins id r.next r.serving x here left_over) (set_0 s r (x + 1)) (seat_at s r id me.0 (Saw x) at saw (idle_saw x)) (omega arith) (omega arith) (omega arith)
      (λ i u o there h. let g = subst (FitsNumbers r.next r.serving) h (so.each i o.caller (at_map caller s.views i o there)) in omega arith) tells
      (λ m' took. ((λ _. subst (λ (k : ℕ). Takes writer fixed_of suits me k m') (sym hit) took), λ miss. absurd (miss hit))))
      (λ miss. (
        turned me.0 Idle,
        keeps,
        tt,
        turns s r 0 y id me.0 Idle (TryDraw id) r.next r.serving me.1 refl at (ap (row r.next r.serving (TryDraw id)) saw ∙ try_loses id r.next r.serving x (λ e. miss (is ∙ e))) (set_0 s r y ∙ ap (λ (k : ℕ). k ∷ r.serving ∷ []) is) (seat_at s r id me.0 (Saw x) at saw (idle_saw x)) (omega arith) (λ t e. saw_not x t (sym saw ∙ e)) (λ t e. idle_not t e),
        ((λ hit. absurd (miss hit)), λ _. refl),
      ))
    where
      saw_not : (c t : ℕ) → Saw c ≡ Holding t → ⊥
      saw_not c t e = cc

  -- the view g comes behind the others, and w stands for v: of the same caller and number
  grows : (s : St) (r : R s) (id : ℕ) (v w g : V) (seats' : ℕ) → get_elem? s.views id ≡ some v → w.number ≡ v.number → w.is_seat ≡ v.is_seat → w.caller ≡ v.caller → g.caller ≡ Idle → (g.is_seat ≡ true → g.number ≡ r.seats) → r.seats ≤ seats' → seats' ≤ most
      → Place r.history seats' (set s.views id w ++ g ∷ []) s.homes → KnowsAt r.history r.serving seats' (s.homes ≡ none ∷ []) w → KnowsAt r.history r.serving seats' (s.homes ≡ none ∷ []) g
      → ((j : ℕ) (u : V) → j ≢ id → get_elem? s.views j ≡ some u → KnowsAt r.history r.serving seats' (s.homes ≡ none ∷ []) u) → R record { words = s.words; homes = s.homes; views = set s.views id w ++ g ∷ [] }
  grows s r id v w g seats' at number seat same idle fresh more top place mine new others = record {
    history = r.history;
    next = r.next;
    serving = r.serving;
    seats = seats';
    words = r.words;
    reached = subst (λ (l : List Caller). Reached first record { next = r.next; serving = r.serving; callers = l })
        (sym (map-append caller (set s.views id w) (g ∷ []) ∙ ap (λ (c : Caller). map caller (set s.views id w) ++ c ∷ []) idle ∙ ap (λ (l : List Caller). l ++ Idle ∷ []) (map-set caller s.views id w ∙ set_again (map caller s.views) id w.caller (at_map caller s.views id v at ∙ ap some (sym same)))))
        (reached_more first (machine_of r.next r.serving s.views) r.reached);
    place = place;
    each_seat = λ j u there. ⊎_elim (λ (z : get_elem? (set s.views id w) j ≡ some u). ⊎_elim (λ (y : (j ≡ id) × (w ≡ u)). subst (KnowsAt r.history r.serving seats' (s.homes ≡ none ∷ [])) y.1 mine)
        (λ (y : (j ≢ id) × (get_elem? s.views j ≡ some u)). others j u y.0 y.1) (at_set s.views id j w u z))
        (λ (z : (j ≡ length (set s.views id w)) × (g ≡ u)). subst (KnowsAt r.history r.serving seats' (s.homes ≡ none ∷ [])) z.1 new) (at_end (set s.views id w) g u j there);
    apart = λ i j u x hu hx su sx e. ⊎_elim
        (λ (a : get_elem? (set s.views id w) i ≡ some u). ⊎_elim (λ (b : get_elem? (set s.views id w) j ≡ some x). still_apart s r id v w at (λ _. number) seat i j u x a b su sx e)
        (λ (b : (j ≡ length (set s.views id w)) × (g ≡ x)). absurd (let p = under i u a su in let q = last x b.1 sx in omega arith)) (at_end (set s.views id w) g x j hx))
        (λ (a : (i ≡ length (set s.views id w)) × (g ≡ u)). ⊎_elim (λ (b : get_elem? (set s.views id w) j ≡ some x). absurd (let p = under j x b sx in let q = last u a.1 su in omega arith))
        (λ (b : (j ≡ length (set s.views id w)) × (g ≡ x)). a.0 ∙ sym b.0) (at_end (set s.views id w) g x j hx))
        (at_end (set s.views id w) g u i hu);
    no_others = λ k le. r.no_others k (omega arith);
    low = r.low;
    few = top;
  }
    where
      under : (i : ℕ) (u : V) → get_elem? (set s.views id w) i ≡ some u → u.is_seat ≡ true → u.number < r.seats
      under i u there stands = let a = was s.views id v w at (λ _. number) seat i u there stands in subst (λ (k : ℕ). k < r.seats) a.2 (r.each_seat i a.0 a.1).number

      last : (x : V) → g ≡ x → x.is_seat ≡ true → x.number ≡ r.seats
      last x e stands = ap (λ (y : V). y.number) (sym e) ∙ fresh (ap (λ (y : V). y.is_seat) e ∙ stands)

  -- *split*
  pub splits : (id : ℕ) (v : V) (t : ℕ) → v.caller ≡ Holding t → v.seats < most → Splits R id v (host v) (guest v)
  splits id v t holding room s r at = let so = sound s r in let f = subst (FitsNumbers r.next r.serving) holding (fits s r id v at) in let mine = r.each_seat id v at in let h = mine.holds t holding in let seat = seat_at s r id v (Holding t) at holding (idle_not t) in
      let out : s.homes ≡ none ∷ [] = h.2 in
      grows s r id v (host v) (guest v) (r.seats + 1) at refl refl refl refl (λ _. h.1) (omega arith) (let z = h.1 in omega arith)
      (inr (out, (id, t, host v, at_longer (set s.views id (host v)) (guest v ∷ []) id (host v) (set_there s.views id (host v) v at), holding)))
      record { number = (let z = mine.number in omega arith); made_with = mine.made_with; saw = mine.saw; met = mine.met; teller = (let z = mine.teller in omega arith); own = mine.own; own_seen = mine.own_seen; last = mine.last; counts = (let z = h.1 in omega arith); alone = λ _ e. (let z = h.1 in omega arith); acts = inr seat; holds = λ q e. (h.0, ap (λ (k : ℕ). k + 1) h.1, out) }
      record {
        number = (let z = h.1 in omega arith);
        made_with = λ _. mine.made_with seat;
        saw = mine.saw;
        met = (r.history, refl);
        teller = omega arith;
        own = λ _. r.no_others v.seats (let e = h.1 in omega arith);
        own_seen = ap (notes_of writer v.seats) h.0 ∙ r.no_others v.seats (let e = h.1 in omega arith);
        last = omega arith;
        counts = (let e = h.1 in omega arith);
        alone = λ _ q. (let e = h.1 in omega arith);
        acts = inl refl;
        holds = λ q e. absurd (idle_not q e);
      }
      (λ j u other there. let o = r.each_seat j u there in record {
        number = (let z = o.number in omega arith);
        made_with = o.made_with;
        saw = o.saw;
        met = o.met;
        teller = (let z = o.teller in omega arith);
        own = o.own;
        own_seen = o.own_seen;
        last = o.last;
        counts = (let z = o.counts in omega arith);
        alone = λ stands e. (let a = o.alone stands e in let b = o.number in let d = mine.number in let same : u.number ≡ v.number = omega arith in absurd (other (r.apart j id u v there at stands seat same)));
        acts = o.acts;
        holds = λ q e. let g = subst (FitsNumbers r.next r.serving) e (so.each j u.caller (at_map caller s.views j u there)) in let same : ticket u.caller ≡ ticket v.caller = ap ticket e ∙ (let z : q + 1 ≡ t + 1 = omega arith in z) ∙ sym (ap ticket holding) in
            absurd (other (so.apart j id u.caller v.caller (at_map caller s.views j u there) (at_map caller s.views id v at) (subst (λ (c : Caller). 0 < ticket c) (sym e) (omega arith)) same));
      })

  -- a seat's message has seen what the seat had
  pub tells : (id : ℕ) (v : V) → Splits R id v v (message v)
  tells id v s r at = let mine = r.each_seat id v at in
      grows s r id v v (message v) r.seats at refl refl refl refl (λ e. absurd (not_true e)) (omega arith) r.few
      (⊎_elim (λ (z : (x : Case S) × (s.homes ≡ some (Some x) ∷ []) × Agrees fixed_of suits fixed r.history r.seats x). inl z)
      (λ (z : (s.homes ≡ none ∷ []) × ((i : ℕ) × (t : ℕ) × (u : V) × (get_elem? s.views i ≡ some u) × (u.caller ≡ Holding t))). let h = z.1 in
      inr (z.0, (h.0, h.1, h.2, at_longer (set s.views id v) (message v ∷ []) h.0 h.2 (ap (λ (l : List V). get_elem? l h.0) (set_again s.views id v at) ∙ h.3), h.4))) r.place)
      mine
      record { number = mine.number; made_with = λ e. absurd (not_true e); saw = mine.saw; met = mine.met; teller = mine.teller; own = λ e. absurd (not_true e); own_seen = mine.own_seen; last = mine.last; counts = mine.counts; alone = λ e. absurd (not_true e); acts = inl refl; holds = λ q e. absurd (idle_not q e) }
      (λ j u _ there. r.each_seat j u there)

  -- one view changes, and neither its caller nor its number
  changes : (s : St) (r : R s) (id : ℕ) (v w : V) → get_elem? s.views id ≡ some v → (w.is_seat ≡ true → w.number ≡ v.number) → w.is_seat ≡ v.is_seat → w.caller ≡ v.caller → KnowsAt r.history r.serving r.seats (s.homes ≡ none ∷ []) w
      → R record { words = s.words; homes = s.homes; views = set s.views id w }
  changes s r id v w at number seat same mine = record {
    history = r.history;
    next = r.next;
    serving = r.serving;
    seats = r.seats;
    words = r.words;
    reached = subst (λ (l : List Caller). Reached first record { next = r.next; serving = r.serving; callers = l })
        (sym (map-set caller s.views id w ∙ set_again (map caller s.views) id w.caller (at_map caller s.views id v at ∙ ap some (sym same)))) r.reached;
    place = ⊎_elim (λ (z : (x : Case S) × (s.homes ≡ some (Some x) ∷ []) × Agrees fixed_of suits fixed r.history r.seats x). inl z)
        (λ (z : (s.homes ≡ none ∷ []) × ((i : ℕ) × (t : ℕ) × (u : V) × (get_elem? s.views i ≡ some u) × (u.caller ≡ Holding t))). let h = z.1 in
        dite (ℕ_discrete h.0 id)
        (λ here. inr (z.0, (id, h.1, w, set_there s.views id w v at, same ∙ ap caller (some-injective v h.2 (sym at ∙ ap (get_elem? s.views) (sym here) ∙ h.3)) ∙ h.4)))
        (λ else. inr (z.0, (h.0, h.1, h.2, set_else s.views id h.0 w else ∙ h.3, h.4)))) r.place;
    each_seat = λ j u there. ⊎_elim (λ (z : (j ≡ id) × (w ≡ u)). subst (KnowsAt r.history r.serving r.seats (s.homes ≡ none ∷ [])) z.1 mine)
        (λ (z : (j ≢ id) × (get_elem? s.views j ≡ some u)). r.each_seat j u z.1) (at_set s.views id j w u there);
    apart = still_apart s r id v w at number seat;
    no_others = r.no_others;
    low = r.low;
    few = r.few;
  }

  -- a message is gone
  goes : (s : St) (r : R s) (other : ℕ) (w : V) (some_fixed : F) → w.is_seat ≡ false → w.caller ≡ Idle → get_elem? s.views other ≡ some w → R record { words = s.words; homes = s.homes; views = set s.views other (gone some_fixed) }
  goes s r other w some_fixed sent idle there = let its = r.each_seat other w there in
      changes s r other w (gone some_fixed) there (λ e. absurd (not_true e)) (sym sent) (sym idle)
      record { number = (let z = its.number in omega arith); made_with = λ e. absurd (not_true e); saw = (r.history, refl); met = (r.history, refl); teller = (let z = its.number in omega arith); own = λ e. absurd (not_true e); own_seen = refl; last = omega arith; counts = omega arith; alone = λ e. absurd (not_true e); acts = inl refl; holds = λ q e. absurd (idle_not q e) }

  -- a seat takes a message in
  pub meets : (id other : ℕ) (v w : V) (some_fixed : F) → w.is_seat ≡ false → w.caller ≡ Idle → Joins R id v other w (meeting v w) (gone some_fixed)
  meets id other v w some_fixed sent idle s r at apart there =
      let mine = r.each_seat id v at in
      let its = r.each_seat other w (sym (set_else s.views id other (meeting v w) apart) ∙ there) in
      let s' : St = record { words = s.words; homes = s.homes; views = set s.views id (meeting v w) } in
      let r' : R s' = changes s r id v (meeting v w) at (λ _. refl) refl refl
      record { number = mine.number; made_with = mine.made_with; saw = mine.saw; met = its.saw; teller = its.number; own = mine.own; own_seen = mine.own_seen; last = mine.last; counts = mine.counts; alone = mine.alone; acts = mine.acts; holds = mine.holds } in
      goes s' r' other w some_fixed sent idle there

  -- *compare*
  pub compares : (n id : ℕ) (me : M) → Allows R n id me 0 (λ x. x) (compared (step n 0 0 0 none) me)
  compares n id me s r wide at _ = let x : ℕ = get_or s.words 0 0 in let mine = r.each_seat id me.0 at in
      let words_is : set s.words 0 x ≡ s.words = set_0 s r x ∙ ap (λ (k : ℕ). k ∷ r.serving ∷ []) (word_0 s r) ∙ sym r.words in (
        me.0,
        keeps,
        tt,
        subst (λ (z : List ℕ × List V). R record { words = z.0; homes = s.homes; views = z.1 }) (λ k. (sym words_is k, sym (set_again s.views id me.0 at) k)) r,
        (refl, begins_other me.0.met me.0.seen mine.met.0 mine.saw.0 (mine.met.1 ∙ sym mine.saw.1), λ t h. (subst (IsPrefix me.0.met) (sym (mine.holds t h).0) mine.met, (let z = (mine.holds t h).1 in let y = mine.teller in omega arith))),
      )

  -- what the value that a finished lock gives back agrees with
  abbrev pub Ended : V → S → Type 0
  Ended v x = (h : List N) × IsPrefix v.seen h × (notes_of writer v.number h ≡ v.mine) × suits x h × (fixed_of x ≡ fixed)

  -- *close*: where every ticket drawn was served, the value is at home
  pub ends : (id : ℕ) (v : V) (words : List ℕ) (slots : List (Option (Case S))) (n : ℕ) → Final (Seen R id v) words slots → get_elem? words 0 ≡ some n → get_elem? words 1 ≡ some n → v.is_seat ≡ true → (x : Case S) × (get_elem? slots 0 ≡ some (Some x)) × Ended v x.value.value
  ends id v words slots n final a b seat = let s = final.0 in let r = final.1.0 in let at = final.1.1 in let so = sound s r in
      let na : r.next ≡ n = some-injective r.next n (sym (ap (λ (l : List ℕ). get_elem? l 0) (sym final.2 ∙ r.words)) ∙ a) in
      let nb : r.serving ≡ n = some-injective r.serving n (sym (ap (λ (l : List ℕ). get_elem? l 1) (sym final.2 ∙ r.words)) ∙ b) in
      let home = at_home s r (λ i t u there e. let g = subst (FitsNumbers r.next r.serving) e (so.each i u.caller (at_map caller s.views i u there)) in omega arith) in
      (home.0, final.4 0 (Some home.0) (ap (λ (l : List (maybe.Option (Option (Case S)))). get_elem? l 0) home.1), (r.history, (r.each_seat id v at).saw, (r.each_seat id v at).own seat, home.2.agrees, home.2.fixed_is))
