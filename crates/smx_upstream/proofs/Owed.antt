-- No more answers go out than messages were put into boxes.
use Rattle.std.proofs.Common.{◌≡◌, ◌≤◌, ◌+◌, ◌==◌, ◌&&◌, ℕ, Bool, true, false, cond, List, [], ◌∷◌, ◌++◌, Option, Some, None, Result, Ok, Err, count_by, refl, sym, ap, subst, arith, suc, ◌∙◌}
use mathlib.Core.List.{IsPrefix}
use Rattle.std.proofs.lemmas.List.Sums.{sum_by-cons, sum_by-append, sum_by-set}
use Rattle.std.proofs.lemmas.List.{set-get_or}
use Rattle.std.proofs.lemmas.Option.{get_or_from_slice_get, slice_get_within}
use Rattle.std.specs.List.{slice_get, sum_by}
use Rattle.std.specs.Option.{option_map}
use Rattle.std.proofs.Math.ListN.{set}
use Rattle.smx_pdu.specs.declared.pdu.Pdu.{Pdu}
use Rattle.smx_pdu.specs.Command.{is_response_to}
use Rattle.smx_box.specs.declared.fault.Spent.{Spent}
use Rattle.smx_box.specs.declared.receiver.Got.{Got}
use Rattle.smx_box.specs.declared.receiver.Got.TheVariants as got
use Rattle.smx_routes.specs.declared.mo_window.Waiting.{Waiting}
use Rattle.smx_routes.specs.Window.{Window, message_for, without}
use Rattle.smx_turns.specs.Runs.{Runs}
use Rattle.smx_upstream.specs.declared.event.Event.{Event}
use Rattle.smx_upstream.specs.declared.event.Event.TheVariants as event
use Rattle.smx_upstream.specs.declared.event.Fate.{Fate}
use Rattle.smx_upstream.specs.declared.event.Fate.TheVariants as fate
use Rattle.smx_upstream.specs.Events.{got_out}
use Rattle.smx_upstream.specs.Standing.{Stand, Does, Settles, Owes, HoldNone, AreEmptied, emptied}
use Rattle.smx_upstream.specs.Owing.{answer_by, put_message, message_by, answers, messages, is_such, Suits, AreOwn}

both : (a b : Bool) → (a && b) ≡ true → (a ≡ true) × (b ≡ true)
both true true h = (refl, refl)
both true false h = cc
both false b h = cc

module _ (answer message : ℕ → ℕ → Bool) (suits : Suits answer message) where
  abbrev is_owed : Waiting → Bool
  is_owed w = message w.number w.command

  abbrev owes : List Waiting → ℕ
  owes ws = count_by is_owed ws

  abbrev sent : List Pdu → ℕ
  sent ps = count_by (is_such answer) ps

  abbrev asked : List Pdu → ℕ
  asked ps = count_by (is_such message) ps

  more : (w : Waiting) (ws : List Waiting) → owes (w ∷ ws) ≡ cond (is_owed w) 1 0 + owes ws
  more w ws = sum_by-cons (λ (v : Waiting). cond (is_owed v) 1 0) w ws

  -- what is left is no more
  fewer : (given : ℕ) (ws : List Waiting) → owes (without given ws) ≤ owes ws
  fewer given [] = omega arith
  fewer given (w ∷ ws) = at (w.given == given) refl (fewer given ws)
    where
      at : (b : Bool) → (w.given == given) ≡ b → owes (without given ws) ≤ owes ws → owes (without given (w ∷ ws)) ≤ owes (w ∷ ws)
      at true e rest = rw e (omega (arith, rest, more w ws))
      at false e rest = rw e (omega (arith, rest, more w ws, more w (without given ws)))

  -- such an answer is one to such a message
  such_one : (b c : Bool) → (b ≡ true → c ≡ true) → cond b 1 0 ≤ cond c 1 0
  such_one false c so = omega arith
  such_one true c so = rw (so refl) (omega arith)

  settled_at : (given command : ℕ) (m w : Waiting) (ws : List Waiting) (b : Bool) → ((w.given == given) && is_response_to w.command command) ≡ b
      → (message_for given command ws ≡ Some m → cond (answer m.number command) 1 0 + owes (without given ws) ≤ owes ws)
      → cond b (Some w) (message_for given command ws) ≡ Some m
      → cond (answer m.number command) 1 0 + owes (without given (w ∷ ws)) ≤ owes (w ∷ ws)
  settled_at given command m w ws true e later is =
      let same : w ≡ m = cc in
      let here = both (w.given == given) (is_response_to w.command command) e in
      let mine = such_one (answer w.number command) (message w.number w.command) (suits w.number w.command command here.1) in
      subst (λ (v : Waiting). cond (answer v.number command) 1 0 + owes (without given (w ∷ ws)) ≤ owes (w ∷ ws)) same
      (rw here.0 (omega (arith, fewer given ws, more w ws, mine)))
  settled_at given command m w ws false e later is = at (w.given == given) refl
    where
      at : (b : Bool) → (w.given == given) ≡ b → cond (answer m.number command) 1 0 + owes (without given (w ∷ ws)) ≤ owes (w ∷ ws)
      at true f = rw f (omega (arith, later is, more w ws))
      at false f = rw f (omega (arith, later is, more w ws, more w (without given ws)))

  -- the message that is settled was owed
  settled : (given command : ℕ) (m : Waiting) (ws : List Waiting) → message_for given command ws ≡ Some m → cond (answer m.number command) 1 0 + owes (without given ws) ≤ owes ws
  settled given command m [] is = cc
  settled given command m (w ∷ ws) is = settled_at given command m w ws ((w.given == given) && is_response_to w.command command) refl (settled given command m ws) is

  abbrev all_owe : List Window → ℕ
  all_owe ws = sum_by (λ w. owes w.waiting) ws

  kept : (ws ws' : List Window) → ws' ≡ ws → sent [] + all_owe ws' ≤ asked [] + all_owe ws
  kept ws ws' same = omega (arith, ap all_owe same)

  -- one window changed
  at_slot : (k : ℕ) (ws ws' : List Window) (x y : Window) → slice_get ws k ≡ Some x → ws' ≡ set ws k y → all_owe ws' + owes x.waiting ≡ all_owe ws + owes y.waiting
  at_slot k ws ws' x y at is = ap (λ (l : List Window). all_owe l + owes x.waiting) is
      ∙ ap (λ (v : Window). all_owe (set ws k y) + owes v.waiting) (sym (get_or_from_slice_get ws k x x at)) ∙ sum_by-set (λ (w : Window). owes w.waiting) ws k y x (slice_get_within ws k x at)

  none_owe : (ws : List Window) → HoldNone ws → all_owe ws ≡ 0
  none_owe [] none = refl
  none_owe (w ∷ ws) none = omega (arith, sum_by-cons (λ (v : Window). owes v.waiting) w ws, ap owes (none 0 w refl), none_owe ws (λ k v at. none (suc k) v at))

  fate_owes : (lane : ℕ) (p : Pdu) (f : Fate) (w w' : List Window) → Owes lane p f w w' → sent [] + all_owe w' ≤ asked (put_message p f) + all_owe w
  fate_owes lane p fate.Own w w' o = kept w w' o
  fate_owes lane p (fate.Up rise) w w' o = kept w w' o
  fate_owes lane p (fate.Lane at r) w w' o = kept w w' o
  fate_owes lane p fate.LaneSpent w w' o = kept w w' o
  fate_owes lane p fate.Unread w w' o = kept w w' o
  fate_owes lane p (fate.Unrouted found) w w' o = kept w w' o
  fate_owes lane p (fate.Put place n given full) w w' o =
      omega (
        arith,
        at_slot place.slot w w' o.0 o.1 o.2 o.3,
        ap (λ (x : Window). owes x.waiting) o.4.1,
        sum_by-append (λ (v : Waiting). cond (is_owed v) 1 0) o.0.waiting (record { given = given; lane = lane; number = p.number; command = p.command; since = 0 } ∷ []),
        more (record { given = given; lane = lane; number = p.number; command = p.command; since = 0 }) [],
        sum_by-cons (λ (q : Pdu). cond (is_such message q) 1 0) p [],
      )
  fate_owes lane p (fate.Full place) w w' o = kept w w' o
  fate_owes lane p (fate.Crowded place) w w' o = kept w w' o.1
  fate_owes lane p (fate.BoxSpent place) w w' o = kept w w' o

  got_owes : (r : Result (Got Pdu) Spent) (under : Option ℕ) (w w' : List Window) → Settles r under w w' → sent (got_out r under) + all_owe w' ≤ asked [] + all_owe w
  got_owes (Ok (got.Item k n p)) (Some under) w w' a =
      omega (
        arith,
        at_slot k w w' a.0 a.1 a.2 a.3,
        settled p.number p.command a.4.0 a.0.waiting a.4.1,
        ap (λ (x : Window). owes x.waiting) a.4.3,
        sum_by-cons (λ (q : Pdu). cond (is_such answer q) 1 0) (record p { number = under }) [],
        ap {B = ℕ} (λ (x : ℕ). cond (answer x p.command) 1 0) a.4.2,
      )
  got_owes (Ok (got.Item k n p)) None w w' a = kept w w' a.1
  got_owes (Ok (got.Shut k)) under w w' a = kept w w' a.1
  got_owes (Ok got.Empty) under w w' a = kept w w' a.1
  got_owes (Err e) under w w' a = kept w w' a.1

  step : (s t : Stand) (e : Event) → Does s e t → sent (answer_by e) + all_owe t.owed ≤ asked (message_by e) + all_owe s.owed
  step s t (event.Began p) d = kept s.owed t.owed (ap (λ x. x.owed) d.1)
  step s t (event.Opened n) d = kept s.owed t.owed (ap (λ x. x.owed) d.1)
  step s t (event.Looked now due left silent) d = kept s.owed t.owed (ap (λ x. x.owed) d.2)
  step s t (event.Judged silent) d = kept s.owed t.owed (ap (λ x. x.owed) d.1)
  step s t (event.Expired lane span r) d = kept s.owed t.owed (ap (λ x. x.owed) d.3)
  step s t (event.Shifted least r) d = kept s.owed t.owed (ap (λ x. x.owed) d.3)
  step s t (event.Sought r under) d = got_owes r.value under s.owed t.owed d.1
  step s t (event.Decided p now a f) d = fate_owes s.tap.lane p.value f s.owed t.owed d.2
  step s t (event.Brought ps now lane r) d = kept s.owed t.owed (ap (λ x. x.owed) d.4)
  step s t (event.Took r) d = kept s.owed t.owed (ap (λ x. x.owed) d.3)
  step s t event.Broke d = kept s.owed t.owed (ap (λ x. x.owed) d)
  step s t event.LinkEnded d = kept s.owed t.owed (ap (λ x. x.owed) d)
  step s t (event.Unbound p) d = kept s.owed t.owed (ap (λ x. x.owed) d.1)
  step s t (event.GaveUp given) d = kept s.owed t.owed (ap (λ x. x.owed) d.4)

  steps : (s t : Stand) (es : List Event) → Runs Does s es t → sent (answers es) + all_owe t.owed ≤ asked (messages es) + all_owe s.owed
  unfolding Runs answers messages
  steps s t [] r = kept s.owed t.owed (ap (λ x. x.owed) r)
  steps s t (e ∷ es) r = omega (
    arith,
    step s r.0 e r.1,
    steps r.0 t es r.2,
    sum_by-append (λ (q : Pdu). cond (is_such answer q) 1 0) (answer_by e) (answers es),
    sum_by-append (λ (q : Pdu). cond (is_such message q) 1 0) (message_by e) (messages es),
  )

-- a front of a chain is one
front_runs : (s t : Stand) (es fs : List Event) → Runs Does s (es ++ fs) t → (u : Stand) × Runs Does s es u
unfolding Runs
front_runs s t [] fs r = (s, refl)
front_runs s t (e ∷ es) fs r = let rest = front_runs r.0 t es fs r.2 in (rest.0, (r.0, r.1, rest.1))

pub own : (s t : Stand) (es : List Event) → HoldNone s.owed → Runs Does s es t → (front : List Event) → IsPrefix front es → AreOwn front
own s t es none r front p = λ answer message suits.
    let u = front_runs s t front p.0 (subst (λ (l : List Event). Runs Does s l t) (sym p.1) r) in
    omega (arith, steps answer message suits s u.0 front u.1, none_owe answer message suits s.owed none)

emptied_at : (o : Option Window) (w : Window) → option_map emptied o ≡ Some w → w.waiting ≡ []
emptied_at None w is = cc
emptied_at (Some v) w is = let same : emptied v ≡ w = cc in sym (ap (λ (x : Window). x.waiting) same)

-- none is held after all was let go
pub emptied_none : (ws ws' : List Window) → AreEmptied ws ws' → HoldNone ws'
emptied_none ws ws' e k w at = emptied_at (slice_get ws k) w (sym (e k) ∙ at)

-- a window that stays leaves all as they are
pub set_same : (ws : List Window) (k : ℕ) (x : Window) → slice_get ws k ≡ Some x → set ws k x ≡ ws
set_same ws k x at = ap (set ws k) (sym (get_or_from_slice_get ws k x x at)) ∙ set-get_or ws k x
