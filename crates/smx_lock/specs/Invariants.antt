-- What a seat and a hold keep, as their invariants. No contract of a public function cites it.
use Rattle.std.specs.Prelude.{◌≡◌, ℕ, ◌<◌, ◌≤◌, ◌⊎◌, Bool, true, false, [], ◌∷◌, None}
use Rattle.smx_ticket_core.specs.declared.callers.Caller.{Caller}
use Rattle.smx_ticket_core.specs.declared.callers.Caller.TheVariants.{Idle, Read, Saw, Holding}
use Rattle.smx_ticket_core.specs.Machine.{most}
use Rattle.smx_lock.specs.Notes.{notes_of}
use Rattle.smx_lock.specs.Rule.{Seated}

-- between two calls a caller is Idle, or it read that every ticket was drawn
abbrev pub is_free : Bool → Caller → Type 0
is_free false c = c ≡ Idle
is_free true c = (c ≡ Read most) ⊎ (c ≡ Saw most)

module _ {S N F : Type 0} where
  -- no slot is with a free seat
  pub record IsFree (writer : N → ℕ) (me : Seated S N F) (number : ℕ) (spent : Bool) : Type 0 where
    pub number_is : number ≡ me.0.number
    pub empty : me.1 ≡ []
    pub caller : is_free spent me.0.caller
    pub stands : me.0.is_seat ≡ true
    pub own : notes_of writer me.0.number me.0.seen ≡ me.0.mine

  -- the slot is with the seat, and empty
  pub record IsHold (writer : N → ℕ) (me : Seated S N F) (number t seats : ℕ) : Type 0 where
    pub number_is : number ≡ me.0.number
    pub slot : me.1 ≡ (0, None) ∷ []
    pub caller : me.0.caller ≡ Holding t
    pub stands : me.0.is_seat ≡ true
    pub below : t < most
    pub seats_is : seats ≡ me.0.seats
    pub some_seat : me.0.number < seats
    pub few : seats ≤ most
    pub no_others : (k : ℕ) → seats ≤ k → notes_of writer k me.0.seen ≡ []
    pub own : notes_of writer me.0.number me.0.seen ≡ me.0.mine
