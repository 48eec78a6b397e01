-- What a mailbox that is sent from keeps.
use Rattle.std.proofs.Common.{◌≡◌, ◌∷◌, ℕ, List, [], Option, Some, Result, Ok, Err, subst, OnOk, OnErr, length, refl, ap, ◌∙◌, inl, inr}
use Rattle.std.proofs.lemmas.Bool.{cases_lt, le-leb, lt-leb}
use Rattle.smx_routes.specs.Window.{Window}
use Rattle.smx_mailbox.specs.declared.message.Message.{Message}
use Rattle.smx_mailbox.specs.Mailbox.{Mailbox, with_given, after_sent}
use Rattle.smx_lines.specs.Private.Inboxes.{made_or_empty}

after_sent-places : (w : Window) (ms : List Message) → (after_sent w ms).window.places ≡ w.places
after_sent-places w [] = refl
after_sent-places w (m ∷ ms) =
    elim (cases_lt (length w.waiting) w.places) [
      | inl room ↦ rw (lt-leb w.places (length w.waiting) room) (after_sent-places (with_given w m) ms)
      | inr full ↦ rw (le-leb w.places (length w.waiting) full) refl
    ]

pub sent-places : {X E : Type 0} (r : Result X E) (old new : Mailbox) → OnOk r (new ≡ after_sent old.window old.waiting) → OnErr r (new ≡ old) → new.window.places ≡ old.window.places
sent-places (Ok x) old new after same = ap (λ (m : Mailbox). m.window.places) after ∙ after_sent-places old.window old.waiting
sent-places (Err e) old new after same = ap (λ (m : Mailbox). m.window.places) same

pub made-places : (places last : ℕ) (o : Option Mailbox) (m : Mailbox) → o ≡ Some m → (made_or_empty places last o).window.places ≡ places → m.window.places ≡ places
made-places places last o m is kept = subst (λ (x : Option Mailbox). (made_or_empty places last x).window.places ≡ places) is kept
