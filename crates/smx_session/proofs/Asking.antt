-- What asks for leave is no response.
use Rattle.std.proofs.Common.{◌≡◌, ℕ, ◌<◌, ◌≤◌, List, Option, Some, None, refl, ◌∙◌, ap, arith, inl, inr}
use Rattle.std.specs.Prelude.{◌⊎◌}
use Rattle.std.proofs.lemmas.Bool.{cases_lt}
use Rattle.smx_pdu.specs.declared.pdu.Pdu.{Pdu}
use Rattle.smx_pdu.specs.declared.command.TheConstants.{RESPONSE}
use Rattle.smx_session.specs.Login.{Login}
use Rattle.smx_session.specs.declared.ask.Ask.{Ask}
use Rattle.smx_session.specs.declared.client_row.ClientRow.{ClientRow}
use Rattle.smx_session.specs.declared.client_row.ClientRow.TheVariants as row
use Rattle.smx_session.specs.declared.client_state.ClientState.{ClientState}
use Rattle.smx_session.specs.declared.client_state.ClientState.TheVariants.{Opened, BoundTx, BoundRx, BoundTrx, Unbinding, Ended}
use Rattle.smx_session.specs.ClientTable.{client_cell, client_row}
use Rattle.smx_session.specs.ClientAsks.{cell_asks, client_asks}

module _ (accounts : List Login) (account : Option ℕ) (p : Pdu) where
  message_asks : (s : ClientState) → cell_asks (client_cell row.MessageAnswer s) accounts account p ≡ None
  message_asks Opened = refl
  message_asks BoundTx = refl
  message_asks BoundRx = refl
  message_asks BoundTrx = refl
  message_asks Unbinding = refl
  message_asks Ended = refl

  unbind_asks : (s : ClientState) → cell_asks (client_cell row.UnbindAnswer s) accounts account p ≡ None
  unbind_asks Opened = refl
  unbind_asks BoundTx = refl
  unbind_asks BoundRx = refl
  unbind_asks BoundTrx = refl
  unbind_asks Unbinding = refl
  unbind_asks Ended = refl

  other_asks : (s : ClientState) → cell_asks (client_cell row.OtherResponse s) accounts account p ≡ None
  other_asks Opened = refl
  other_asks BoundTx = refl
  other_asks BoundRx = refl
  other_asks BoundTrx = refl
  other_asks Unbinding = refl
  other_asks Ended = refl

-- a response's row
response_row : (command : ℕ) → RESPONSE ≤ command → (client_row command ≡ row.MessageAnswer) ⊎ ((client_row command ≡ row.UnbindAnswer) ⊎ (client_row command ≡ row.OtherResponse))
response_row command high = grind (arith, high)

asked_row : (accounts : List Login) (account : Option ℕ) (s : ClientState) (p : Pdu) (r : ClientRow) (ask : Ask) → (r ≡ row.MessageAnswer) ⊎ ((r ≡ row.UnbindAnswer) ⊎ (r ≡ row.OtherResponse)) → cell_asks (client_cell r s) accounts account p ≡ Some ask → ⊥
asked_row accounts account s p r ask (inl is) asks = let none = ap (λ x. cell_asks (client_cell x s) accounts account p) is ∙ message_asks accounts account p s in absurd (cc)
asked_row accounts account s p r ask (inr (inl is)) asks = let none = ap (λ x. cell_asks (client_cell x s) accounts account p) is ∙ unbind_asks accounts account p s in absurd (cc)
asked_row accounts account s p r ask (inr (inr is)) asks = let none = ap (λ x. cell_asks (client_cell x s) accounts account p) is ∙ other_asks accounts account p s in absurd (cc)

-- what asks for leave is a request
pub asked_below : (accounts : List Login) (account : Option ℕ) (s : ClientState) (p : Pdu) (ask : Ask) → client_asks accounts account s p ≡ Some ask → p.command < RESPONSE
asked_below accounts account s p ask asks = below (cases_lt p.command RESPONSE)
  where
    below : (p.command < RESPONSE) ⊎ (RESPONSE ≤ p.command) → p.command < RESPONSE
    below (inl low) = low
    below (inr high) = absurd (asked_row accounts account s p (client_row p.command) ask (response_row p.command high) asks)
