-- What is said over a wire, and what is still to be done then.
use Rattle.std.specs.Prelude.{◌≡◌, ◌++◌, ℕ, List, []}
use Rattle.smx_pdu.specs.declared.pdu.Pdu.{Pdu}
use Rattle.smx_link.specs.Wiring.{Wiring, spellings}
use Rattle.smx_session.specs.declared.act.Act.{Act}
use Rattle.smx_session.specs.declared.act.Act.TheVariants as act
use Rattle.smx_client.specs.declared.event.Verdict.{Verdict}
use Rattle.smx_client.specs.declared.event.Verdict.TheVariants.{Next, Settle, Bound, Over}

-- these PDUs were said, and nothing else happened but that the room shrank
pub record Spoke {L : Type 0} (old new : Wiring L) (ps : List Pdu) : Type 0 where
  pub said : new.said ≡ old.said ++ ps
  pub unsent : new.unsent ≡ old.unsent ++ spellings ps
  pub same : new ≡ record old { said = new.said; unsent = new.unsent; room = new.room }

-- a request, as far as its refusal depends on it
abbrev pub asked_of : ℕ → ℕ → Pdu
asked_of command number = record { command = command; status = 0; number = number; body = [] }

-- a request was never decided by the session alone
abbrev pub IsVerdict : Act → Verdict → Type 0
IsVerdict act.Forward v = ⊥
IsVerdict (act.MoAnswer n) v = v ≡ Settle
IsVerdict (act.Bind k i p) v = v ≡ Bound k i
IsVerdict (act.Refuse p) v = v ≡ Next
IsVerdict (act.Leave p) v = v ≡ Over
IsVerdict (act.Hangup p) v = v ≡ Over
IsVerdict act.Closed v = v ≡ Over
IsVerdict (act.Answer p) v = v ≡ Next
IsVerdict act.Ignore v = v ≡ Next
