-- What an event of a worker is worth: what it decided and sends, whom it tells, what it asks, and what it ends.
use Rattle.std.specs.Prelude.{◌≡◌, Bool, true, false, is_none, List, [], ◌∷◌, Option, Some, None}
use Rattle.std.specs.List.{flat_map, list_any}
use Rattle.smx_pdu.specs.declared.pdu.Pdu.{Pdu}
use Rattle.smx_turns.specs.declared.end.End.{End}
use Rattle.smx_turns.specs.declared.gate.Party.{Party}
use Rattle.smx_turns.specs.declared.directory.Query.{Query}
use Rattle.smx_turns.specs.declared.outcome.Outcome.{Outcome}

abbrev pub those : {A : Type 0} → Option A → List A
those (Some x) = x ∷ []
those None = []

pub record Worth : Type 0 where
  -- the PDUs that it decided, those apart that still wait
  pub decided : List Pdu
  -- the PDUs that it sends
  pub said : List Pdu
  -- whom the gate is told of
  pub tells : List Party
  -- what the directory is asked
  pub finds : List Query
  -- whether nothing came of it
  pub quiet : Bool
  -- how it ended the work, where nothing is decided after it
  pub ends : Option End
  -- whether it answered a bad length
  pub breaks : Bool
  -- whether a lane or a box took no more calls
  pub spent : Bool

-- nothing came of it
abbrev pub no_worth : Worth
no_worth = record { decided = []; said = []; tells = []; finds = []; quiet = true; ends = None; breaks = false; spent = false }

-- nothing came of it, since a lane or a box takes no more calls
abbrev pub spent_worth : Worth
spent_worth = record no_worth { spent = true }

-- it sends a PDU, where there is one
abbrev pub says : Option Pdu → Worth
says o = record no_worth { said = those o; quiet = is_none o }

-- what a worker holds of an event is what it is worth
abbrev pub IsWorth : {E A : Type 0} → Outcome E A → Worth → Type 0
IsWorth o w = (w.said ≡ those o.sent) × (o.quiet ≡ w.quiet) × (o.ends ≡ w.ends)

module _ {E : Type 0} (worth : E → Worth) where
  -- In: the PDUs that these events decided
  unfoldable pub ins : List E → List Pdu
  ins es = flat_map (λ e. (worth e).decided) es

  -- Out: the PDUs that they send
  unfoldable pub outs : List E → List Pdu
  outs es = flat_map (λ e. (worth e).said) es

  -- whom the gate is told of
  unfoldable pub tells : List E → List Party
  tells es = flat_map (λ e. (worth e).tells) es

  -- whether one of them answered a bad length
  unfoldable pub has_broken : List E → Bool
  has_broken es = list_any (λ e. (worth e).breaks) es
