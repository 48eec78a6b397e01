-- What a port keeps.
use Rattle.std.specs.Prelude.{◌≡◌, ℕ, ◌+◌, ◌≤◌, ◌<◌, ◌^◌, true, false, List, length, slice_get, Some}
use Rattle.std.specs.List.{AllByRecursion}
use Rattle.smx_lock.specs.Fronts.{Front}
use Rattle.smx_history.specs.declared.limits.Limits.{Limits}
use Rattle.smx_history.specs.declared.note.Note.{Note}
use Rattle.smx_history.specs.History.{entries_of, requests}
use Rattle.smx_history.specs.Entries.{is_admitted, is_retired}
use Rattle.smx_shared.specs.Views.{PortView}
use Rattle.smx_shared.specs.Offers.{Accepted, requests_on}

-- in the seat's own notes the client was admitted, and has not retired
pub record IsMemberBy (c : ℕ) (f : Front Note Limits) : Type 0 where
  pub admitted : is_admitted f.number c (entries_of f.mine) ≡ true
  pub stays : is_retired c (entries_of f.mine) ≡ false

-- These are the port's accepts, in order, over all its lanes: they bear the ordinals from its first on, one each and no other, and each stands in the
-- port's own notes on the lane named and on no other.
pub record HasAccepted (v : PortView) (all : List Accepted) : Type 0 where
  pub count : v.first + length all ≡ v.next
  pub lanes : AllByRecursion (λ a. a.lane < length v.fronts) all
  pub each : (k : ℕ) (f : Front Note Limits) → slice_get v.fronts k ≡ Some f → requests f.mine ≡ requests_on k v.client v.first all

pub record IsPort (v : PortView) : Type 0 where
  pub lanes : (0 < length v.fronts) × (length v.fronts ≤ 16)
  pub ordinals : (0 < v.first) × (v.next ≤ 2 ^ 62 + 1)
  pub member : (k : ℕ) (f : Front Note Limits) → slice_get v.fronts k ≡ Some f → IsMemberBy v.client f
  pub accepts : (all : List Accepted) × HasAccepted v all
