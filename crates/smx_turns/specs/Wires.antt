-- What a worker's wire tells: whether its link has ended, whether octets wait, and whether a bad length was met.
use Rattle.std.specs.Prelude.{◌≡◌, ℕ, Bool, true, false, List, [], ◌∷◌, IsSome, Result, Ok, Err}
use Rattle.smx_frame.specs.Stream.{fault_at}
use Rattle.smx_link.specs.Wiring.{Wiring}
use Rattle.smx_link.specs.declared.link.Polled.{Polled}
use Rattle.smx_link.specs.declared.link.Polled.TheVariants.{Octets, Nothing, End}
use Rattle.smx_link.specs.declared.link.LinkFault.{LinkFault}

-- whether the link has ended
abbrev pub is_end : Polled → Bool
is_end (Octets n) = false
is_end Nothing = false
is_end End = true

abbrev pub answers_end : Result Polled LinkFault → Bool
answers_end (Ok polled) = is_end polled
answers_end (Err e) = false

-- whether the last of these reads answered that it has
unfoldable pub has_ended : List (Result Polled LinkFault) → Bool
has_ended [] = false
has_ended (r ∷ []) = answers_end r
has_ended (r ∷ s ∷ rs) = has_ended (s ∷ rs)

-- whether octets wait to be written
abbrev pub some_wait : List ℕ → Bool
some_wait [] = false
some_wait (octet ∷ octets) = true

-- a bad length was met, and stands at the front of the octets that no PDU has
abbrev pub IsBad : {L : Type 0} → Wiring L → Type 0
IsBad w = IsSome w.failed × (fault_at 65536 w.rest ≡ w.failed)
