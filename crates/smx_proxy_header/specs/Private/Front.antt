-- How a header goes on behind its signature.
use Rattle.std.specs.Prelude.{ℕ, List, [], ◌∷◌, Bool, true, ◌&&◌, nat_le, is_some}
use Rattle.smx_proxy_header.specs.Header.{addresses_of}

-- up to its length, so that the length may be one of at most 4,096
abbrev pub may_begin : List ℕ → Bool
may_begin [] = true
may_begin (command ∷ []) = is_some (addresses_of command 0)
may_begin (command ∷ family ∷ []) = is_some (addresses_of command 0)
may_begin (command ∷ family ∷ high ∷ octets) = is_some (addresses_of command 0) && nat_le high 16
