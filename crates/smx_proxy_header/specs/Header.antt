-- The header of the PROXY protocol, version 2 (section 2.2 of its specification).
use Rattle.std.specs.Prelude.{◌≡◌, ◌≤◌, ℕ, ◌+◌, ◌*◌, List, [], ◌∷◌, ◌++◌, length, take, get_or, Option, Some, None, if◌then◌else◌, ◌==◌}
use Rattle.smx_proxy_header.specs.declared.addresses.Addresses.{Addresses}
use Rattle.smx_proxy_header.specs.declared.addresses.Addresses.TheVariants.{Unread, Tcp4, Tcp6}
use Rattle.smx_proxy_header.specs.declared.header.ProxyHeader.{ProxyHeader}
use Rattle.smx_proxy_header.specs.declared.header.ProxyHeader.TheVariants.{Part, Whole, Wrong}
use Rattle.smx_proxy_header.specs.declared.source.Source.{Source}
use Rattle.smx_proxy_header.specs.declared.source.Source.TheVariants.{Local, V4, V6}

abbrev pub signature : List ℕ
signature = 0x0D ∷ 0x0A ∷ 0x0D ∷ 0x0A ∷ 0x00 ∷ 0x0D ∷ 0x0A ∷ 0x51 ∷ 0x55 ∷ 0x49 ∷ 0x54 ∷ 0x0A ∷ []

-- the addresses by two octets: version 2 with the command LOCAL or PROXY, and the family with the
-- transport, of which TCP over IPv4 and over IPv6 are read
abbrev pub addresses_of : ℕ → ℕ → Option Addresses
addresses_of command family =
    if command == 0x20 then Some Unread
    else if command == 0x21 then Some (if family == 0x11 then Tcp4 else if family == 0x21 then Tcp6 else Unread)
    else None

-- their octets: the source's and the destination's address, and the ports of both
abbrev pub count : Addresses → ℕ
count Unread = 0
count Tcp4 = 12
count Tcp6 = 36

-- the number of two octets in network order
abbrev pub number_at : ℕ → List ℕ → ℕ
number_at i octets = get_or octets i 0 * 256 + get_or octets (i + 1) 0

-- the source where the addresses stand first; what follows them is skipped
abbrev pub source_in : Addresses → List ℕ → Source
source_in Unread octets = Local
source_in Tcp4 octets = V4 (take 4 octets) (number_at 8 octets)
source_in Tcp6 octets = V6 (take 16 octets) (number_at 32 octets)

-- a header that names a source; that no more than 4,096 octets follow its length is a limit of ours
pub record IsHeader (header : List ℕ) (source : Source) : Type 0 where
  pub command : ℕ
  pub family : ℕ
  pub high : ℕ
  pub low : ℕ
  pub rest : List ℕ
  pub addresses : Addresses
  pub octets : header ≡ signature ++ command ∷ family ∷ high ∷ low ∷ rest
  pub as_long : length rest ≡ high * 256 + low
  pub within : length rest ≤ 4096
  pub known : addresses_of command family ≡ Some addresses
  pub enough : count addresses ≤ length rest
  pub named : source ≡ source_in addresses rest

-- no front of the octets is a header
abbrev pub HasNone : List ℕ → Type 0
HasNone octets = (header more : List ℕ) (source : Source) → IsHeader header source → octets ≡ header ++ more → ⊥

-- what octets begin with: less than a header, a header, or neither, whatever follows
abbrev pub Begins : List ℕ → ProxyHeader → Type 0
Begins octets Part = HasNone octets × ((more : List ℕ) × (source : Source) × IsHeader (octets ++ more) source)
Begins octets (Whole count source) = (count ≤ length octets) × IsHeader (take count octets) source
Begins octets Wrong = (more : List ℕ) → HasNone (octets ++ more)
