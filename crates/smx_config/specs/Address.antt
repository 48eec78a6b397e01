-- Addresses where one listens, or to which one connects: a host, a colon, a port.
use Rattle.std.specs.Prelude.{ℕ, List, [], ◌∷◌, length, Bool, false, ◌&&◌, ◌||◌, not, ◌==◌, nat_lt, if◌then◌else◌}
use Rattle.std.specs.List.{list_all, before_first, after_first}
use Rattle.std.specs.Char.{is_ascii_digit}
use Rattle.std.specs.Str.Parse.{digits_value}

-- a number of at most 16 bits in decimal digits (RFC 9293, section 3.1)
abbrev pub is_port : List ℕ → Bool
is_port s = list_all is_ascii_digit s && (nat_lt 0 (length s) && nat_lt (digits_value 10 s) 65536)

abbrev pub colon : ℕ → Bool
colon b = b == 58

abbrev pub closing_bracket : ℕ → Bool
closing_bracket b = b == 93

-- a visible octet of ASCII, but no slash, no @ and no bracket
abbrev pub may_be_in_host : ℕ → Bool
may_be_in_host b = (nat_lt 32 b && nat_lt b 127) && not ((b == 47 || b == 64) || (b == 91 || b == 93))

abbrev pub is_host : List ℕ → Bool
is_host s = nat_lt 0 (length s) && list_all may_be_in_host s

-- a name or an IPv4 address, and behind its first colon the port
abbrev pub is_plain_address : List ℕ → Bool
is_plain_address s = is_host (before_first colon s) && is_port (after_first colon s)

abbrev pub is_port_behind_colon : List ℕ → Bool
is_port_behind_colon [] = false
is_port_behind_colon (c ∷ s) = colon c && is_port s

-- behind an opening bracket: an IPv6 address, the closing one, a colon and the port (RFC 3986, section 3.2.2)
abbrev pub is_bracketed_address : List ℕ → Bool
is_bracketed_address s = is_host (before_first closing_bracket s) && is_port_behind_colon (after_first closing_bracket s)

abbrev pub is_address : List ℕ → Bool
is_address [] = false
is_address (c ∷ s) = if c == 91 then is_bracketed_address s else is_plain_address (c ∷ s)
