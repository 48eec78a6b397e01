-- What the lines of a script say.
use Rattle.std.specs.Prelude.{ℕ, ◌==◌, ◌&&◌, ◌||◌, ◌+◌, ◌-◌, ◌*◌, ◌^◌, Bool, List, [], ◌∷◌, length, slice_index, codes, nat_lt, nat_le, Option, Some, None, Result, Ok, Err, if◌then◌else◌}
use Rattle.std.specs.Char.{is_ascii_digit}
use Rattle.std.specs.List.{list_all, slice_split}
use Rattle.std.specs.Option.{option_map}
use Rattle.std.specs.Str.{bytes_eq}
use Rattle.hex.specs.Hex.{decode_of}
use Rattle.hex.specs.declared.error.FromHexError.{FromHexError}
use Rattle.smx_session.specs.Rules.{no_rules}
use Rattle.smx_session.specs.declared.kind.Kind.{Kind}
use Rattle.smx_session.specs.declared.kind.Kind.TheVariants.{Tx, Rx, Trx}
use Rattle.smx_script.specs.declared.command.Command.{Command}
use Rattle.smx_script.specs.declared.command.Command.TheVariants.{Skip, Set, Run}
use Rattle.smx_script.specs.declared.command.Setting.TheVariants.{Sizes, Lanes, Places, Account}
use Rattle.smx_script.specs.declared.command.Action.TheVariants.{Client, Prefix, In, Take, Back, Collect, History, Turn, Lose, Bind, Moment, Expire}

-- lines end with a line feed, which the last may lack
abbrev pub lines_of : List ℕ → List (List ℕ)
lines_of script = slice_split (λ octet. octet == 10) script

-- fields are separated by one space
abbrev pub fields_of : List ℕ → List (List ℕ)
fields_of line = slice_split (λ octet. octet == 32) line

-- the number that digits make behind those that made n; none where an octet is no digit, or the number is 2^64 or more
unfoldable pub read_on : ℕ → List ℕ → Option ℕ
read_on n [] = Some n
read_on n (octet ∷ octets) = if is_ascii_digit octet && nat_lt (10 * n + (octet - 48)) (2 ^ 64) then read_on (10 * n + (octet - 48)) octets else None

-- no digit, or a 0 before others
abbrev pub is_misspelled : List ℕ → Bool
is_misspelled word = (length word == 0) || (nat_lt 1 (length word) && (slice_index word 0 == 48))

-- the number below 2^64 that a word spells in decimal, without a sign and without leading zeros
unfoldable pub number_of : List ℕ → Option ℕ
number_of word = if is_misspelled word then None else read_on 0 word

abbrev pub within : ℕ → ℕ → Option ℕ → Option ℕ
within least most None = None
within least most (Some n) = if nat_le least n && nat_le n most then Some n else None

-- the number that a word spells, where it is in this range
unfoldable pub number_within : ℕ → ℕ → List ℕ → Option ℕ
number_within least most word = within least most (number_of word)

abbrev pub some_octets : Result (List ℕ) FromHexError → Option (List ℕ)
some_octets (Ok octets) = Some octets
some_octets (Err e) = None

-- the octets that hexadecimal digits spell, in either case, one at least
unfoldable pub octets_in : List ℕ → Option (List ℕ)
octets_in digits = if length digits == 0 then None else some_octets (decode_of digits)

abbrev pub is_printable : ℕ → Bool
is_printable octet = nat_le 33 octet && nat_le octet 126

-- a word of printable ASCII, which has one octet and at most so many
abbrev pub is_printable_word : ℕ → List ℕ → Bool
is_printable_word most word = nat_le 1 (length word) && nat_le (length word) most && list_all is_printable word

-- how a client enters: it binds itself, or is bound so
abbrev pub entry_of : List ℕ → Option (Option Kind)
entry_of word =
    if bytes_eq word (codes "open") then Some None
    else if bytes_eq word (codes "tx") then Some (Some Tx)
    else if bytes_eq word (codes "rx") then Some (Some Rx)
    else if bytes_eq word (codes "trx") then Some (Some Trx)
    else None

-- a command that names a lane alone
unfoldable pub lane_command : List ℕ → Option ℕ → Option Command
lane_command word None = None
lane_command word (Some lane) =
    if bytes_eq word (codes "take") then Some (Run (Take lane))
    else if bytes_eq word (codes "history") then Some (Run (History lane))
    else if bytes_eq word (codes "turn") then Some (Run (Turn lane))
    else if bytes_eq word (codes "lose") then Some (Run (Lose lane))
    else if bytes_eq word (codes "bind") then Some (Run (Bind lane))
    else None

unfoldable pub pair_command : List ℕ → List ℕ → Option Command
pair_command word what =
    if bytes_eq word (codes "client") then option_map (λ kind. Run (Client kind)) (entry_of what)
    else if bytes_eq word (codes "lanes") then option_map (λ n. Set (Lanes n)) (number_within 1 16 what)
    else if bytes_eq word (codes "box") then option_map (λ n. Set (Places n)) (number_within 1 256 what)
    else if bytes_eq word (codes "collect") then option_map (λ client. Run (Collect client)) (number_of what)
    else if bytes_eq word (codes "moment") then option_map (λ moment. Run (Moment moment)) (number_of what)
    else lane_command word (number_of what)

abbrev pub in_command : Option ℕ → Option (List ℕ) → Option Command
in_command (Some client) (Some octets) = Some (Run (In client octets))
in_command _ _ = None

abbrev pub back_command : Option ℕ → Option (List ℕ) → Option Command
back_command (Some lane) (Some octets) = Some (Run (Back lane octets))
back_command _ _ = None

abbrev pub account_command : List ℕ → List ℕ → Option Command
account_command id password = if is_printable_word 15 id && is_printable_word 8 password then Some (Set (Account (record { system_id = id; password = password; rules = no_rules }))) else None

-- a word of printable ASCII, of at most 20 octets; one hyphen stands for no octet
abbrev pub prefix_of : List ℕ → Option (List ℕ)
prefix_of word = if is_printable_word 20 word then Some (if bytes_eq word (codes "-") then [] else word) else None

abbrev pub route_command : Option ℕ → Option (List ℕ) → Option Command
route_command (Some client) (Some prefix) = Some (Run (Prefix client prefix))
route_command _ _ = None

-- the age is in milliseconds
abbrev pub expire_command : Option ℕ → Option ℕ → Option Command
expire_command (Some lane) (Some age) = Some (Run (Expire lane age))
expire_command _ _ = None

unfoldable pub triple_command : List ℕ → List ℕ → List ℕ → Option Command
triple_command word what other =
    if bytes_eq word (codes "account") then account_command what other
    else if bytes_eq word (codes "route") then route_command (number_of what) (prefix_of other)
    else if bytes_eq word (codes "in") then in_command (number_of what) (octets_in other)
    else if bytes_eq word (codes "back") then back_command (number_of what) (octets_in other)
    else if bytes_eq word (codes "expire") then expire_command (number_of what) (number_of other)
    else None

abbrev pub sizes : Option ℕ → Option ℕ → Option ℕ → Option ℕ → Option Command
sizes (Some queue) (Some window) (Some client) (Some history) = Some (Set (Sizes (record { queue = queue; window = window; client = client; history = history })))
sizes _ _ _ _ = None

unfoldable pub limits_command : List ℕ → List ℕ → List ℕ → List ℕ → List ℕ → Option Command
limits_command word queue window client history =
    if bytes_eq word (codes "limits")
    then sizes (number_within 1 65535 queue) (number_within 1 1024 window) (number_within 1 256 client) (number_within 1000 1000000 history)
    else None

abbrev pub command_of_fields : List (List ℕ) → Option Command
command_of_fields (word ∷ what ∷ []) = pair_command word what
command_of_fields (word ∷ what ∷ other ∷ []) = triple_command word what other
command_of_fields (word ∷ queue ∷ window ∷ client ∷ history ∷ []) = limits_command word queue window client history
command_of_fields _ = None

-- empty lines and comments are skipped
abbrev pub is_skipped : List ℕ → Bool
is_skipped line = (length line == 0) || (slice_index line 0 == 35)

-- the command of a line, or none at a bad line
unfoldable pub command_of : List ℕ → Option Command
command_of line = if is_skipped line then Some Skip else command_of_fields (fields_of line)
