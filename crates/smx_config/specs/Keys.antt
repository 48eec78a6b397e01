-- The keys of a configuration: where they stand, how they are written, and what their values may be.
use Rattle.std.specs.Prelude.{ℕ, List, [], ◌∷◌, length, Option, Some, None, Bool, true, false, not, ◌&&◌, ◌||◌, ◌==◌, nat_le, codes}
use Rattle.std.specs.List.{list_any}
use Rattle.std.specs.Str.{bytes_eq}
use Rattle.smx_config.specs.declared.section.Section.{Section}
use Rattle.smx_config.specs.declared.section.Section.TheVariants.{Top, Limits, Timers, Upstream, Account}
use Rattle.smx_config.specs.declared.number.Number.{Number}
use Rattle.smx_config.specs.declared.number.Number.TheVariants.{Clients, Places, Silence, Queue, Window, Client, History, Response, Reconnect, ReconnectMost, Enquire, Bind, ClientSilence, Message, Stop, InterfaceVersion, Binds, Requests}
use Rattle.smx_config.specs.declared.flag.Flag.{Flag}
use Rattle.smx_config.specs.declared.flag.Flag.TheVariants.{ProxyProtocol}
use Rattle.smx_config.specs.declared.text.Text.{Text}
use Rattle.smx_config.specs.declared.text.Text.TheVariants.{Listen, Address, SystemId, Password, SystemType, AddressRange, Prefix}
use Rattle.smx_config.specs.declared.choice.Choice.{Choice}
use Rattle.smx_config.specs.declared.choice.Choice.TheVariants as choice
use Rattle.smx_config.specs.Address.{is_address}

-- a key with a number: the table where it stands, how a file writes it, the least number that may
-- stand there and the greatest, and the number where the key is absent, or None: then nothing is limited
pub record NumberRow : Type 0 where
  pub section : Section
  pub key : List ℕ
  pub least : ℕ
  pub most : ℕ
  pub default : Option ℕ

-- silence, which is another name of enquire, and the timers are in milliseconds; where 0 may stand, it is
-- never
abbrev pub number_row : Number → NumberRow
number_row Clients = record { section = Top; key = codes "clients"; least = 1; most = 256; default = Some 8 }
number_row Places = record { section = Top; key = codes "box"; least = 1; most = 256; default = Some 16 }
number_row Silence = record { section = Top; key = codes "silence"; least = 100; most = 3600000; default = Some 30000 }
number_row Queue = record { section = Limits; key = codes "queue"; least = 1; most = 65535; default = Some 100 }
number_row Window = record { section = Limits; key = codes "window"; least = 1; most = 1024; default = Some 10 }
number_row Client = record { section = Limits; key = codes "client"; least = 1; most = 256; default = Some 20 }
number_row History = record { section = Limits; key = codes "history"; least = 1000; most = 1000000; default = Some 100000 }
number_row Response = record { section = Timers; key = codes "response"; least = 1000; most = 3600000; default = Some 60000 }
number_row Reconnect = record { section = Timers; key = codes "reconnect"; least = 100; most = 3600000; default = Some 1000 }
number_row ReconnectMost = record { section = Timers; key = codes "reconnect_most"; least = 100; most = 3600000; default = Some 30000 }
number_row Enquire = record { section = Timers; key = codes "enquire"; least = 100; most = 3600000; default = Some 30000 }
number_row Bind = record { section = Timers; key = codes "bind"; least = 1000; most = 3600000; default = Some 10000 }
number_row ClientSilence = record { section = Timers; key = codes "client_silence"; least = 0; most = 3600000; default = Some 60000 }
number_row Message = record { section = Timers; key = codes "message"; least = 0; most = 3600000; default = Some 60000 }
number_row Stop = record { section = Timers; key = codes "stop"; least = 0; most = 600000; default = Some 5000 }
number_row InterfaceVersion = record { section = Upstream; key = codes "interface_version"; least = 0; most = 255; default = Some 52 }
number_row Binds = record { section = Account; key = codes "binds"; least = 1; most = 65535; default = None }
number_row Requests = record { section = Account; key = codes "requests"; least = 1; most = 65535; default = None }

-- the number may stand at the key
abbrev pub is_number : Number → ℕ → Bool
is_number key n = nat_le (number_row key).least n && nat_le n (number_row key).most

-- a key with a text, or, of prefixes, with a list of texts: the tables where it stands, how a file
-- writes it, the fewest octets of a text and the most, whether one of them may be 0, with which texts of
-- a bind end, and whether it must be an address
pub record TextRow : Type 0 where
  pub sections : List Section
  pub key : List ℕ
  pub fewest : ℕ
  pub longest : ℕ
  pub may_have_zero : Bool
  pub must_be_address : Bool

abbrev pub text_row : Text → TextRow
text_row Listen = record { sections = Top ∷ []; key = codes "listen"; fewest = 1; longest = 255; may_have_zero = true; must_be_address = true }
text_row Address = record { sections = Upstream ∷ []; key = codes "address"; fewest = 1; longest = 255; may_have_zero = true; must_be_address = true }
text_row SystemId = record { sections = Upstream ∷ Account ∷ []; key = codes "system_id"; fewest = 1; longest = 15; may_have_zero = false; must_be_address = false }
text_row Password = record { sections = Upstream ∷ Account ∷ []; key = codes "password"; fewest = 0; longest = 8; may_have_zero = false; must_be_address = false }
text_row SystemType = record { sections = Upstream ∷ []; key = codes "system_type"; fewest = 0; longest = 12; may_have_zero = false; must_be_address = false }
text_row AddressRange = record { sections = Upstream ∷ []; key = codes "address_range"; fewest = 0; longest = 40; may_have_zero = false; must_be_address = false }
text_row Prefix = record { sections = Account ∷ []; key = codes "prefixes"; fewest = 0; longest = 64; may_have_zero = true; must_be_address = false }

-- a key that is true or false: the table where it stands, how a file writes it, and which it is where the
-- key is absent
pub record FlagRow : Type 0 where
  pub section : Section
  pub key : List ℕ
  pub default : Bool

abbrev pub flag_row : Flag → FlagRow
flag_row ProxyProtocol = record { section = Top; key = codes "proxy_protocol"; default = false }

-- a key with one of a few words, or, of commands, with a list of them: the table where it stands, and how
-- a file writes it
pub record ChoiceRow : Type 0 where
  pub section : Section
  pub key : List ℕ

abbrev pub choice_row : Choice → ChoiceRow
choice_row choice.Log = record { section = Top; key = codes "log" }
choice_row choice.LogLevel = record { section = Top; key = codes "log_level" }
choice_row choice.Bind = record { section = Upstream; key = codes "bind" }
choice_row choice.Commands = record { section = Account; key = codes "commands" }
choice_row choice.Bodies = record { section = Account; key = codes "bodies" }

abbrev pub has_zero : List ℕ → Bool
has_zero s = list_any (λ b. b == 0) s

-- the text may stand at the key
abbrev pub is_text : Text → List ℕ → Bool
is_text key s = (nat_le (text_row key).fewest (length s) && nat_le (length s) (text_row key).longest) && (((text_row key).may_have_zero || not (has_zero s)) && (not (text_row key).must_be_address || is_address s))

abbrev pub all_numbers : List Number
all_numbers = Clients ∷ Places ∷ Silence ∷ Queue ∷ Window ∷ Client ∷ History ∷ Response ∷ Reconnect ∷ ReconnectMost ∷ Enquire ∷ Bind ∷ ClientSilence ∷ Message ∷ Stop ∷ InterfaceVersion ∷ Binds ∷ Requests ∷ []

abbrev pub all_flags : List Flag
all_flags = ProxyProtocol ∷ []

abbrev pub all_texts : List Text
all_texts = Listen ∷ Address ∷ SystemId ∷ Password ∷ SystemType ∷ AddressRange ∷ Prefix ∷ []

abbrev pub all_choices : List Choice
all_choices = choice.Log ∷ choice.LogLevel ∷ choice.Bind ∷ choice.Commands ∷ choice.Bodies ∷ []

abbrev pub is_same : Section → Section → Bool
is_same Top Top = true
is_same Limits Limits = true
is_same Timers Timers = true
is_same Upstream Upstream = true
is_same Account Account = true
is_same _ _ = false

abbrev pub stands_in : Section → Text → Bool
stands_in section text = list_any (is_same section) (text_row text).sections

-- the key is that of a number in this table, of what is true or false, of a text, of words, or of another
-- table
abbrev pub is_number_key : Section → List ℕ → Bool
is_number_key section key = list_any (λ n. is_same section (number_row n).section && bytes_eq key (number_row n).key) all_numbers

abbrev pub is_flag_key : Section → List ℕ → Bool
is_flag_key section key = list_any (λ f. is_same section (flag_row f).section && bytes_eq key (flag_row f).key) all_flags

abbrev pub is_text_key : Section → List ℕ → Bool
is_text_key section key = list_any (λ t. stands_in section t && bytes_eq key (text_row t).key) all_texts

abbrev pub is_choice_key : Section → List ℕ → Bool
is_choice_key section key = list_any (λ c. is_same section (choice_row c).section && bytes_eq key (choice_row c).key) all_choices

abbrev pub is_table_key : Section → List ℕ → Bool
is_table_key Top key = bytes_eq key (codes "limits") || (bytes_eq key (codes "timers") || (bytes_eq key (codes "upstream") || bytes_eq key (codes "account")))
is_table_key _ key = false

-- the key is read where it stands in this table
abbrev pub is_read : Section → List ℕ → Bool
is_read section key = is_number_key section key || (is_flag_key section key || (is_text_key section key || (is_choice_key section key || is_table_key section key)))
