-- What a configuration says, the limits that its type keeps, and how a TOML text states it, or its first fault.
use Rattle.std.specs.Prelude.{◌≢◌, ◌≤◌, ℕ, Bool, true, false, ◌&&◌, List, length, nat_lt, Option, is_none, IfSome, All, AllPairs, IsTrue, ◌+◌, ℤ, pos, negsuc, [], ◌∷◌, ◌++◌, Some, None, option_and_then, option_map, Result, Ok, Err, ok_or, nat_le, is_some, if◌then◌else◌, codes}
use Rattle.std.specs.List.{list_all, list_any}
use Rattle.smx_history.specs.declared.limits.Limits.{Limits}
use Rattle.smx_history.specs.Room.{AreLimits}
use Rattle.smx_config.specs.declared.number.Number.TheVariants as number
use Rattle.smx_config.specs.declared.text.Text.TheVariants as text
use Rattle.smx_config.specs.declared.timers.Timers.{Timers}
use Rattle.smx_config.specs.declared.log_form.LogForm.{LogForm}
use Rattle.smx_config.specs.declared.log_level.LogLevel.{LogLevel}
use Rattle.smx_config.specs.declared.bind_kind.BindKind.{BindKind}
use Rattle.smx_config.specs.declared.bind_kind.BindKind.TheVariants.{Transceiver, Transmitter, Receiver}
use Rattle.smx_config.specs.declared.commands.Commands.{Commands}
use Rattle.smx_config.specs.declared.bodies.Bodies.{Bodies}
use Rattle.smx_config.specs.Keys.{is_number, is_text, number_row, flag_row, text_row, choice_row}
use Rattle.std.specs.Str.{bytes_eq}
use Rattle.std.specs.Option.{option_map_or}
use Rattle.std.specs.Result.{result_ok}
use Rattle.toml.specs.Data.{Data, Items, no_items, item, Members, no_members, get, get_member, as_array, as_bool, as_integer, as_str, as_table}
use Rattle.toml.specs.Parse.{parse_document}
use Rattle.smx_config.specs.declared.number.Number.{Number}
use Rattle.smx_config.specs.declared.flag.Flag.{Flag}
use Rattle.smx_config.specs.declared.flag.Flag.TheVariants as flag
use Rattle.smx_config.specs.declared.text.Text.{Text}
use Rattle.smx_config.specs.declared.fault.ConfigFault.{ConfigFault}
use Rattle.smx_config.specs.declared.fault.ConfigFault.TheVariants as fault
use Rattle.smx_config.specs.declared.choice.Choice.{Choice}
use Rattle.smx_config.specs.declared.choice.Choice.TheVariants as choice
use Rattle.smx_config.specs.declared.log_form.LogForm.TheVariants.{Text as PlainText}
use Rattle.smx_config.specs.declared.log_level.LogLevel.TheVariants.{Info}
use Rattle.smx_config.specs.declared.bodies.Bodies.TheVariants.{Any}
use Rattle.smx_config.specs.declared.command.Command.{Command}
use Rattle.smx_config.specs.Choices.{form_word, all_forms, level_word, all_levels, kind_word, all_kinds, bodies_word, all_bodies, command_word, all_command_names, meant, no_commands, all_commands, with_command}

pub record UpstreamSettings : Type 0 where
  pub address : List ℕ
  pub system_id : List ℕ
  pub password : List ℕ
  pub bind : BindKind
  pub system_type : List ℕ
  pub address_range : List ℕ
  pub interface_version : ℕ

pub record AccountSettings : Type 0 where
  pub system_id : List ℕ
  pub password : List ℕ
  pub prefixes : List (List ℕ)
  pub binds : Option ℕ
  pub requests : Option ℕ
  pub commands : Commands
  pub bodies : Bodies

pub record Settings : Type 0 where
  pub listen : List ℕ
  pub proxy_protocol : Bool
  pub log : LogForm
  pub log_level : LogLevel
  pub clients : ℕ
  pub places : ℕ
  pub limits : Limits
  pub timers : Timers
  pub upstream : List UpstreamSettings
  pub account : List AccountSettings

-- what every `Upstream` keeps
pub record IsUpstream (u : UpstreamSettings) : Type 0 where
  pub address : IsTrue (is_text text.Address u.address)
  pub system_id : IsTrue (is_text text.SystemId u.system_id)
  pub password : IsTrue (is_text text.Password u.password)
  pub system_type : IsTrue (is_text text.SystemType u.system_type)
  pub address_range : IsTrue (is_text text.AddressRange u.address_range)
  pub interface_version : IsTrue (is_number number.InterfaceVersion u.interface_version)

pub record ArePrefixes (prefixes : List (List ℕ)) : Type 0 where
  pub short : All (λ p. IsTrue (is_text text.Prefix p)) prefixes
  pub few : length prefixes ≤ 16
  pub distinct : AllPairs (λ p q. p ≢ q) prefixes

-- what every `Account` keeps
pub record IsAccount (a : AccountSettings) : Type 0 where
  pub system_id : IsTrue (is_text text.SystemId a.system_id)
  pub password : IsTrue (is_text text.Password a.password)
  pub prefixes : ArePrefixes a.prefixes
  pub binds : IfSome a.binds (λ n. IsTrue (is_number number.Binds n))
  pub requests : IfSome a.requests (λ n. IsTrue (is_number number.Requests n))

-- what the timers of every `Config` keep
pub record AreTimers (t : Timers) : Type 0 where
  pub response : IsTrue (is_number number.Response t.response)
  pub reconnect : IsTrue (is_number number.Reconnect t.reconnect)
  pub reconnect_most : IsTrue (is_number number.ReconnectMost t.reconnect_most)
  pub enquire : IsTrue (is_number number.Enquire t.enquire)
  pub bind : IsTrue (is_number number.Bind t.bind)
  pub client_silence : IsTrue (is_number number.ClientSilence t.client_silence)
  pub message : IsTrue (is_number number.Message t.message)
  pub stop : IsTrue (is_number number.Stop t.stop)

-- what every `Config` keeps
pub record IsConfig (s : Settings) : Type 0 where
  pub listen : IsTrue (is_text text.Listen s.listen)
  pub clients : IsTrue (is_number number.Clients s.clients)
  pub places : IsTrue (is_number number.Places s.places)
  pub limits : AreLimits s.limits
  pub timers : AreTimers s.timers
  pub upstream : (1 ≤ length s.upstream) × (length s.upstream ≤ 16)
  pub account : (1 ≤ length s.account) × (length s.account ≤ 256)
  pub distinct : AllPairs (λ a b. a.system_id ≢ b.system_id) s.account

-- nothing keeps one of several accounts from all that the lanes hold
abbrev pub may_take_all : Settings → Bool
may_take_all s = nat_lt 1 (length s.account) && list_all (λ a. is_none a.requests) s.account

abbrev pub receives_alone : BindKind → Bool
receives_alone Transceiver = false
receives_alone Transmitter = false
receives_alone Receiver = true

abbrev pub transmits_alone : BindKind → Bool
transmits_alone Transceiver = false
transmits_alone Transmitter = true
transmits_alone Receiver = false

abbrev pub is_receiver : UpstreamSettings → Bool
is_receiver u = receives_alone u.bind

abbrev pub is_transmitter : UpstreamSettings → Bool
is_transmitter u = transmits_alone u.bind

-- no upstream takes requests (SMPP 3.4, section 2.2)
abbrev pub takes_none : Settings → Bool
takes_none s = list_all is_receiver s.upstream

-- no upstream brings messages
abbrev pub brings_none : Settings → Bool
brings_none s = list_all is_transmitter s.upstream

-- not all accounts can be bound at a time
abbrev pub has_few_clients : Settings → Bool
has_few_clients s = nat_lt s.clients (length s.account)

-- an integer as a number that may stand at the key
abbrev pub number_within : Number → ℤ → Option ℕ
number_within key (pos n) = if is_number key n then Some n else None
number_within key (negsuc n) = None

-- the number that a value is, where it may stand at the key
abbrev pub number_of : Number → Data → Option ℕ
number_of key d = option_and_then (number_within key) (as_integer d)

-- the number at a key, or its default where the key is absent
abbrev pub number_or_default : Number → Members → Option ℕ
number_or_default key ms = option_map_or (number_of key) (get_member (number_row key).key ms) (number_row key).default

-- the number at a key of a value, or its default where the key is absent
abbrev pub number_in : Number → Data → Option ℕ
number_in key d = option_map_or (number_of key) (get (number_row key).key d) (number_row key).default

-- the limit at a key of a value; where the key is absent, there is none
abbrev pub limit_in : Number → Data → Option (Option ℕ)
limit_in key d = option_map_or (λ n. option_map Some (number_of key n)) (get (number_row key).key d) (Some None)

-- whether it is true at a key, or its default where the key is absent
abbrev pub flag_or_default : Flag → Members → Option Bool
flag_or_default key ms = option_map_or as_bool (get_member (flag_row key).key ms) (Some (flag_row key).default)

-- the text, where it may stand at the key
abbrev pub text_within : Text → List ℕ → Option (List ℕ)
text_within key s = if is_text key s then Some s else None

abbrev pub text_of : Text → Data → Option (List ℕ)
text_of key d = option_and_then (text_within key) (as_str d)

-- the text at a key of a table, and of a value
abbrev pub text_at : Text → Members → Option (List ℕ)
text_at key ms = option_and_then (text_of key) (get_member (text_row key).key ms)

abbrev pub text_in : Text → Data → Option (List ℕ)
text_in key d = option_and_then (text_of key) (get (text_row key).key d)

-- the text at a key of a value, or none of its octets where the key is absent
abbrev pub text_or_empty : Text → Data → Option (List ℕ)
text_or_empty key d = option_map_or (text_of key) (get (text_row key).key d) (Some [])

-- the text at a key, which is among the words of its values: Some None where the key is absent
abbrev pub word_at : Choice → Members → Option (Option (List ℕ))
word_at key ms = option_map_or (λ d. option_map Some (as_str d)) (get_member (choice_row key).key ms) (Some None)

abbrev pub word_in : Choice → Data → Option (Option (List ℕ))
word_in key d = option_map_or (λ v. option_map Some (as_str v)) (get (choice_row key).key d) (Some None)

-- what is meant by a word, or what it is where there is none
abbrev pub chosen : {A : Type 0} → (List ℕ → Option A) → A → Option (List ℕ) → Option A
chosen means default word = option_map_or means word (Some default)

abbrev pub form_at : Members → Option LogForm
form_at ms = option_and_then (chosen (meant form_word all_forms) PlainText) (word_at choice.Log ms)

abbrev pub level_at : Members → Option LogLevel
level_at ms = option_and_then (chosen (meant level_word all_levels) Info) (word_at choice.LogLevel ms)

abbrev pub kind_in : Data → Option BindKind
kind_in d = option_and_then (chosen (meant kind_word all_kinds) Transceiver) (word_in choice.Bind d)

abbrev pub bodies_in : Data → Option Bodies
bodies_in d = option_and_then (chosen (meant bodies_word all_bodies) Any) (word_in choice.Bodies d)

abbrev pub command_of : Data → Option Command
command_of d = option_and_then (meant command_word all_command_names) (as_str d)

-- the commands that are named, after these
abbrev pub commands_after : Commands → Items → Option Commands
commands_after so no_items = Some so
commands_after so (item d ds) = option_and_then (λ c. commands_after (with_command so c) ds) (command_of d)

-- the commands of an account, all where the key is absent
abbrev pub commands_in : Data → Option Commands
commands_in d = option_map_or (λ v. option_and_then (commands_after no_commands) (as_array v)) (get (choice_row choice.Commands).key d) (Some all_commands)

-- a lane's limits, where each is in its range
abbrev pub all_four : Option ℕ → Option ℕ → Option ℕ → Option ℕ → Option Limits
all_four None window client history = None
all_four (Some queue) None client history = None
all_four (Some queue) (Some window) None history = None
all_four (Some queue) (Some window) (Some client) None = None
all_four (Some queue) (Some window) (Some client) (Some history) = Some (record { queue = queue; window = window; client = client; history = history })

abbrev pub stated_limits : Members → Option Limits
stated_limits ms = all_four (number_or_default number.Queue ms) (number_or_default number.Window ms) (number_or_default number.Client ms) (number_or_default number.History ms)

-- the limits that a table states; where it is absent, each is the default
abbrev pub limits_at : Members → Option Limits
limits_at ms = option_map_or (λ d. option_and_then stated_limits (as_table d)) (get_member (codes "limits") ms) (stated_limits no_members)

-- the number at `enquire` of the timers, or, where that is absent, the silence, which is its other name:
-- the two don't stand in one file
abbrev pub enquire_at : Members → ℕ → Members → Option ℕ
enquire_at whole silence ms = option_map_or (λ d. if is_some (get_member (number_row number.Silence).key whole) then None else number_of number.Enquire d) (get_member (number_row number.Enquire).key ms) (Some silence)

-- goes on with what there is
abbrev pub given : {A B : Type 0} → Option A → (A → Option B) → Option B
given a next = option_and_then next a

-- the timers, where each is in its range
abbrev pub stated_timers : Members → ℕ → Members → Option Timers
stated_timers whole silence ms =
    given (number_or_default number.Response ms) (λ response.
    given (number_or_default number.Reconnect ms) (λ reconnect.
    given (number_or_default number.ReconnectMost ms) (λ reconnect_most.
    given (enquire_at whole silence ms) (λ enquire.
    given (number_or_default number.Bind ms) (λ bind.
    given (number_or_default number.ClientSilence ms) (λ client_silence.
    given (number_or_default number.Message ms) (λ message.
    given (number_or_default number.Stop ms) (λ stop.
    Some (record { response = response; reconnect = reconnect; reconnect_most = reconnect_most; enquire = enquire; bind = bind; client_silence = client_silence; message = message; stop = stop })))))))))

-- the timers that a file of this silence states; where the table is absent, each is the default
abbrev pub timers_at : ℕ → Members → Option Timers
timers_at silence ms = option_map_or (λ d. option_and_then (stated_timers ms silence) (as_table d)) (get_member (codes "timers") ms) (stated_timers ms silence no_members)

abbrev pub item_count : Items → ℕ
item_count no_items = 0
item_count (item d ds) = 1 + item_count ds

abbrev pub are_tables : Items → Bool
are_tables no_items = true
are_tables (item d ds) = is_some (as_table d) && are_tables ds

-- a list of tables, at least one and at most so many
abbrev pub tables_within : ℕ → Items → Option Items
tables_within most ds = if (nat_le 1 (item_count ds) && nat_le (item_count ds) most) && are_tables ds then Some ds else None

abbrev pub tables_at : List ℕ → ℕ → Members → Option Items
tables_at key most ms = option_and_then (tables_within most) (option_and_then as_array (get_member key ms))

-- what items state one after another, after what stands before them, or how many stand before the
-- first of them that states nothing
abbrev pub stated_after : {A : Type 0} → (List A → Data → Option A) → List A → Items → Result (List A) ℕ
stated_after one before no_items = Ok before
stated_after one before (item d ds) = option_map_or (λ a. stated_after one (before ++ a ∷ []) ds) (one before d) (Err (length before))

abbrev pub upstream_in : List UpstreamSettings → Data → Option UpstreamSettings
upstream_in before d =
    given (text_in text.Address d) (λ address.
    given (text_in text.SystemId d) (λ system_id.
    given (text_in text.Password d) (λ password.
    given (kind_in d) (λ bind.
    given (text_or_empty text.SystemType d) (λ system_type.
    given (text_or_empty text.AddressRange d) (λ address_range.
    given (number_in number.InterfaceVersion d) (λ interface_version.
    Some (record { address = address; system_id = system_id; password = password; bind = bind; system_type = system_type; address_range = address_range; interface_version = interface_version }))))))))

-- a prefix that no earlier one of the account equals
abbrev pub new_prefix : List (List ℕ) → List ℕ → Option (List ℕ)
new_prefix before p = if list_any (bytes_eq p) before then None else Some p

abbrev pub prefix_in : List (List ℕ) → Data → Option (List ℕ)
prefix_in before d = option_and_then (new_prefix before) (text_of text.Prefix d)

-- at most 16 prefixes
abbrev pub prefixes_of : Items → Option (List (List ℕ))
prefixes_of ds = if nat_le (item_count ds) 16 then result_ok (stated_after prefix_in [] ds) else None

-- the prefixes of an account, of which it may have none
abbrev pub prefixes_in : Data → Option (List (List ℕ))
prefixes_in d = option_map_or (λ p. option_and_then prefixes_of (as_array p)) (get (text_row text.Prefix).key d) (Some [])

-- an account whose system_id no earlier one has
abbrev pub new_account : List AccountSettings → AccountSettings → Option AccountSettings
new_account before a = if list_any (λ b. bytes_eq a.system_id b.system_id) before then None else Some a

abbrev pub account_in : List AccountSettings → Data → Option AccountSettings
account_in before d =
    given (text_in text.SystemId d) (λ system_id.
    given (text_in text.Password d) (λ password.
    given (prefixes_in d) (λ prefixes.
    given (limit_in number.Binds d) (λ binds.
    given (limit_in number.Requests d) (λ requests.
    given (commands_in d) (λ commands.
    given (bodies_in d) (λ bodies.
    new_account before (record { system_id = system_id; password = password; prefixes = prefixes; binds = binds; requests = requests; commands = commands; bodies = bodies }))))))))

-- goes on with what is stated, or stops at the fault
abbrev pub on : {A B E : Type 0} → Result A E → (A → Result B E) → Result B E
on (Ok a) next = next a
on (Err e) next = Err e

-- the fault of an item, by its number
abbrev pub faulty : {A : Type 0} → (ℕ → ConfigFault) → Result A ℕ → Result A ConfigFault
faulty fault (Ok a) = Ok a
faulty fault (Err i) = Err (fault i)

abbrev pub upstreams_of : Items → Result (List UpstreamSettings) ConfigFault
upstreams_of ds = faulty fault.Upstream (stated_after upstream_in [] ds)

abbrev pub accounts_of : Items → Result (List AccountSettings) ConfigFault
accounts_of ds = faulty fault.Account (stated_after account_in [] ds)

-- the settings that a table states, or the first fault in this order
abbrev pub config_of : Members → Result Settings ConfigFault
config_of ms =
    on (ok_or (text_at text.Listen ms) fault.Listen) (λ listen.
    on (ok_or (number_or_default number.Clients ms) fault.Numbers) (λ clients.
    on (ok_or (number_or_default number.Places ms) fault.Numbers) (λ places.
    on (ok_or (number_or_default number.Silence ms) fault.Numbers) (λ silence.
    on (ok_or (flag_or_default flag.ProxyProtocol ms) fault.ProxyProtocol) (λ proxy_protocol.
    on (ok_or (form_at ms) fault.Log) (λ log.
    on (ok_or (level_at ms) fault.Log) (λ log_level.
    on (ok_or (limits_at ms) fault.Limits) (λ limits.
    on (ok_or (timers_at silence ms) fault.Timers) (λ timers.
    on (ok_or (tables_at (codes "upstream") 16 ms) fault.Upstreams) (λ upstreams.
    on (upstreams_of upstreams) (λ upstream.
    on (ok_or (tables_at (codes "account") 256 ms) fault.Accounts) (λ accounts.
    on (accounts_of accounts) (λ account.
    Ok (record { listen = listen; proxy_protocol = proxy_protocol; log = log; log_level = log_level; clients = clients; places = places; limits = limits; timers = timers; upstream = upstream; account = account }))))))))))))))

-- the settings that a text states, or its first fault
abbrev pub settings_of : List ℕ → Result Settings ConfigFault
settings_of text = option_map_or config_of (parse_document text) (Err fault.NotToml)
