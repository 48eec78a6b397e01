-- What a check of a configuration writes.
use Rattle.std.specs.Prelude.{◌≡◌, ℕ, List, [], ◌∷◌, ◌++◌, length, Result, Ok, Err, ◌⊎◌, codes}
use Rattle.std.specs.Fmt.{decimal}
use Rattle.smx_config.specs.declared.fault.ConfigFault.{ConfigFault}
use Rattle.smx_config.specs.declared.fault.ConfigFault.TheVariants.{NotToml, Listen, Numbers, ProxyProtocol, Log, Limits, Timers, Upstreams, Upstream, Accounts, Account, NoMemory}
use Rattle.smx_config.specs.declared.file.FileFault.{FileFault}
use Rattle.smx_config.specs.declared.file.FileFault.TheVariants as file
use Rattle.smx_config.specs.Settings.{Settings, settings_of}

-- a line and its end
abbrev pub text_line : List ℕ → List ℕ
text_line text = text ++ 10 ∷ []

abbrev pub fault_name : ConfigFault → List ℕ
fault_name NotToml = codes "NotToml"
fault_name Listen = codes "Listen"
fault_name Numbers = codes "Numbers"
fault_name ProxyProtocol = codes "ProxyProtocol"
fault_name Log = codes "Log"
fault_name Limits = codes "Limits"
fault_name Timers = codes "Timers"
fault_name Upstreams = codes "Upstreams"
fault_name (Upstream i) = codes "Upstream " ++ decimal i
fault_name Accounts = codes "Accounts"
fault_name (Account i) = codes "Account " ++ decimal i
fault_name NoMemory = codes "NoMemory"

abbrev pub fault_line : ConfigFault → List ℕ
fault_line fault = text_line (codes "fault " ++ fault_name fault)

-- the line of so many upstreams and accounts
abbrev pub ok_line : ℕ → ℕ → List ℕ
ok_line upstreams accounts = text_line (codes "ok " ++ (decimal upstreams ++ (codes " " ++ decimal accounts)))

-- the line of a check
abbrev pub line_of : Result Settings ConfigFault → List ℕ
line_of (Ok s) = ok_line (length s.upstream) (length s.account)
line_of (Err fault) = fault_line fault

-- the line where a file has no text to check
abbrev pub file_line : FileFault → List ℕ
file_line file.Failed = text_line (codes "fault file")
file_line file.TooLong = text_line (codes "fault file")
file_line file.NotUtf8 = text_line (codes "fault file")
file_line file.NoMemory = fault_line NoMemory

-- what reading a text comes to: what the text states, but for want of memory
abbrev pub ReadsAs : List ℕ → Result Settings ConfigFault → Type 0
ReadsAs text outcome = (outcome ≡ settings_of text) ⊎ (outcome ≡ Err NoMemory)

-- the part of a configuration that a fault speaks of, before the words on it
abbrev pub fault_place : ConfigFault → List ℕ
fault_place NotToml = []
fault_place Listen = []
fault_place Numbers = []
fault_place ProxyProtocol = []
fault_place Log = []
fault_place Limits = codes "limits: "
fault_place Timers = codes "timers: "
fault_place Upstreams = []
fault_place (Upstream i) = codes "upstream " ++ (decimal i ++ codes ": ")
fault_place Accounts = []
fault_place (Account i) = codes "account " ++ (decimal i ++ codes ": ")
fault_place NoMemory = []
