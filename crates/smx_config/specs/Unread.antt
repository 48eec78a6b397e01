-- The keys of a text that nobody reads, as they are named: behind the table where each stands.
use Rattle.std.specs.Prelude.{ℕ, ◌+◌, List, [], ◌∷◌, ◌++◌, map, option_and_then, if◌then◌else◌, codes, string_bytes}
use Rattle.std.specs.Fmt.{decimal}
use Rattle.std.specs.Option.{option_map_or}
use Rattle.toml.specs.Data.{Data, Items, no_items, item, Members, no_members, member, get_member, as_array, as_table}
use Rattle.toml.specs.Parse.{parse_document}
use Rattle.smx_config.specs.declared.section.Section.{Section}
use Rattle.smx_config.specs.declared.section.Section.TheVariants as section
use Rattle.smx_config.specs.declared.unread_key.UnreadKey.{UnreadKey}
use Rattle.smx_config.specs.Keys.{is_read}

-- the names of keys
abbrev pub names : List UnreadKey → List (List ℕ)
names keys = map (λ key. string_bytes key.name) keys

-- the keys of a table that aren't read there, each behind these words
abbrev pub unread_in : Section → List ℕ → Members → List (List ℕ)
unread_in section place no_members = []
unread_in section place (member key d ms) = if is_read section key then unread_in section place ms else (place ++ key) ∷ unread_in section place ms

-- of a value that is a table
abbrev pub unread_within : Section → List ℕ → Data → List (List ℕ)
unread_within section place d = option_map_or (unread_in section place) (as_table d) []

-- of items, from this index on, of the list at a key
abbrev pub unread_among : Section → List ℕ → ℕ → Items → List (List ℕ)
unread_among section key i no_items = []
unread_among section key i (item d ds) = unread_within section (key ++ (codes " " ++ (decimal i ++ codes ": "))) d ++ unread_among section key (i + 1) ds

abbrev pub unread_listed : Section → List ℕ → Members → List (List ℕ)
unread_listed section key ms = option_map_or (unread_among section key 0) (option_and_then as_array (get_member key ms)) []

abbrev pub unread_below : Section → List ℕ → Members → List (List ℕ)
unread_below section key ms = option_map_or (unread_within section (key ++ codes ": ")) (get_member key ms) []

-- of a whole configuration
abbrev pub unread_of : Members → List (List ℕ)
unread_of ms = unread_in section.Top [] ms ++ unread_below section.Limits (codes "limits") ms ++ unread_below section.Timers (codes "timers") ms ++ unread_listed section.Upstream (codes "upstream") ms ++ unread_listed section.Account (codes "account") ms

abbrev pub unread_names : List ℕ → List (List ℕ)
unread_names text = option_map_or unread_of (parse_document text) []
