-- A source as a text.
use Rattle.std.specs.Prelude.{ℕ, List, ◌++◌, codes}
use Rattle.std.specs.Fmt.{decimal}
use Rattle.std.specs.Net.Addr.{segments_of}
use Rattle.std.specs.Net.Text.{ipv4_text, ipv6_text}
use Rattle.smx_proxy_header.specs.declared.source.Source.{Source}
use Rattle.smx_proxy_header.specs.declared.source.Source.TheVariants.{Local, V4, V6}

-- an address and its port, as std writes them
abbrev pub source_text : Source → List ℕ
source_text Local = codes "the connection's own address"
source_text (V4 address port) = ipv4_text address ++ (codes ":" ++ decimal port)
source_text (V6 address port) = codes "[" ++ (ipv6_text (segments_of address) ++ (codes "]:" ++ decimal port))
