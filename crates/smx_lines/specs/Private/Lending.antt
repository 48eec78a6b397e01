-- A client that is lent out of the list.
use Rattle.std.specs.Prelude.{ℕ, Some}
use Rattle.std.specs.Borrow.{Lends, MutBor, Fml}
use Rattle.std.specs.Vec.{with_item}
use Rattle.smx_lines.specs.declared.state.LinkedClient.{LinkedClient}
use Rattle.smx_lines.specs.declared.state.Clients.{Clients}
use Rattle.smx_lines.specs.contracts.state.LinkedClient as lent
use Rattle.smx_lines.specs.contracts.state.Clients as lender

-- the client with this number is this from now on
abbrev pub with_known : Clients → ℕ → LinkedClient → Clients
with_known s c k = record s { list = with_item s.list c (Some k) }

abbrev pub LendsClient : MutBor Clients → ℕ → MutBor LinkedClient → Fml
LendsClient s c r = Lends lender.the_row lent.the_row s r (with_known s.now c)
