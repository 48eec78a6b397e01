-- The prefixes of a client that binds.
use Rattle.std.proofs.Common.{◌≡◌, ℕ, Bool, List, subst, Vec, Global}
use Rattle.smx_turns.specs.declared.directory.Query.{Query}
use Rattle.smx_client.specs.Prefixes.{Adds}

pub adds_as : (c c' : ℕ) (ps ps' : List (Vec ℕ Global)) (old new : List Query) (whole : Bool) → c' ≡ c → ps' ≡ ps → Adds c' ps' old new whole → Adds c ps old new whole
adds_as c c' ps ps' old new whole client prefixes adds = subst (λ k. Adds k ps old new whole) client (subst (λ l. Adds c' l old new whole) prefixes adds)
