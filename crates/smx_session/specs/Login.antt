-- What a client that may bind says in its bind, and what it may do then; and what the proxy's own bind says.
use Rattle.std.specs.Prelude.{ℕ, List}
use Rattle.smx_session.specs.declared.kind.Kind.{Kind}
use Rattle.smx_session.specs.declared.rules.Rules.{Rules}

pub record Login : Type 0 where
  pub system_id : List ℕ
  pub password : List ℕ
  pub rules : Rules

-- the proxy's own bind (4.1), whose address range has no type of number and no numbering plan
pub record OwnBind : Type 0 where
  pub kind : Kind
  pub system_id : List ℕ
  pub password : List ℕ
  pub system_type : List ℕ
  pub interface_version : ℕ
  pub address_range : List ℕ
