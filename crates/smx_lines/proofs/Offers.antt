-- Requests that are passed on.
use Rattle.std.proofs.Common.{◌≡◌, ℕ, Bool, true, false, Option, Some, None, refl, sym, ap, ◌∙◌}
use mathlib.Core.Bool.{Bool-set}
use Rattle.smx_pdu.specs.declared.pdu.Pdu.{Pdu}
use Rattle.smx_pdu.specs.Command.{is_forwarded}
use Rattle.smx_history.specs.declared.request.Request.{Request}
use Rattle.smx_lines.specs.Relay.{request_if, request_of}

-- a test's being true has one proof
one_proof : (b : Bool) → IsProp (b ≡ true)
one_proof b = Bool-set b true

request_by : (c n : ℕ) (p : Pdu) → is_forwarded p.command ≡ true → Request
request_by c n p e = record { client = c; ordinal = n; own = p.number; command = p.command; body = p.body; forwarded = e }

pub requested : (c n : ℕ) (p : Pdu) (b : Bool) (e : is_forwarded p.command ≡ b) (f : is_forwarded p.command ≡ true)
    → Some (record { client = c; ordinal = n; own = p.number; command = p.command; body = p.body; forwarded = f }) ≡ request_if c n p b e
unfolding request_by
requested c n p true e f = ap (λ (x : is_forwarded p.command ≡ true). Some (request_by c n p x)) (one_proof (is_forwarded p.command) f e)
requested c n p false e f = absurd (let x : true ≡ false = sym f ∙ e in cc)

-- it is the client's, with that ordinal
named : (c n : ℕ) (p : Pdu) (r : Request) (b : Bool) (e : is_forwarded p.command ≡ b) → request_if c n p b e ≡ Some r → (r.client ≡ c) × (r.ordinal ≡ n)
named c n p r true e is = (ap (λ (o : Option Request). client_in c o) (sym is), ap (λ (o : Option Request). ordinal_in n o) (sym is))
  where
    client_in : ℕ → Option Request → ℕ
    client_in d None = d
    client_in d (Some x) = x.client

    ordinal_in : ℕ → Option Request → ℕ
    ordinal_in d None = d
    ordinal_in d (Some x) = x.ordinal
named c n p r false e is = absurd (let x : None ≡ Some r = is in cc)

pub request_named : (c n : ℕ) (p : Pdu) (r : Request) → request_of c n p ≡ Some r → (r.client ≡ c) × (r.ordinal ≡ n)
unfolding request_of
request_named c n p r is = named c n p r (is_forwarded p.command) refl is
