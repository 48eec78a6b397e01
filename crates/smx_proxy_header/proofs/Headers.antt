-- What begins a header, and what begins none.
use Rattle.std.proofs.Common.{◌≡◌, ℕ, ◌+◌, ◌*◌, ◌-◌, ◌<◌, ◌≤◌, true, nat_le, List, [], ◌∷◌, ◌++◌, length, take, drop, get_or, replicate, inl, inr, ◌⊎◌, subst, Option, Some, None, is_some, refl, sym, ap, ◌∙◌, arith, length-append, length-drop, append_assoc, append-nil}
use Rattle.std.proofs.Math.Seq.{take-append-add}
use Rattle.std.proofs.lemmas.List.{length-replicate, length-take-le, take-append-le, take-append-drop, take_all}
use Rattle.std.proofs.lemmas.Bool.{and_parts, leb-true, leb-false, cases_Bool}
use Rattle.smx_proxy_header.specs.declared.addresses.Addresses.{Addresses}
use Rattle.smx_proxy_header.specs.declared.addresses.Addresses.TheVariants.{Unread, Tcp4, Tcp6}
use Rattle.smx_proxy_header.specs.declared.header.ProxyHeader.{ProxyHeader}
use Rattle.smx_proxy_header.specs.declared.header.ProxyHeader.TheVariants.{Part, Whole, Wrong}
use Rattle.smx_proxy_header.specs.declared.source.Source.{Source}
use Rattle.smx_proxy_header.specs.Header.{signature, addresses_of, count, source_in, IsHeader, HasNone, Begins}
use Rattle.smx_proxy_header.specs.Private.Front.{may_begin}

pub header_length : (header : List ℕ) (source : Source) → (is : IsHeader header source) → length header ≡ 16 + (is.high * 256 + is.low)
header_length header source is = let all = ap length is.octets in let long = is.as_long in omega arith

pub few_have_none : (s : List ℕ) → length s < 16 → HasNone s
few_have_none s few header more source is parts =
    let long = header_length header source is in
    let total : length s ≡ length header + length more = ap length parts ∙ length-append header more in
    omega arith

-- the octets of a header behind its signature are those that stand there
record SameFields (c f h l : ℕ) (s back : List ℕ) (header : List ℕ) (source : Source) (is : IsHeader header source) : Type 0 where
  pub command : is.command ≡ c
  pub family : is.family ≡ f
  pub high : is.high ≡ h
  pub low : is.low ≡ l
  pub rest : s ≡ is.rest ++ back

same_fields : (c f h l : ℕ) (s back : List ℕ) (header : List ℕ) (source : Source) → (is : IsHeader header source) → signature ++ c ∷ f ∷ h ∷ l ∷ s ≡ header ++ back → SameFields c f h l s back header source is
same_fields c f h l s back header source is e =
    let whole : signature ++ c ∷ f ∷ h ∷ l ∷ s ≡ signature ++ is.command ∷ is.family ∷ is.high ∷ is.low ∷ (is.rest ++ back) = e ∙ ap (λ (x : List ℕ). x ++ back) is.octets in
    record { command = grind arith; family = grind arith; high = grind arith; low = grind arith; rest = grind arith }

pub part_fields : (c f h l : ℕ) (rest : List ℕ) (a : Addresses) → addresses_of c f ≡ Some a → count a ≤ h * 256 + l → h * 256 + l ≤ 4096 → length rest < h * 256 + l → Begins (signature ++ c ∷ f ∷ h ∷ l ∷ rest) Part
part_fields c f h l rest a known enough within part =
    let lacking = h * 256 + l - length rest in
    let zeros : List ℕ = replicate lacking 0 in
    let long : length (rest ++ zeros) ≡ h * 256 + l = let sum = length-append rest zeros in let given : length zeros ≡ lacking = length-replicate lacking 0 in omega arith in
    let none : HasNone (signature ++ c ∷ f ∷ h ∷ l ∷ rest) = (λ header more source is e.
    let same = same_fields c f h l rest more header source is e in
    let parts : length rest ≡ length is.rest + length more = ap length same.rest ∙ length-append is.rest more in
    let said : length is.rest ≡ h * 256 + l = rw (← same.high, ← same.low) is.as_long in
    omega arith) in
    (none, (zeros, source_in a (rest ++ zeros), record { command = c; family = f; high = h; low = l; rest = rest ++ zeros; addresses = a; octets = refl; as_long = long; within = omega arith; known = known; enough = omega arith; named = refl }))

pub whole_fields : (c f h l n : ℕ) (rest : List ℕ) (a : Addresses) → addresses_of c f ≡ Some a → n ≡ h * 256 + l → count a ≤ n → n ≤ 4096 → n ≤ length rest → Begins (signature ++ c ∷ f ∷ h ∷ l ∷ rest) (Whole (16 + n) (source_in a (take n rest)))
whole_fields c f h l n rest a known said enough within here =
    let head = signature ++ c ∷ f ∷ h ∷ l ∷ [] in
    let cut : take (16 + n) (signature ++ c ∷ f ∷ h ∷ l ∷ rest) ≡ signature ++ c ∷ f ∷ h ∷ l ∷ take n rest = take-append-add head rest n in
    let long : length (take n rest) ≡ n = length-take-le n rest here in
    (omega arith, record { command = c; family = f; high = h; low = l; rest = take n rest; addresses = a; octets = cut; as_long = long ∙ said; within = omega arith; known = known; enough = omega arith; named = refl })

-- any family follows a command
pub any_family : (c f : ℕ) → is_some (addresses_of c 0) ≡ true → is_some (addresses_of c f) ≡ true
any_family c f e = grind arith

-- the greatest count
at_most_36 : (a : Addresses) → count a ≤ 36
at_most_36 Unread = omega arith
at_most_36 Tcp4 = omega arith
at_most_36 Tcp6 = omega arith

some_in : {A : Type 0} (o : Option A) → is_some o ≡ true → (a : A) × (o ≡ Some a)
some_in None e = absurd cc
some_in (Some a) e = (a, refl)

IsFront : List ℕ → Type 0
IsFront octets = (more : List ℕ) × (source : Source) × IsHeader (octets ++ more) source

-- a header of such fields, behind whose length stand zeros
from_fields : (c f h l : ℕ) → is_some (addresses_of c 0) ≡ true → 36 ≤ h * 256 + l → h * 256 + l ≤ 4096 → (source : Source) × IsHeader (signature ++ c ∷ f ∷ h ∷ l ∷ replicate (h * 256 + l) 0) source
from_fields c f h l known least within =
    let some = some_in (addresses_of c f) (any_family c f known) in
    let zeros : List ℕ = replicate (h * 256 + l) 0 in
    let long : length zeros ≡ h * 256 + l = length-replicate (h * 256 + l) 0 in
    let few = at_most_36 some.0 in
    (source_in some.0 zeros, record { command = c; family = f; high = h; low = l; rest = zeros; addresses = some.0; octets = refl; as_long = long; within = omega arith; known = some.1; enough = omega arith; named = refl })

-- a length with this upper octet
low_for : (h : ℕ) → h ≤ 16 → (l : ℕ) × (36 ≤ h * 256 + l) × (h * 256 + l ≤ 4096)
low_for h few = elim (cases_Bool (nat_le h 15)) [
  | inl low ↦ let below = leb-true h 15 low in (36, omega arith, omega arith)
  | inr high ↦ let above = leb-false h 15 high in (0, omega arith, omega arith)
]

front_rest : (s : List ℕ) → length s < 4 → may_begin s ≡ true → IsFront (signature ++ s)
unfolding IsFront
front_rest [] few e = let whole = from_fields 0x20 0 0 36 refl (omega arith) (omega arith) in (0x20 ∷ 0 ∷ 0 ∷ 36 ∷ replicate 36 0, whole.0, whole.1)
front_rest (c ∷ []) few e = let whole = from_fields c 0 0 36 e (omega arith) (omega arith) in (0 ∷ 0 ∷ 36 ∷ replicate 36 0, whole.0, whole.1)
front_rest (c ∷ f ∷ []) few e = let whole = from_fields c f 0 36 e (omega arith) (omega arith) in (0 ∷ 36 ∷ replicate 36 0, whole.0, whole.1)
front_rest (c ∷ f ∷ h ∷ []) few e =
    let both = and_parts _ _ e in
    let low = low_for h (leb-true _ _ both.1) in
    let whole = from_fields c f h low.0 both.0 low.1 low.2 in
    (low.0 ∷ replicate (h * 256 + low.0) 0, whole.0, whole.1)
front_rest (c ∷ f ∷ h ∷ l ∷ s) few e = absurd (omega arith)

pub part_rest : (s : List ℕ) → length s < 4 → may_begin s ≡ true → Begins (signature ++ s) Part
unfolding IsFront
part_rest s few e =
    let long = length-append signature s in
    (few_have_none (signature ++ s) (omega arith), front_rest s few e)

pub part_signature : (s : List ℕ) → length s ≤ 12 → signature ≡ s ++ drop (length s) signature → Begins s Part
part_signature s few e =
    let local = from_fields 0x20 0 0 36 refl (omega arith) (omega arith) in
    let end : List ℕ = 0x20 ∷ 0 ∷ 0 ∷ 36 ∷ replicate 36 0 in
    let more = drop (length s) signature ++ end in
    let whole : signature ++ end ≡ s ++ more = ap (λ (x : List ℕ). x ++ end) e ∙ append_assoc s (drop (length s) signature) end in
    (few_have_none s (omega arith), (more, local.0, subst (λ (x : List ℕ). IsHeader x local.0) whole local.1))

-- what goes on as a header begins with the signature, or is a front of it
signature_or_front : (s more t : List ℕ) → s ++ more ≡ signature ++ t → (s ≡ signature ++ drop 12 s) ⊎ (signature ≡ s ++ drop (length s) signature)
signature_or_front s more t e = elim (cases_Bool (nat_le 12 (length s))) [
  | inl long ↦
      let enough = leb-true 12 (length s) long in
      let front : take 12 s ≡ signature = sym (take-append-le 12 s more enough) ∙ ap (take 12) e ∙ take-append-le 12 signature t (omega arith) in
      inl (sym (take-append-drop 12 s) ∙ ap (λ (x : List ℕ). x ++ drop 12 s) front)
  | inr short ↦
      let few = leb-false 12 (length s) short in
      let front : s ≡ take (length s) signature = sym (take_all (length s) s (omega arith)) ∙ sym (take-append-le (length s) s more (omega arith)) ∙ ap (take (length s)) e ∙ take-append-le (length s) signature t (omega arith) in
      inr (sym (take-append-drop (length s) signature) ∙ ap (λ (x : List ℕ). x ++ drop (length s) signature) (sym front))
]

pub wrong_signature : (s : List ℕ) → ((t : List ℕ) → s ≡ signature ++ t → ⊥) → ((t : List ℕ) → signature ≡ s ++ t → ⊥) → Begins s Wrong
wrong_signature s no_signature no_front more header back source is parts =
    let t = is.command ∷ is.family ∷ is.high ∷ is.low ∷ (is.rest ++ back) in
    let whole : s ++ more ≡ signature ++ t = parts ∙ ap (λ (x : List ℕ). x ++ back) is.octets in
    elim (signature_or_front s more t whole) [
      | inl begins ↦ no_signature (drop 12 s) begins
      | inr front ↦ no_front (drop (length s) signature) front
    ]

-- the rest behind so many octets
rest_of : (n : ℕ) (s : List ℕ) → take (length s - n) (drop n s) ≡ drop n s
rest_of n s = let long = length-drop n s in take_all (length s - n) (drop n s) (omega arith)

pub behind_signature : (s : List ℕ) → s ≡ signature ++ drop 12 s → s ≡ signature ++ take (length s - 12) (drop 12 s)
behind_signature s e = e ∙ ap (λ (x : List ℕ). signature ++ x) (sym (rest_of 12 s))

four_first : (s : List ℕ) → 4 ≤ length s → s ≡ get_or s 0 0 ∷ get_or s 1 0 ∷ get_or s 2 0 ∷ get_or s 3 0 ∷ drop 4 s
four_first [] long = absurd (omega arith)
four_first (a ∷ []) long = absurd (omega arith)
four_first (a ∷ b ∷ []) long = absurd (omega arith)
four_first (a ∷ b ∷ c ∷ []) long = absurd (omega arith)
four_first (a ∷ b ∷ c ∷ d ∷ s) long = refl

pub four_fields : (s : List ℕ) → 4 ≤ length s → s ≡ get_or s 0 0 ∷ get_or s 1 0 ∷ get_or s 2 0 ∷ get_or s 3 0 ∷ take (length s - 4) (drop 4 s)
four_fields s long = four_first s long ∙ ap (λ (x : List ℕ). get_or s 0 0 ∷ get_or s 1 0 ∷ get_or s 2 0 ∷ get_or s 3 0 ∷ x) (sym (rest_of 4 s))

-- what is part of a header is shorter than the longest one
part_few : (s : List ℕ) → Begins s Part → length s < 4112
unfolding IsFront
part_few s (none, ([], source, is)) = absurd (none s [] source (subst (λ (x : List ℕ). IsHeader x source) (append-nil s) is) (sym (append-nil s)))
part_few s (none, (o ∷ more, source, is)) =
    let whole = header_length (s ++ o ∷ more) source is in
    let parts = length-append s (o ∷ more) in
    let long = is.as_long in
    let within = is.within in
    omega arith

pub few_of : (s : List ℕ) (h : ProxyHeader) → Begins s h → h ≡ Part → length s < 4112
few_of s h begins e = part_few s (subst (Begins s) e begins)
