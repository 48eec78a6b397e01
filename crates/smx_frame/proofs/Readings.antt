-- Each stream has a reading.
use Rattle.std.proofs.Common.{◌≡◌, ◌⊎◌, ℕ, zero, suc, ◌+◌, ◌^◌, ◌<◌, ◌≤◌, Bool, true, false, ltb, leb, ◌&&◌, List, [], ◌∷◌, ◌++◌, length, take, drop, refl, sym, ap, subst, ◌∙◌, arith, inl, inr, append_assoc, bytes_eq}
use Rattle.std.specs.List.{flat_map}
use Rattle.std.specs.Int.{w32, from_be_bytes}
use Rattle.std.proofs.lemmas.Bool.{ltb-true, leb-true, lt-ltb, le-leb, and_parts, and_from, cases_Bool}
use Rattle.std.proofs.lemmas.Slice.Eq.{bytes_eq-Decides}
use Rattle.std.proofs.lemmas.List.{take_at, drop_at, drop-drop, take-append-drop, length-append}
use Rattle.smx_pdu.specs.declared.pdu.Pdu.{Pdu}
use Rattle.smx_pdu.specs.Pdu.{octets_of, spelling, Spells, length_field, number_at}
use Rattle.smx_pdu.proofs.Spelling.{length-octets_of, octets_of-back, Spells-length, Spells-field}
use Rattle.smx_frame.specs.Stream.{IsFrame, HasNone, BeginsFrame, Begins, Cuts}

-- the PDU that octets would spell
read_from : List ℕ → Pdu
read_from bs = record { command = number_at 4 bs; status = number_at 8 bs; number = number_at 12 bs; body = drop 16 bs }

made : ℕ → ℕ → ℕ → List ℕ → Pdu
made w x y z = record { command = w; status = x; number = y; body = z }

-- what a spelling is read from
read_again : (q : Pdu) (bs : List ℕ) → Spells q bs → read_from bs ≡ q
unfolding spelling read_from made
read_again q bs s =
    let three : List ℕ = octets_of q.number ++ q.body in
    let two : List ℕ = octets_of q.status ++ three in
    let one : List ℕ = octets_of q.command ++ two in
    let head : List ℕ = octets_of (16 + length q.body) in
    let four : drop 4 bs ≡ one = ap (drop 4) s.octets ∙ drop_at head one 4 (length-octets_of (16 + length q.body)) in
    let eight : drop 8 bs ≡ two = sym (drop-drop 4 4 bs) ∙ ap (drop 4) four ∙ drop_at (octets_of q.command) two 4 (length-octets_of q.command) in
    let twelve : drop 12 bs ≡ three = sym (drop-drop 4 8 bs) ∙ ap (drop 4) eight ∙ drop_at (octets_of q.status) three 4 (length-octets_of q.status) in
    let sixteen : drop 16 bs ≡ q.body = sym (drop-drop 4 12 bs) ∙ ap (drop 4) twelve ∙ drop_at (octets_of q.number) q.body 4 (length-octets_of q.number) in
    let command : number_at 4 bs ≡ q.command = ap (λ (x : List ℕ). from_be_bytes w32 (take 4 x)) four ∙ ap (from_be_bytes w32) (take_at (octets_of q.command) two 4 (length-octets_of q.command)) ∙ octets_of-back q.command s.command in
    let status : number_at 8 bs ≡ q.status = ap (λ (x : List ℕ). from_be_bytes w32 (take 4 x)) eight ∙ ap (from_be_bytes w32) (take_at (octets_of q.status) three 4 (length-octets_of q.status)) ∙ octets_of-back q.status s.status in
    let number : number_at 12 bs ≡ q.number = ap (λ (x : List ℕ). from_be_bytes w32 (take 4 x)) twelve ∙ ap (from_be_bytes w32) (take_at (octets_of q.number) q.body 4 (length-octets_of q.number)) ∙ octets_of-back q.number s.number in
    ap (λ (w : ℕ). made w (number_at 8 bs) (number_at 12 bs) (drop 16 bs)) command ∙ ap (λ (x : ℕ). made q.command x (number_at 12 bs) (drop 16 bs)) status
    ∙ ap (λ (y : ℕ). made q.command q.status y (drop 16 bs)) number ∙ ap (made q.command q.status q.number) sixteen

-- whether the octets are the PDU's, which is no longer than max
is_frame : ℕ → Pdu → List ℕ → Bool
is_frame max p bs =
    bytes_eq (spelling p) bs && (ltb p.command (2 ^ 32) && (ltb p.status (2 ^ 32) && (ltb p.number (2 ^ 32) && (leb (length bs) 65536 && leb (length bs) max))))

frame_true : (max : ℕ) (p : Pdu) (bs : List ℕ) → is_frame max p bs ≡ true → IsFrame max p bs
unfolding is_frame
frame_true max p bs e =
    let a = and_parts _ _ e in
    let b = and_parts _ _ a.1 in
    let c = and_parts _ _ b.1 in
    let d = and_parts _ _ c.1 in
    let f = and_parts _ _ d.1 in
    record {
      spells = record {
        octets = sym ((bytes_eq-Decides (spelling p) bs).0 a.0);
        command = ltb-true _ _ b.0;
        status = ltb-true _ _ c.0;
        number = ltb-true _ _ d.0;
        bounded = leb-true _ _ f.0;
      };
      within = leb-true _ _ f.1;
    }

frame_is : (max : ℕ) (p : Pdu) (bs : List ℕ) → IsFrame max p bs → is_frame max p bs ≡ true
unfolding is_frame
frame_is max p bs f =
    let s = f.spells in
    and_from _ _ ((bytes_eq-Decides (spelling p) bs).1 (sym s.octets))
    (and_from _ _ (lt-ltb _ _ s.command) (and_from _ _ (lt-ltb _ _ s.status) (and_from _ _ (lt-ltb _ _ s.number) (and_from _ _ (le-leb _ _ s.bounded) (le-leb _ _ f.within)))))

-- a PDU is at the front, or none is
pub first_or_none : (max : ℕ) (r : List ℕ) → BeginsFrame max r ⊎ HasNone max r
first_or_none max r =
    let n = length_field r in
    let bs = take n r in
    let p = read_from bs in
    elim (cases_Bool (is_frame max p bs)) [
      | inl is ↦
          let frame = frame_true max p bs is in
          let here = frame.spells.octets in
          inl (p, (drop n r, (subst (IsFrame max p) here frame, sym (take-append-drop n r) ∙ ap (λ (x : List ℕ). x ++ drop n r) here)))
      | inr other ↦ inr (λ q octets more frame parts.
          let long : n ≡ length octets = ap length_field parts ∙ Spells-field q octets more frame.spells in
          let same : bs ≡ octets = ap (take n) parts ∙ take_at octets more n (sym long) in
          let found : p ≡ q = ap read_from same ∙ read_again q octets frame.spells in
          let is : is_frame max p bs ≡ true = frame_is max p bs (subst (λ (x : Pdu). IsFrame max x bs) (sym found) (subst (IsFrame max q) (sym same) frame)) in
          absurd (let bad : true ≡ false = sym is ∙ other in cc))
    ]

abbrev HasCuts : ℕ → List ℕ → Type 0
HasCuts max r = (ps : List Pdu) × (rest : List ℕ) × Cuts max r ps rest

cuts_none : (max : ℕ) (r : List ℕ) → HasNone max r → HasCuts max r
cuts_none max r none = ([], r, record { begins = record { whole = refl; each = tt }; none = none })

cuts_more : (max : ℕ) (r : List ℕ) (b : BeginsFrame max r) → HasCuts max b.1.0 → HasCuts max r
cuts_more max r b others =
    let p = b.0 in
    let cuts = others.2 in (
      p ∷ others.0,
      others.1,
      record {
        begins = record {
          whole = b.1.1.1 ∙ ap (λ (x : List ℕ). spelling p ++ x) cuts.begins.whole ∙ sym (append_assoc (spelling p) (flat_map spelling others.0) others.1);
          each = (b.1.1.0, cuts.begins.each);
        };
        none = cuts.none;
      },
    )

-- what is left is shorter
shorter : (max : ℕ) (r : List ℕ) (b : BeginsFrame max r) → length b.1.0 < length r
shorter max r b =
    let long = Spells-length b.0 (spelling b.0) b.1.1.0.spells in
    omega (arith, long, ap length b.1.1.1, length-append (spelling b.0) b.1.0)

cuts_within : (fuel max : ℕ) (r : List ℕ) → length r < fuel → HasCuts max r
cuts_within zero max r le = absurd (omega arith)
cuts_within (suc fuel) max r le =
    elim (first_or_none max r) [
      | inr none ↦ cuts_none max r none
      | inl begins ↦ cuts_more max r begins (cuts_within fuel max begins.1.0 (let less = shorter max r begins in omega (arith, le, less)))
    ]

-- octets are some PDUs, and a rest that begins with none
pub some_cuts : (max : ℕ) (r : List ℕ) → (ps : List Pdu) × (rest : List ℕ) × Cuts max r ps rest
some_cuts max r = cuts_within (suc (length r)) max r (omega arith)
