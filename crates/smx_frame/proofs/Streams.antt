-- Streams are read in one way.
use Rattle.std.proofs.Common.{◌≡◌, ℕ, ◌≤◌, Bool, true, false, cond, ltb, List, [], ◌∷◌, ◌++◌, length, take, drop, Some, None, refl, sym, ap, subst, ◌∙◌, arith, append_assoc}
use Rattle.std.specs.List.{flat_map, AllByRecursion}
use Rattle.std.specs.Int.{w32, from_be_bytes}
use Rattle.std.proofs.lemmas.Bool.{ltb-false, le-ltb}
use Rattle.std.proofs.lemmas.List.{append-nil, take_at, drop_at, length-append, take-append-le}
use Rattle.smx_pdu.specs.declared.pdu.Pdu.{Pdu}
use Rattle.smx_pdu.specs.Pdu.{spelling, Spells, length_field}
use Rattle.smx_pdu.proofs.Spelling.{Spells-length, Spells-field, one_pdu}
use Rattle.smx_frame.specs.declared.fault.FrameFault.{FrameFault}
use Rattle.smx_frame.specs.declared.fault.FrameFault.TheVariants.{Below16, AboveMax}
use Rattle.smx_frame.specs.Stream.{IsFrame, HasNone, Begins, Cuts, fault_at}
use Rattle.smx_frame.specs.Calls.{Call, octets_fed, pdus_given, Goes, StreamLaw}
use Rattle.smx_frame.specs.Calls.Call.{fed, given}

-- ---- any calls

pub kept_from : (max : ℕ) (old : List ℕ) (calls : List Call) (rest : List ℕ) → Goes max old calls rest → Begins max (old ++ octets_fed calls) (pdus_given calls) rest
kept_from max old [] rest goes = record { whole = append-nil old ∙ sym goes; each = tt }
kept_from max old (fed piece ∷ calls) rest goes =
    let on = kept_from max (old ++ piece) calls rest goes in
    record { whole = sym (append_assoc old piece (octets_fed calls)) ∙ on.whole; each = on.each }
kept_from max old (given p ∷ calls) rest goes =
    let on = kept_from max goes.0 calls rest goes.1.1 in
    record {
      whole = ap (λ (x : List ℕ). x ++ octets_fed calls) goes.1.0.1 ∙ append_assoc (spelling p) goes.0 (octets_fed calls)
          ∙ ap (λ (x : List ℕ). spelling p ++ x) on.whole ∙ sym (append_assoc (spelling p) (flat_map spelling (pdus_given calls)) rest);
      each = (goes.1.0.0, on.each);
    }

-- ---- one reading

-- two PDUs that octets begin with are one
first_same : (max : ℕ) (p q : Pdu) (x y : List ℕ) → IsFrame max p (spelling p) → IsFrame max q (spelling q) → spelling p ++ x ≡ spelling q ++ y → (p ≡ q) × (x ≡ y)
first_same max p q x y fp fq e =
    let here = Spells-field p (spelling p) x fp.spells in
    let there = Spells-field q (spelling q) y fq.spells in
    let len : length (spelling p) ≡ length (spelling q) = sym here ∙ ap (λ (bs : List ℕ). length_field bs) e ∙ there in
    let front : spelling p ≡ spelling q = sym (take_at (spelling p) x (length (spelling q)) len) ∙ ap (take (length (spelling q))) e ∙ take_at (spelling q) y (length (spelling q)) refl in
    let back : x ≡ y = sym (drop_at (spelling p) x (length (spelling q)) len) ∙ ap (drop (length (spelling q))) e ∙ drop_at (spelling q) y (length (spelling q)) refl in
    (one_pdu p q (spelling p) fp.spells (subst (λ (bs : List ℕ). Spells q bs) (sym front) fq.spells), back)

abbrev AreFrames : ℕ → List Pdu → Type 0
AreFrames max ps = AllByRecursion (λ p. IsFrame max p (spelling p)) ps

same_from : (max : ℕ) (ps qs : List Pdu) (r s : List ℕ) → AreFrames max ps → AreFrames max qs → HasNone max r → HasNone max s
    → flat_map spelling ps ++ r ≡ flat_map spelling qs ++ s → (ps ≡ qs) × (r ≡ s)
same_from max [] [] r s fp fq nr ns e = (refl, e)
same_from max [] (q ∷ qs) r s fp fq nr ns e = absurd (nr q (spelling q) (flat_map spelling qs ++ s) fq.0 (e ∙ append_assoc (spelling q) (flat_map spelling qs) s))
same_from max (p ∷ ps) [] r s fp fq nr ns e = absurd (ns p (spelling p) (flat_map spelling ps ++ r) fp.0 (sym e ∙ append_assoc (spelling p) (flat_map spelling ps) r))
same_from max (p ∷ ps) (q ∷ qs) r s fp fq nr ns e =
    let first = first_same max p q (flat_map spelling ps ++ r) (flat_map spelling qs ++ s) fp.0 fq.0 (sym (append_assoc (spelling p) (flat_map spelling ps) r) ∙ e ∙ append_assoc (spelling q) (flat_map spelling qs) s) in
    let others = same_from max ps qs r s fp.1 fq.1 nr ns first.1 in
    (ap (λ (x : Pdu). x ∷ ps) first.0 ∙ ap (λ (xs : List Pdu). q ∷ xs) others.0, others.1)

pub one_reading : (max : ℕ) (octets : List ℕ) (ps qs : List Pdu) (r s : List ℕ) → Cuts max octets ps r → Cuts max octets qs s → (ps ≡ qs) × (r ≡ s)
one_reading max octets ps qs r s a b = same_from max ps qs r s a.begins.each b.begins.each a.none b.none (sym a.begins.whole ∙ b.begins.whole)

any_pieces : (max : ℕ) (calls others : List Call) (r s : List ℕ) → octets_fed calls ≡ octets_fed others
    → Goes max [] calls r → HasNone max r → Goes max [] others s → HasNone max s → (pdus_given calls ≡ pdus_given others) × (r ≡ s)
any_pieces max calls others r s e here nr there ns =
    let a = kept_from max [] calls r here in
    let b = kept_from max [] others s there in
    same_from max (pdus_given calls) (pdus_given others) r s a.each b.each nr ns (sym a.whole ∙ e ∙ b.whole)

-- ---- a bad length

fault_cases : (a b c : Bool) (e : FrameFault) → cond a None (cond b (Some Below16) (cond c (Some AboveMax) None)) ≡ Some e → (a ≡ false) × (b ≡ false → c ≡ true)
fault_cases true b c e h = absurd cc
fault_cases false true c e h = (refl, λ no. absurd cc)
fault_cases false false true e h = (refl, λ _. refl)
fault_cases false false false e h = absurd cc

-- octets at a bad length begin with no PDU
pub bad_has_none : (max : ℕ) (r : List ℕ) (e : FrameFault) → fault_at max r ≡ Some e → HasNone max r
unfolding fault_at
bad_has_none max r e h p octets more frame parts =
    let field : length_field r ≡ length octets = ap length_field parts ∙ Spells-field p octets more frame.spells in
    let len = Spells-length p octets frame.spells in
    let within = frame.within in
    let cases = fault_cases (ltb (length r) 4) (ltb (length_field r) 16) (ltb max (length_field r)) e h in
    let least : ltb (length_field r) 16 ≡ false = le-ltb _ _ (omega arith) in
    let most : ltb max (length_field r) ≡ false = le-ltb _ _ (omega arith) in
    let bad = cases.1 least in
    absurd cc

-- and they stay so
pub still_bad : (max : ℕ) (r more : List ℕ) (e : FrameFault) → fault_at max r ≡ Some e → fault_at max (r ++ more) ≡ Some e
unfolding fault_at
still_bad max r more e h =
    let cases = fault_cases (ltb (length r) 4) (ltb (length_field r) 16) (ltb max (length_field r)) e h in
    let long : 4 ≤ length r = ltb-false _ _ cases.0 in
    let longer : ltb (length (r ++ more)) 4 ≡ false = le-ltb _ _ (omega (arith, length-append r more)) in
    let field : length_field (r ++ more) ≡ length_field r = ap (from_be_bytes w32) (take-append-le 4 r more long) in
    rw (longer, field) (rw cases.0 at h)

pub stream_law : StreamLaw
stream_law = record {
  kept = λ max calls rest goes. kept_from max [] calls rest goes;
  one_reading = one_reading;
  any_pieces = any_pieces;
  bad_length = λ max rest more e h. (bad_has_none max (rest ++ more) e (still_bad max rest more e h), still_bad max rest more e h);
}
