-- What octets begin with, and what follows from it.
use Rattle.std.specs.Prelude.{Result, Ok, Err, OnErr}
use Rattle.std.proofs.Common.{◌≡◌, ℕ, ◌+◌, ◌≤◌, Bool, true, false, cond, ltb, List, ◌++◌, length, take, drop, Option, Some, None, refl, sym, ap, subst, ◌∙◌, arith}
use Rattle.std.specs.Int.{w32, from_be_bytes}
use Rattle.std.proofs.lemmas.Bool.{ltb-false, le-ltb}
use Rattle.std.proofs.lemmas.List.{take-take, take-append-drop, length-append, length-take}
use Rattle.smx_pdu.specs.declared.pdu.Pdu.{Pdu}
use Rattle.smx_pdu.specs.Pdu.{spelling, Spells, length_field, number_at}
use Rattle.smx_pdu.proofs.Spelling.{Spells-length, Spells-field, IsBytes, spelled, field_of_first}
use Rattle.smx_frame.specs.declared.fault.FrameFault.{FrameFault}
use Rattle.smx_frame.specs.declared.fault.FrameFault.TheVariants.{Below16, AboveMax, NoMemory}
use Rattle.smx_frame.specs.declared.front.Front.{Front}
use Rattle.smx_frame.specs.declared.front.Front.TheVariants.{Part, Bad, Whole}
use Rattle.smx_frame.specs.Stream.{fault_at, IsFrame, HasNone, TakesFirst, BeginsFrame}
use Rattle.smx_frame.specs.Private.Front.{front_of}

abbrev pub fault_in : Front → Option FrameFault
fault_in Part = None
fault_in (Bad e) = Some e
fault_in (Whole n) = None

chosen : Bool → Bool → Bool → Bool → ℕ → Front
chosen a b c d n = cond a Part (cond b (Bad Below16) (cond c (Bad AboveMax) (cond d Part (Whole n))))

fault_chosen : (a b c d : Bool) (n : ℕ) → fault_in (chosen a b c d n) ≡ cond a None (cond b (Some Below16) (cond c (Some AboveMax) None))
unfolding chosen
fault_chosen true b c d n = refl
fault_chosen false true c d n = refl
fault_chosen false false true d n = refl
fault_chosen false false false true n = refl
fault_chosen false false false false n = refl

pub fault_front : (max : ℕ) (r : List ℕ) (f : Front) → f ≡ front_of max r → fault_at max r ≡ fault_in f
unfolding chosen front_of fault_at
fault_front max r f e = sym (ap fault_in e ∙ fault_chosen (ltb (length r) 4) (ltb (length_field r) 16) (ltb max (length_field r)) (ltb (length r) (length_field r)) (length_field r))

whole_chosen : (a b c d : Bool) (n m : ℕ) → Whole m ≡ chosen a b c d n → (a ≡ false) × (b ≡ false) × (c ≡ false) × (d ≡ false) × (m ≡ n)
unfolding chosen
whole_chosen true b c d n m e = absurd cc
whole_chosen false true c d n m e = absurd cc
whole_chosen false false true d n m e = absurd cc
whole_chosen false false false true n m e = absurd cc
whole_chosen false false false false n m e = (refl, refl, refl, refl, cc)

-- what is known of a whole PDU's length
pub record IsWhole (max : ℕ) (r : List ℕ) (n : ℕ) : Type 0 where
  pub field : n ≡ length_field r
  pub least : 16 ≤ n
  pub most : n ≤ max
  pub here : n ≤ length r

pub whole_front : (max : ℕ) (r : List ℕ) (n : ℕ) → Whole n ≡ front_of max r → IsWhole max r n
unfolding chosen front_of
whole_front max r n e =
    let w = whole_chosen (ltb (length r) 4) (ltb (length_field r) 16) (ltb max (length_field r)) (ltb (length r) (length_field r)) (length_field r) n e in
    let least : 16 ≤ length_field r = ltb-false _ _ w.1 in
    let most : length_field r ≤ max = ltb-false _ _ w.2 in
    let here : length_field r ≤ length r = ltb-false _ _ w.3 in
    let same = w.4 in
    record { field = same; least = rw same least; most = rw same most; here = rw same here }

front_whole : (max : ℕ) (r : List ℕ) → 16 ≤ length_field r → length_field r ≤ max → length_field r ≤ length r → front_of max r ≡ Whole (length_field r)
unfolding front_of
front_whole max r least most here =
    let long : ltb (length r) 4 ≡ false = le-ltb _ _ (omega arith) in
    let a : ltb (length_field r) 16 ≡ false = le-ltb _ _ least in
    let b : ltb max (length_field r) ≡ false = le-ltb _ _ most in
    let c : ltb (length r) (length_field r) ≡ false = le-ltb _ _ here in
    rw (long, a, b, c) refl

-- a part of a PDU begins with none
pub part_has_none : (max : ℕ) (r : List ℕ) → Part ≡ front_of max r → HasNone max r
part_has_none max r e p octets more frame parts =
    let field : length_field r ≡ length octets = ap length_field parts ∙ Spells-field p octets more frame.spells in
    let len = Spells-length p octets frame.spells in
    let within = frame.within in
    let total : length r ≡ length octets + length more = ap length parts ∙ length-append octets more in
    let whole = front_whole max r (omega arith) (omega arith) (omega arith) in
    absurd cc

-- nothing failed where there is no fault
pub not_failed : (failed fault : Option FrameFault) → ((e : FrameFault) → failed ≡ Some e → fault ≡ Some e) → fault ≡ None → failed ≡ None
not_failed None fault h none = refl
not_failed (Some e) fault h none = let bad = h e refl in absurd cc

-- the PDU that the front spells
pub taken : (max : ℕ) (r : List ℕ) (n : ℕ) (p : Pdu) (rest : List ℕ) → IsWhole max r n → Spells p (take n r) → rest ≡ drop n r → TakesFirst max r p rest
taken max r n p rest whole spells e =
    let here = whole.here in
    let most = whole.most in
    let len : length (take n r) ≡ n = omega (arith, length-take n r) in
    let frame : IsFrame max p (take n r) = record { spells = spells; within = omega arith } in
    (subst (λ (o : List ℕ). IsFrame max p o) spells.octets frame, sym (take-append-drop n r) ∙ ap (λ (o : List ℕ). o ++ drop n r) spells.octets ∙ ap (λ (m : List ℕ). spelling p ++ m) (sym e))

pub at : {max here : ℕ} {r s : List ℕ} {f : Front} → f ≡ front_of max r → max ≡ here → r ≡ s → f ≡ front_of here s
at {max} {here} {r} {s} {f} e m q = e ∙ ap (λ (k : ℕ). front_of k r) m ∙ ap (front_of here) q

-- the same fault, and no other
pub same_fault : (max : ℕ) (r : List ℕ) (f e : FrameFault) → Bad f ≡ front_of max r → fault_at max r ≡ Some e → f ≡ e
same_fault max r f e front fault = let g = fault_front max r (Bad f) front in cc

memory_chosen : (a b c d : Bool) (n : ℕ) → Bad NoMemory ≡ chosen a b c d n → ⊥
unfolding chosen
memory_chosen true b c d n e = absurd cc
memory_chosen false true c d n e = absurd cc
memory_chosen false false true d n e = absurd cc
memory_chosen false false false true n e = absurd cc
memory_chosen false false false false n e = absurd cc

-- want of memory is no fault of the octets
pub not_memory : (max : ℕ) (r : List ℕ) (f : FrameFault) → Bad f ≡ front_of max r → f ≡ NoMemory → ⊥
unfolding chosen front_of
not_memory max r f e h = memory_chosen (ltb (length r) 4) (ltb (length_field r) 16) (ltb max (length_field r)) (ltb (length r) (length_field r)) (length_field r) (ap (λ (x : FrameFault). Bad x) (sym h) ∙ e)

no_memory_chosen : (a b c : Bool) → cond a None (cond b (Some Below16) (cond c (Some AboveMax) None)) ≡ Some NoMemory → ⊥
no_memory_chosen true b c e = absurd cc
no_memory_chosen false true c e = absurd cc
no_memory_chosen false false true e = absurd cc
no_memory_chosen false false false e = absurd cc

-- nor is it one that the octets have
pub no_memory_fault : (max : ℕ) (r : List ℕ) → fault_at max r ≡ Some NoMemory → ⊥
unfolding fault_at
no_memory_fault max r e = no_memory_chosen (ltb (length r) 4) (ltb (length_field r) 16) (ltb max (length_field r)) e

-- a whole front has the length of its field
pub whole_field : (max : ℕ) (r : List ℕ) (n : ℕ) → IsWhole max r n → length_field (take n r) ≡ length (take n r)
whole_field max r n whole =
    let here = whole.here in
    let least = whole.least in
    let len : length (take n r) ≡ n = omega (arith, length-take n r) in
    ap (from_be_bytes w32) (take-take 4 n r (omega arith)) ∙ sym whole.field ∙ sym len

-- octets that are as many as their length field says spell a PDU
pub pdu_there : (bs : List ℕ) → 16 ≤ length bs → length bs ≤ 65536 → length_field bs ≡ length bs → IsBytes bs → (p : Pdu) × Spells p bs
pdu_there bs least most field fits =
    let first = take 16 bs in
    let p : Pdu = record { command = number_at 4 first; status = number_at 8 first; number = number_at 12 first; body = drop 16 bs } in
    (p, spelled bs first p refl refl refl refl refl fits least most (field_of_first bs first refl ∙ field))

pub begins : (max : ℕ) (r : List ℕ) (n : ℕ) → IsWhole max r n → (p : Pdu) × Spells p (take n r) → BeginsFrame max r
begins max r n whole found = (found.0, (drop n r, taken max r n found.0 (drop n r) whole found.1 refl))

pub on_err : {T E : Type 0} {P : Type 0} (r : Result T E) → P → OnErr r P
on_err (Ok x) p = tt
on_err (Err e) p = p
