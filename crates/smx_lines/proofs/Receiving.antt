-- A stream's octets, cut into PDUs one after another.
use Rattle.std.proofs.Common.{◌≡◌, ◌⊎◌, ◌<◌, ℕ, List, [], ◌∷◌, ◌++◌, length, refl, sym, ap, subst, ◌∙◌, arith, append_assoc, Option, Some, None, inl, inr}
use Rattle.std.specs.Prelude.{IfSome}
use Rattle.std.specs.List.{flat_map}
use Rattle.std.proofs.lemmas.Grind.{flat_map-append}
use Rattle.std.proofs.lemmas.List.{append-nil, length-append}
use Rattle.smx_pdu.specs.declared.pdu.Pdu.{Pdu}
use Rattle.smx_pdu.specs.Pdu.{spelling}
use Rattle.smx_pdu.proofs.Spelling.{Spells-length}
use Rattle.smx_history.proofs.ListPushes.{All-push}
use Rattle.smx_frame.specs.declared.fault.FrameFault.{FrameFault}
use Rattle.smx_frame.specs.declared.fault.FrameFault.TheVariants.{NoMemory}
use Rattle.smx_frame.specs.Stream.{Stream, IsFrame, TakesFirst, HasNone, Begins, fault_at}
use Rattle.smx_frame.proofs.Streams.{bad_has_none}
use Rattle.smx_frame.proofs.Readings.{some_cuts}
use Rattle.smx_lines.specs.Links.{Receives}

-- these PDUs were handed out
pub record IsReceiving (old : Stream) (octets : List ℕ) (ps : List Pdu) (now : Stream) : Type 0 where
  pub begins : Begins old.max (old.rest ++ octets) ps now.rest
  pub stream : now ≡ record { max = old.max; rest = now.rest; failed = None }

pub receiving_start : (old now : Stream) (octets : List ℕ) (ps : List Pdu) → ps ≡ [] → now ≡ record old { rest = old.rest ++ octets; failed = None } → IsReceiving old octets ps now
receiving_start old now octets ps none fed =
    let rest : now.rest ≡ old.rest ++ octets = ap (λ (s : Stream). s.rest) fed in
    record {
      begins = subst (λ (qs : List Pdu). Begins old.max (old.rest ++ octets) qs now.rest) (sym none) (record { whole = sym rest; each = tt });
      stream = fed ∙ ap (λ (r : List ℕ). record { max = old.max; rest = r; failed = None }) (sym rest);
    }

pub receiving_more : (old now next : Stream) (octets : List ℕ) (ps qs : List Pdu) (p : Pdu) → IsReceiving old octets ps now → TakesFirst now.max now.rest p next.rest → next ≡ record now { rest = next.rest; failed = None } → qs ≡ ps ++ p ∷ [] → IsReceiving old octets qs next
receiving_more old now next octets ps qs p so_far takes left more =
    let max : now.max ≡ old.max = ap (λ (s : Stream). s.max) so_far.stream in
    let frame : IsFrame old.max p (spelling p) = subst (λ m. IsFrame m p (spelling p)) max takes.0 in
    let parts : flat_map spelling (ps ++ p ∷ []) ≡ flat_map spelling ps ++ spelling p = flat_map-append spelling ps (p ∷ []) ∙ ap (λ (x : List ℕ). flat_map spelling ps ++ x) (append-nil (spelling p)) in
    let whole : old.rest ++ octets ≡ flat_map spelling (ps ++ p ∷ []) ++ next.rest =
    so_far.begins.whole ∙ ap (λ (x : List ℕ). flat_map spelling ps ++ x) takes.1 ∙ sym (append_assoc (flat_map spelling ps) (spelling p) next.rest) ∙ ap (λ (x : List ℕ). x ++ next.rest) (sym parts) in
    record {
      begins = subst (λ (xs : List Pdu). Begins old.max (old.rest ++ octets) xs next.rest) (sym more)
          (record { whole = whole; each = All-push (λ q. IsFrame old.max q (spelling q)) ps p so_far.begins.each frame });
      stream = left ∙ ap (λ m. record { max = m; rest = next.rest; failed = None }) max;
    }

-- no more is whole
pub receiving_end : (old now next : Stream) (octets : List ℕ) (ps : List Pdu) → IsReceiving old octets ps now → HasNone now.max now.rest → fault_at now.max now.rest ≡ None → next ≡ now → Receives old octets ps next
receiving_end old now next octets ps so_far none sound same =
    let max : now.max ≡ old.max = ap (λ (s : Stream). s.max) so_far.stream in
    let here : fault_at old.max now.rest ≡ None = ap (λ m. fault_at m now.rest) (sym max) ∙ sound in
    subst (Receives old octets ps) (sym same) (record {
      cuts = record { begins = so_far.begins; none = subst (λ m. HasNone m now.rest) max none };
      left = so_far.stream ∙ ap (λ f. record { max = old.max; rest = now.rest; failed = f }) (sym here);
    })

-- a bad length came
pub receiving_fault : (old now next : Stream) (octets : List ℕ) (ps : List Pdu) (e : FrameFault) → IsReceiving old octets ps now → fault_at now.max now.rest ≡ Some e → next ≡ record now { failed = Some e } → Receives old octets ps next
receiving_fault old now next octets ps e so_far fault left =
    let max : now.max ≡ old.max = ap (λ (s : Stream). s.max) so_far.stream in
    let here : fault_at old.max now.rest ≡ Some e = ap (λ m. fault_at m now.rest) (sym max) ∙ fault in
    let rest : next.rest ≡ now.rest = ap (λ (s : Stream). s.rest) left in
    let there : fault_at old.max next.rest ≡ Some e = ap (fault_at old.max) rest ∙ here in
    record {
      cuts = record { begins = subst (λ (r : List ℕ). Begins old.max (old.rest ++ octets) ps r) (sym rest) so_far.begins; none = bad_has_none old.max next.rest e there };
      left = left ∙ ap (λ m. record { max = m; rest = now.rest; failed = Some e }) max ∙ ap (λ r. record { max = old.max; rest = r; failed = Some e }) (sym rest) ∙ ap (λ f. record { max = old.max; rest = next.rest; failed = f }) (sym there);
    }

-- a fault that isn't want of memory is the octets'
pub fault_by : (max : ℕ) (rest : List ℕ) (e d : FrameFault) → (e ≡ NoMemory) ⊎ (fault_at max rest ≡ Some e) → e ≡ d → (d ≡ NoMemory → ⊥) → fault_at max rest ≡ Some d
fault_by max rest e d only is other = elim only [
  | inl memory ↦ absurd (other (sym is ∙ memory))
  | inr fault ↦ fault ∙ ap (λ (f : FrameFault). Some f) is
]

-- a PDU that was handed out isn't left
pub receiving_smaller : (Q : Pdu → Type 0) (max : ℕ) (old new : List ℕ) (found : Option Pdu) (p : Pdu) → found ≡ Some p → IfSome found (λ q. TakesFirst max old q new × Q q) → length new < length old
receiving_smaller Q max old new found p is some =
    let takes = (subst (λ (o : Option Pdu). IfSome o (λ q. TakesFirst max old q new × Q q)) is some).0 in
    let long = Spells-length p (spelling p) takes.0.spells in
    omega (arith, long, ap length takes.1, length-append (spelling p) new)

-- whatever octets come, something is received
pub some_received : (old : Stream) (octets : List ℕ) → (ps : List Pdu) × (new : Stream) × Receives old octets ps new
some_received old octets =
    let cuts = some_cuts old.max (old.rest ++ octets) in
    let new : Stream = record { max = old.max; rest = cuts.1; failed = fault_at old.max cuts.1 } in
    (cuts.0, new, record { cuts = cuts.2; left = refl })
