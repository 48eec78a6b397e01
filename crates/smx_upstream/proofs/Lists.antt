-- The requests of a list go out one after another.
use Rattle.std.proofs.Common.{◌≡◌, ◌≤◌, ◌+◌, ℕ, List, [], ◌∷◌, ◌++◌, length, map, sym, ap, ◌∙◌, append_assoc, arith}
use Rattle.std.proofs.lemmas.List.{append-nil, map-append}
use Rattle.std.proofs.lemmas.List.Sums.{sum_by-cons}
use Rattle.smx_pdu.specs.declared.pdu.Pdu.{Pdu}
use Rattle.smx_pdu.specs.Pdu.{spelling}
use Rattle.smx_link.specs.Wiring.{spellings}
use Rattle.smx_lane.specs.declared.sent.Sent.{Sent}
use Rattle.smx_shared.specs.Batches.{octets_of_requests, octets_with}
use Rattle.smx_turns.proofs.Chains.{pushed}
use Rattle.smx_upstream.specs.Events.{face_up}

-- none was said yet
pub said_none : (start : List Pdu) (ss : List Sent) → ss ≡ [] → start ≡ start ++ map face_up ss
said_none start ss none = sym (append-nil start) ∙ ap (λ l. start ++ map face_up l) (sym none)

pub unsent_none : (start : List ℕ) (ss : List Sent) → ss ≡ [] → start ≡ start ++ spellings (map face_up ss)
unsent_none start ss none = sym (append-nil start) ∙ ap (λ l. start ++ spellings (map face_up l)) (sym none)

-- one more was said
pub said_more : (start said said' : List Pdu) (ss : List Sent) (s : Sent) (p : Pdu) → p ≡ face_up s → said' ≡ said ++ p ∷ [] → said ≡ start ++ map face_up ss → said' ≡ start ++ map face_up (ss ++ s ∷ [])
said_more start said said' ss s p is more was =
    more ∙ ap (λ q. said ++ q ∷ []) is ∙ ap (λ l. l ++ face_up s ∷ []) was ∙ append_assoc start (map face_up ss) (face_up s ∷ []) ∙ ap (λ l. start ++ l) (sym (map-append face_up ss (s ∷ [])))

pub unsent_more : (start us us' : List ℕ) (ss : List Sent) (s : Sent) (p : Pdu) → p ≡ face_up s → us' ≡ us ++ spelling p → us ≡ start ++ spellings (map face_up ss) → us' ≡ start ++ spellings (map face_up (ss ++ s ∷ []))
unsent_more start us us' ss s p is more was =
    more ∙ ap (λ q. us ++ spelling q) is ∙ ap (λ l. l ++ spelling (face_up s)) was ∙ append_assoc start (spellings (map face_up ss)) (spelling (face_up s))
    ∙ ap (λ l. start ++ l) (sym (pushed spelling (map face_up ss) (face_up s))) ∙ ap (λ l. start ++ spellings l) (sym (map-append face_up ss (s ∷ [])))

-- there is room for the first of those that are left, and then for the others
pub room_for_first : (ss rest : List Sent) (s : Sent) (room : ℕ) → ss ≡ s ∷ rest → octets_of_requests ss ≤ room → 16 + length s.request.body ≤ room
room_for_first ss rest s room is enough =
    omega (arith, enough, ap octets_of_requests is, sum_by-cons (λ (x : Sent). octets_with x.request.body) s rest)

pub room_for_others : (ss rest : List Sent) (s : Sent) (room room' : ℕ) → ss ≡ s ∷ rest → octets_of_requests ss ≤ room → room ≤ room' + (16 + length s.request.body) → octets_of_requests rest ≤ room'
room_for_others ss rest s room room' is enough left =
    omega (arith, enough, left, ap octets_of_requests is, sum_by-cons (λ (x : Sent). octets_with x.request.body) s rest)

-- all of a list was said
pub all_said : (all said rest : List Sent) → said ++ rest ≡ all → length rest ≡ 0 → said ≡ all
all_said all said [] e none = sym (append-nil said) ∙ e
all_said all said (s ∷ rest) e none = absurd (omega arith)
