-- The responses of a list are said one after another.
use Rattle.std.proofs.Common.{◌≡◌, ◌≤◌, ◌+◌, ℕ, List, [], ◌∷◌, ◌++◌, length, sym, ap, ◌∙◌, append_assoc, arith}
use Rattle.std.proofs.lemmas.Grind.{flat_map-append}
use Rattle.std.proofs.lemmas.List.{append-nil, map-append}
use Rattle.std.proofs.lemmas.List.Sums.{sum_by-cons}
use Rattle.smx_pdu.specs.declared.pdu.Pdu.{Pdu}
use Rattle.smx_pdu.specs.Pdu.{spelling}
use Rattle.smx_history.specs.declared.response.Response.{Response}
use Rattle.smx_link.specs.Wiring.{Wiring, spellings}
use Rattle.smx_shared.specs.Batches.{octets_of_responses, octets_with}
use Rattle.smx_turns.proofs.Chains.{pushed}
use Rattle.smx_client.specs.Events.{pdus_of}
use Rattle.smx_client.specs.Sayings.{Spoke}

-- none was said yet
pub said_none : (start : List Pdu) (rs : List Response) → rs ≡ [] → start ≡ start ++ pdus_of rs
said_none start rs none = sym (append-nil start) ∙ ap (λ l. start ++ pdus_of l) (sym none)

pub unsent_none : (start : List ℕ) (rs : List Response) → rs ≡ [] → start ≡ start ++ spellings (pdus_of rs)
unsent_none start rs none = sym (append-nil start) ∙ ap (λ l. start ++ spellings (pdus_of l)) (sym none)

-- one more was said
pub said_more : (start said said' : List Pdu) (rs : List Response) (r : Response) → said' ≡ said ++ r.pdu ∷ [] → said ≡ start ++ pdus_of rs → said' ≡ start ++ pdus_of (rs ++ r ∷ [])
said_more start said said' rs r more was =
    more ∙ ap (λ l. l ++ r.pdu ∷ []) was ∙ append_assoc start (pdus_of rs) (r.pdu ∷ []) ∙ ap (λ l. start ++ l) (sym (map-append (λ (x : Response). x.pdu) rs (r ∷ [])))

pub unsent_more : (start us us' : List ℕ) (rs : List Response) (r : Response) → us' ≡ us ++ spelling r.pdu → us ≡ start ++ spellings (pdus_of rs) → us' ≡ start ++ spellings (pdus_of (rs ++ r ∷ []))
unsent_more start us us' rs r more was =
    more ∙ ap (λ l. l ++ spelling r.pdu) was ∙ append_assoc start (spellings (pdus_of rs)) (spelling r.pdu)
    ∙ ap (λ l. start ++ l) (sym (pushed spelling (pdus_of rs) r.pdu)) ∙ ap (λ l. start ++ spellings l) (sym (map-append (λ (x : Response). x.pdu) rs (r ∷ [])))

-- there is room for the first of those that are left, and then for the others
pub room_for_first : (rs rest : List Response) (r : Response) (room : ℕ) → rs ≡ r ∷ rest → octets_of_responses rs ≤ room → 16 + length r.pdu.body ≤ room
room_for_first rs rest r room is enough =
    omega (arith, enough, ap octets_of_responses is, sum_by-cons (λ (x : Response). octets_with x.pdu.body) r rest)

pub room_for_others : (rs rest : List Response) (r : Response) (room room' : ℕ) → rs ≡ r ∷ rest → octets_of_responses rs ≤ room → room ≤ room' + (16 + length r.pdu.body) → octets_of_responses rest ≤ room'
room_for_others rs rest r room room' is enough left =
    omega (arith, enough, left, ap octets_of_responses is, sum_by-cons (λ (x : Response). octets_with x.pdu.body) r rest)

-- all of a list was said
pub all_said : (all said rest : List Response) → said ++ rest ≡ all → length rest ≡ 0 → said ≡ all
all_said all said [] e none = sym (append-nil said) ∙ e
all_said all said (r ∷ rest) e none = absurd (omega arith)

-- what was said in two parts was said
pub spoke_more : {L : Type 0} (v w x : Wiring L) (ps qs : List Pdu) → Spoke v w ps → Spoke w x qs → Spoke v x (ps ++ qs)
spoke_more {L = L} v w x ps qs one two = record {
  said = two.said ∙ ap (λ l. l ++ qs) one.said ∙ append_assoc v.said ps qs;
  unsent = two.unsent ∙ ap (λ l. l ++ spellings qs) one.unsent ∙ append_assoc v.unsent (spellings ps) (spellings qs) ∙ ap (λ l. v.unsent ++ l) (sym (flat_map-append spelling ps qs));
  same = two.same ∙ ap (λ (y : Wiring L). record y { said = x.said; unsent = x.unsent; room = x.room }) one.same;
}
