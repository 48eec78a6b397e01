-- An answer takes a lane that agrees with a history to one that agrees with the longer history.
use Rattle.std.proofs.Common.{◌≡◌, ◌<◌, ◌≤◌, ℕ, true, false, cond, List, [], ◌∷◌, ◌++◌, length, map, get_or, refl, sym, ◌∙◌, ap, arith, Some, None}
use Rattle.std.specs.List.{cons_option, remove}
use Rattle.std.proofs.lemmas.List.{length-map, map-append, drop-append-le}
use Rattle.std.proofs.lemmas.List.Elements.{filter_map-append}
use Rattle.std.proofs.lemmas.Bool.{eq-eqb, ne_eqb}
use Rattle.smx_pdu.specs.declared.pdu.Pdu.{Pdu}
use Rattle.smx_history.specs.declared.note.Event.TheVariants.{Answer}
use Rattle.smx_history.specs.declared.entry.Entry.{Entry}
use Rattle.smx_history.specs.declared.entry.Kind.TheVariants as kind
use Rattle.smx_history.specs.declared.place.Place.{Place}
use Rattle.smx_history.specs.declared.response.Response.{Response}
use Rattle.smx_history.specs.declared.note.Note.{Note}
use Rattle.smx_pdu.specs.Command.{is_response_to}
use Rattle.smx_history.specs.Prefixes.{AtEach}
use Rattle.smx_history.specs.Entries.{is_accept, is_collect, is_link, answers_of, collects_of, own_of}
use Rattle.smx_history.specs.Legal.{IsFifo, IsPaired}
use Rattle.smx_history.specs.History.{entry_by, entry_in, note, entries_of, responses, response_in, request_in}
use Rattle.smx_history.specs.Contents.{AgreesWith, IsAfter, Content, Member, as_shown, member_after, members_after}
use Rattle.smx_history.proofs.Room.{KeepsRoom}
use Rattle.smx_history.specs.Replies.{member_with}
use Rattle.smx_history.proofs.Updates.{settled, settled_late, answered, response_for, with_row}
use Rattle.smx_history.proofs.ListPushes.{AtEachPrefix-whole, StartsWith-length}
use Rattle.smx_history.proofs.Frames.{accepts_of-other, collects_of-other}
use Rattle.smx_history.proofs.Numbering.{generations-kept, latest-kept}
use Rattle.smx_history.proofs.Rows.{row-other, row_found, rows-changed, rows-beside}
use Rattle.smx_history.proofs.Unchanged.{queue-kept, greatest-kept, up-kept, entries-pushed, agrees-next}
use Rattle.smx_history.proofs.Reading.{entries_of-push, shown-kept, own_of-kept, length-responses}
use Rattle.smx_history.proofs.FitsSettle.{Settles, settles_answer, answer_fit}
use Rattle.smx_history.proofs.SettleAgrees.{IsTaken, place_taken, place_answers, window-settled}

responses-push : (c : ℕ) (h : List Note) (n : Note) (r : Response) → response_in c n.event ≡ Some r → responses c (h ++ n ∷ []) ≡ responses c h ++ r ∷ []
responses-push c h n r brings = filter_map-append (λ x. response_in c x.event) h (n ∷ []) ∙ ap (λ o. responses c h ++ cons_option o []) brings

-- the client of the place has one more response that waits
row-settled : (h : List Note) (n : Note) (e : Entry) (p : Pdu) (q : Place) (a : Entry) → entry_in n ≡ Some e → is_accept e.kind ≡ false → is_collect e.kind ≡ false → response_in q.client n.event ≡ Some (record { ordinal = q.ordinal; pdu = p })
    → IsFifo (entries_of h) → AtEach (λ before e. IsPaired e.kind before e) (entries_of h) → IsTaken (entries_of h) q → a.client ≡ q.client → record (member_after h a) { waiting = (member_after h a).waiting ++ response_for q p ∷ [] } ≡ member_after (h ++ n ∷ []) a
row-settled h n e p q a entry accept collect brings fifo paired place same =
    let es = entries_of h in
    let of : q.client ≡ a.client = sym same in
    let k = length (collects_of a.client es) in
    let le : k ≤ length (answers_of a.client es) =
    let l = StartsWith-length (map (λ x. x.ordinal) (answers_of a.client es)) (map (λ x. x.ordinal) (collects_of a.client es)) (fifo.collected a.client) in
    omega (arith, l, length-map (answers_of a.client es) (λ x. x.ordinal), length-map (collects_of a.client es) (λ x. x.ordinal)) in
    let old = map (as_shown es a.client) (responses a.client h) in
    let long : length old ≡ length (answers_of a.client es) = length-map (responses a.client h) (as_shown es a.client) ∙ length-responses a.client h in
    let came : responses a.client (h ++ n ∷ []) ≡ responses a.client h ++ record { ordinal = q.ordinal; pdu = p } ∷ [] =
    ap (λ c. responses c (h ++ n ∷ [])) (sym of) ∙ responses-push q.client h n (record { ordinal = q.ordinal; pdu = p }) brings ∙ ap (λ c. responses c h ++ record { ordinal = q.ordinal; pdu = p } ∷ []) of in
    let own : own_of a.client q.ordinal (es ++ e ∷ []) ≡ q.own =
    ap (λ c. own_of c q.ordinal (es ++ e ∷ [])) (sym of) ∙ own_of-kept q.client q.ordinal es (e ∷ []) place.accepted ∙ place.own in
    let see : ℕ → Response = λ k. record { ordinal = q.ordinal; pdu = record { command = p.command; status = p.status; number = k; body = p.body } } in
    let last : as_shown (es ++ e ∷ []) a.client (record { ordinal = q.ordinal; pdu = p }) ≡ response_for q p = ap see own in
    let all : map (as_shown (es ++ e ∷ []) a.client) (responses a.client h ++ record { ordinal = q.ordinal; pdu = p } ∷ []) ≡ old ++ response_for q p ∷ [] =
    map-append (as_shown (es ++ e ∷ []) a.client) (responses a.client h) (record { ordinal = q.ordinal; pdu = p } ∷ [])
    ∙ ap (λ xs. xs ++ as_shown (es ++ e ∷ []) a.client (record { ordinal = q.ordinal; pdu = p }) ∷ []) (shown-kept a.client h (e ∷ []) paired)
    ∙ ap (λ x. old ++ x ∷ []) last in
    rw (entries_of-push h n e entry, accepts_of-other a.client es e accept, collects_of-other a.client es e collect, came, all, drop-append-le k old (response_for q p ∷ []) (omega (arith, le, long))) refl

-- a note that settles a place, and brings no other client a response
pub record SettlesPlace (n : Note) (e : Entry) (q : Place) : Type 0 where
  pub entry : entry_in n ≡ Some e
  pub settles : Settles e.kind
  pub link : is_link e.kind ≡ false
  pub client : q.client ≡ e.client
  pub ordinal : q.ordinal ≡ e.ordinal
  pub request : request_in n.event ≡ None
  pub others : (c : ℕ) → (q.client ≡ c → ⊥) → response_in c n.event ≡ None

-- and brings its client that response
pub record BringsResponse (n : Note) (e : Entry) (p : Pdu) (q : Place) : Type 0 where
  pub place : SettlesPlace n e q
  pub response : response_in q.client n.event ≡ Some (record { ordinal = q.ordinal; pdu = p })

-- what the lane holds is what the longer history leaves, where the rows are
after_settled : (h : List Note) (v : Content) (n : Note) (e : Entry) (q : Place) (i : ℕ) (ms : List Member) → SettlesPlace n e q → AgreesWith h v → i < length v.window → q ≡ get_or v.window i q → ms ≡ members_after (h ++ n ∷ [])
    → IsAfter (h ++ n ∷ []) (record v { window = remove v.window i; members = ms; entries = v.entries ++ e ∷ [] })
after_settled h v n e q i ms b a within is rows =
    let s = b.settles in
    record {
      limits = refl;
      queue = queue-kept h n e v b.entry s.take b.request a.after;
      window = window-settled h v n e q i a b.entry s b.client b.ordinal within is;
      members = rows;
      greatest = greatest-kept h n e v b.entry s.admit a.after;
      up = up-kept h n e v b.entry b.link a.after;
      generations = generations-kept h n e v b.entry s.take a.after;
      latest = latest-kept h n e v b.entry s.take a.after;
      entries = entries-pushed h n e v b.entry a.after;
    }

-- the other clients keep their rows
others_kept : (h : List Note) (v : Content) (n : Note) (e : Entry) (q : Place) → SettlesPlace n e q → AgreesWith h v → (x : Entry) → (x.client ≡ q.client → ⊥) → member_after (h ++ n ∷ []) x ≡ member_after h x
others_kept h v n e q b a x apart = row-other h n e x b.entry b.settles.accept b.settles.collect (b.others x.client (λ of. apart (sym of))) a.legal.rules.pairing

pub IsAfter-settled : (h : List Note) (v : Content) (n : Note) (e : Entry) (p : Pdu) (q : Place) (i : ℕ) → BringsResponse n e p q → AgreesWith h v → i < length v.window → q ≡ get_or v.window i q → IsAfter (h ++ n ∷ []) (settled v e p q i)
IsAfter-settled h v n e p q i brings a within is =
    let b = brings.place in
    let s = b.settles in
    let fifo = AtEachPrefix-whole IsFifo (entries_of h) a.legal.rules.fifo in
    after_settled h v n e q i (with_row q.client (λ m. record m { waiting = m.waiting ++ response_for q p ∷ [] }) v.members) b a within is
    (rows-changed h n e v b.entry s.admit s.retire a.after q.client (λ m. record m { waiting = m.waiting ++ response_for q p ∷ [] })
    (λ x same. row-settled h n e p q x b.entry s.accept s.collect brings.response fifo a.legal.rules.pairing (place_taken h v i q a within is) same)
    (others_kept h v n e q b a))

-- and where the client has retired
pub IsAfter-settled_late : (h : List Note) (v : Content) (n : Note) (e : Entry) (q : Place) (i : ℕ) → SettlesPlace n e q → AgreesWith h v → i < length v.window → q ≡ get_or v.window i q → member_with q.client v.members ≡ None → IsAfter (h ++ n ∷ []) (settled_late v e i)
IsAfter-settled_late h v n e q i b a within is gone =
    after_settled h v n e q i v.members b a within is (rows-beside h n e v b.entry b.settles.admit b.settles.retire a.after q.client gone (others_kept h v n e q b a))

answer_brings : (by : ℕ) (p : Pdu) (q : Place) → BringsResponse (note by (Answer q.client q.ordinal p)) (entry_by by (Answer q.client q.ordinal p)) p q
answer_brings by p q = record {
  place = record {
    entry = refl;
    settles = settles_answer kind.Answer refl;
    link = refl;
    client = refl;
    ordinal = refl;
    request = refl;
    others = λ c apart. ap (λ b. cond b (Some (record { ordinal = q.ordinal; pdu = p })) None) (ne_eqb q.client c apart);
  };
  response = ap (λ b. cond b (Some (record { ordinal = q.ordinal; pdu = p })) None) (eq-eqb q.client q.client refl);
}

-- an answer to a place whose client is present
pub AgreesWith-answered : (h : List Note) (v : Content) (by : ℕ) (p : Pdu) (q : Place) (i : ℕ) (m : Member) → AgreesWith h v → i < length v.window → q ≡ get_or v.window i q → q.upstream ≡ p.number → is_response_to q.command p.command ≡ true → member_with q.client v.members ≡ Some m → KeepsRoom (answered v by p q i) → AgreesWith (h ++ note by (Answer q.client q.ordinal p) ∷ []) (answered v by p q i)
AgreesWith-answered h v by p q i m a within is number command found room =
    let es = entries_of h in
    let e = entry_by by (Answer q.client q.ordinal p) in
    let n = note by (Answer q.client q.ordinal p) in
    let answers = place_answers es q e (place_taken h v i q a within is) refl refl number command in
    agrees-next h n e v (answered v by p q i) refl refl refl a (answer_fit v.limits es e a.legal.rules refl answers (row_found h v q.client m a.after found).stays) (IsAfter-settled h v n e p q i (answer_brings by p q) a within is) room
