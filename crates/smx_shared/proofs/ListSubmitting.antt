-- A list of offers in one hold.
use Rattle.std.proofs.Common.{◌≡◌, ◌≢◌, ◌<◌, ◌≤◌, ◌+◌, ◌^◌, ◌==◌, ◌&&◌, ℕ, Bool, true, false, cond, not, List, [], ◌∷◌, ◌++◌, length, set, slice_get, filter, Some, Ok, Err, Result, refl, sym, ◌∙◌, ap, subst, arith, length-append, append_assoc, if◌then◌else◌}
use Rattle.std.specs.List.{AllByRecursion}
use Rattle.std.proofs.lemmas.List.{append-nil}
use Rattle.std.proofs.lemmas.List.Elements.{All-append, filter-append, filter_map-append}
use Rattle.std.proofs.lemmas.List.Folds.{list_any-append}
use Rattle.std.proofs.lemmas.Bool.{eq-eqb, ne_eqb}
use Rattle.smx_lock.specs.Fronts.{Front, Hold, IsSpent, MayLeave, Runs, holding}
use Rattle.smx_history.specs.declared.entry.Entry.{Entry}
use Rattle.smx_history.specs.declared.limits.Limits.{Limits}
use Rattle.smx_history.specs.declared.note.Note.{Note}
use Rattle.smx_history.specs.declared.note.Event.TheVariants as event
use Rattle.smx_history.specs.declared.request.Request.{Request}
use Rattle.smx_history.specs.Entries.{is_accept, is_admit, is_retire, accepts_of, is_admitted, is_retired}
use Rattle.smx_history.specs.History.{entries_of, note, request_in, requests}
use Rattle.smx_history.specs.Contents.{Content, AgreesWith}
use Rattle.smx_history.proofs.ListPushes.{any_kept}
use Rattle.smx_history.specs.declared.reply.Refusal.{Refusal}
use Rattle.smx_lane.specs.declared.call.Call.TheVariants as call
use Rattle.smx_lane.specs.declared.call.Reply.TheVariants as reply
use Rattle.std.specs.Prelude.{MatchResult, OnErr, OnOk, None}
use Rattle.smx_history.specs.Replies.{accept_refusal, has_room}
use Rattle.smx_lane.specs.Conditions.{IsNext}
use Rattle.smx_lane.specs.Calls.{GoesOn}
use Rattle.smx_lane.specs.Kept.{writer, limits_of, suits}
use Rattle.smx_lane.proofs.Calling as lane
use Rattle.smx_lane.proofs.Calling.{goes_further, stays}
use Rattle.smx_shared.specs.declared.accepting.Landings.{Landings}
use Rattle.smx_shared.specs.declared.batch.Landing.{Landing}
use Rattle.smx_shared.specs.declared.offer.Offer.{Offer}
use Rattle.smx_shared.specs.declared.fault.SubmitFault.{SubmitFault}
use Rattle.smx_shared.specs.Landings.{LandEach, LandsAs, LandsServe, LandsSo, accept_notes, accepted_each, landing_notes, landings_of, ordinal_after}
use Rattle.smx_shared.specs.declared.fault.SubmitFault.TheVariants as fault
use Rattle.smx_shared.specs.Offers.{accepted_by, request_for, requests_on}
use Rattle.smx_shared.specs.Roomy.{finds_full, lane_met, shifts_before, shifts_where, turned_where}
use Rattle.smx_shared.specs.Serving.{OneHold}
use Rattle.smx_shared.specs.Steps.{AreLanded, IsMade, IsPresentFor, MayAccept, offer_of}
use Rattle.smx_shared.proofs.Calls.{AreBy, accept_made, one, none, shifts_by}
use Rattle.smx_shared.proofs.Holding.{served}
use Rattle.smx_shared.proofs.Lists.{All-both}
use Rattle.smx_shared.proofs.OwnNotes.{next_of, row_for}
use Rattle.smx_shared.proofs.PortInvariants.{Grows, entries_more, none_both, lane_grows, lane_same, requests_more, same_grows, spent_same}
use Rattle.smx_shared.proofs.Roomy.{accept_full, crowded, shifts_entries, shifts_requests, turned_members, turned_next}

All-filtered_so : {X : Type 0} (P : X → Type 0) (p : X → Bool) (xs : List X) → AllByRecursion P xs → AllByRecursion P (filter p xs)
All-filtered_so P p [] all = tt
All-filtered_so {X} P p (x ∷ xs) all = at (p x) (All-filtered_so P p xs all.1)
  where
    at : (b : Bool) → AllByRecursion P (filter p xs) → AllByRecursion P (cond b (x ∷ filter p xs) (filter p xs))
    at true rest = (all.0, rest)
    at false rest = rest

All-raised : (n m : ℕ) (es : List Entry) → n ≤ m → AllByRecursion (λ (e : Entry). e.ordinal < n) es → AllByRecursion (λ (e : Entry). e.ordinal < m) es
All-raised n m [] le all = tt
All-raised n m (e ∷ es) le all = (omega (arith, le, all.0), All-raised n m es le all.1)

-- notes that retire nobody, and accept below m
present_on : (by c n m : ℕ) (h own : List Note) → n ≤ m → is_retired c (entries_of own) ≡ false → AllByRecursion (λ (e : Entry). e.ordinal < m) (accepts_of c (entries_of own)) → IsPresentFor by c n h → IsPresentFor by c m (h ++ own)
present_on by c n m h own le quiet low p =
    let is = entries_more h own in
    record {
      admitted = ap (is_admitted by c) is ∙ any_kept (λ e. is_admit e.kind && ((e.client == c) && (e.by == by))) (entries_of h) (entries_of own) p.admitted;
      stays = ap (is_retired c) is ∙ list_any-append (λ e. is_retire e.kind && (e.client == c)) (entries_of h) (entries_of own) ∙ none_both _ _ p.stays quiet;
      below = subst (AllByRecursion (λ (e : Entry). e.ordinal < m)) (sym (ap (accepts_of c) is ∙ filter-append (λ e. is_accept e.kind && (e.client == c)) (entries_of h) (entries_of own)))
          (All-both (λ e. e.ordinal < m) (accepts_of c (entries_of h)) (accepts_of c (entries_of own)) (All-raised n m (accepts_of c (entries_of h)) le p.below) low);
    }

accept_quiet : (by c : ℕ) (r : Request) (res : Result ℕ (Offer × SubmitFault)) → is_retired c (entries_of (accept_notes by r res)) ≡ false
accept_quiet by c r (Ok lane) = refl
accept_quiet by c r (Err e) = refl

landing_quiet : (by c : ℕ) (r : Request) (l : Landing) → is_retired c (entries_of (landing_notes by r l)) ≡ false
landing_quiet by c r l = ap (is_retired c) (shifts_entries l.turned by (accept_notes by r l.landed)) ∙ accept_quiet by c r l.landed

accept_low : (by c n : ℕ) (o : Offer) (res : Result ℕ (Offer × SubmitFault)) → AllByRecursion (λ (e : Entry). e.ordinal < n + length (accepted_by o res)) (accepts_of c (entries_of (accept_notes by (request_for c n o) res)))
accept_low by c n o (Ok lane) =
    All-filtered_so (λ e. e.ordinal < n + length (accepted_by {E = Offer × SubmitFault} o (Ok lane))) (λ e. is_accept e.kind && (e.client == c)) (entries_of (note by (event.Accept (request_for c n o)) ∷ [])) (omega arith, tt)
accept_low by c n o (Err e) = tt

-- the client may go on behind an offer
pub may_after : (by c n : ℕ) (o : Offer) (l : Landing) (old new : Content) → GoesOn old (landing_notes by (request_for c n o) l) new → MayAccept old by c n → MayAccept new by c (ordinal_after n o l)
may_after by c n o l old new goes may =
    let own = landing_notes by (request_for c n o) l in
    let low = subst (λ es. AllByRecursion (λ (e : Entry). e.ordinal < ordinal_after n o l) (accepts_of c es)) (sym (shifts_entries l.turned by (accept_notes by (request_for c n o) l.landed))) (accept_low by c n o l.landed) in
    (may.0 ++ own, goes may.0 may.1, present_on by c n (ordinal_after n o l) may.0 own (omega arith) (landing_quiet by c (request_for c n o) l) low may.2)

-- the lane that was met keeps to the condition of the accept
pub kept_so : (by c n : ℕ) (old mid : Content) → mid ≡ turned_where (not (has_room old)) old → MayAccept old by c n → 0 < n → IsNext mid by c n
kept_so by c n old mid met may pos = subst (λ v. IsNext v by c n) (sym met) (turned_next (not (has_room old)) old by c n (next_of old by c n may pos))

-- an accept as the lane told it, of this request and with this reply
pub made_with : (by : ℕ) (q r : Request) (old mid new : Content) (res is : Result (Unit {0}) (Request × Refusal)) → q ≡ r → res ≡ is → mid ≡ lane_met old (call.Accept by r) → GoesOn old (shifts_before by old (call.Accept by r)) mid
    → new.limits ≡ mid.limits → IsNext mid by r.client r.ordinal → MatchResult res (λ _. accept_refusal mid q.client ≡ None) (λ e. (e.0 ≡ q) × (accept_refusal mid q.client ≡ Some e.1))
    → OnOk res (GoesOn mid (note by (event.Accept q) ∷ []) new) → OnErr res (new ≡ mid) → IsMade by old (call.Accept by r) (reply.Accepted is) new
made_with by q r old mid new res is same came met first limits kept told goes err =
    let ran : lane.RanOne mid (call.Accept by q) (reply.Accepted res) new = lane.accept_made mid new by q res (subst (λ x. IsNext mid by x.client x.ordinal) (sym same) kept) told goes err in
    accept_made by r old mid new is met first limits
    (subst (λ x. lane.RanOne mid (call.Accept by x) (reply.Accepted is) new) same (subst (λ x. lane.RanOne mid (call.Accept by q) (reply.Accepted x) new) came ran))

-- the lane accepted the offer
pub landed_ok : (by c n : ℕ) (o : Offer) (turned : Bool) (old new : Content) → turned ≡ finds_full old (call.Accept by (request_for c n o)) → IsMade by old (call.Accept by (request_for c n o)) (reply.Accepted (Ok tt)) new
    → LandsAs by (request_for c n o) o old turned (Ok 0) new × GoesOn old (shifts_where turned by ++ accept_notes by (request_for c n o) (Ok 0)) new
landed_ok by c n o turned old new is made =
    ((refl, is, made.told), subst (λ b. GoesOn old (shifts_where b by ++ accept_notes by (request_for c n o) (Ok 0)) new) (sym is) made.goes_on)

-- or refused it
pub landed_err : (by c n : ℕ) (o back : Offer) (e : Request × Refusal) (turned : Bool) (old new : Content) → turned ≡ finds_full old (call.Accept by (request_for c n o)) → IsMade by old (call.Accept by (request_for c n o)) (reply.Accepted (Err e)) new
    → back ≡ offer_of e.0 → MayAccept old by c n
    → LandsAs by (request_for c n o) o old turned (Err (back, fault.AllFull)) new × GoesOn old (shifts_where turned by ++ accept_notes by (request_for c n o) (Err (back, fault.AllFull))) new
landed_err by c n o back e turned old new is made same may =
    let r = request_for c n o in
    let told = made.told in
    let met = lane_met old (call.Accept by r) in (
      (
        same ∙ ap offer_of told.1,
        (
          e.1,
          is,
          (told.0, refl, told.2, told.3),
          λ none. row_for old met by c n (turned_members (finds_full old (call.Accept by r)) old) may (told.2 ∙ ap Some none),
          λ full. crowded old (accept_full met c (told.2 ∙ ap Some full)),
        ),
      ),
      subst (λ b. GoesOn old (shifts_where b by ++ accept_notes by r (Err (back, fault.AllFull))) new) (sym is) made.goes_on,
    )

-- a lane goes on over all of a list
each_goes : (by c n : ℕ) (os : List Offer) (ls : List Landing) (old new : Content) → LandEach by c n old os ls new → GoesOn old (landings_of by c n os ls) new
each_goes by c n [] [] old new told = stays old new told
each_goes by c n [] (l ∷ ls) old new told = absurd told
each_goes by c n (o ∷ os) [] old new told = absurd told
each_goes by c n (o ∷ os) (l ∷ ls) old new told =
    goes_further old told.0 new (landing_notes by (request_for c n o) l) (landings_of by c (ordinal_after n o l) os ls) told.2 (each_goes by c (ordinal_after n o l) os ls told.0 new told.3)

-- one offer more
pub each_more : (by c n m : ℕ) (os : List Offer) (ls : List Landing) (o : Offer) (l : Landing) (old mid new : Content) → LandEach by c n old os ls mid → m ≡ n + length (accepted_each os ls)
    → LandsSo by c m o mid l new → GoesOn mid (landing_notes by (request_for c m o) l) new → LandEach by c n old (os ++ o ∷ []) (ls ++ l ∷ []) new
each_more by c n m [] [] o l old mid new told is lands goes =
    let same : m ≡ n = omega (arith, is) in
    subst (λ v. LandEach by c n v (o ∷ []) (l ∷ []) new) told (subst (λ k. LandEach by c k mid (o ∷ []) (l ∷ []) new) same (new, lands, goes, refl))
each_more by c n m [] (k ∷ ls) o l old mid new told is lands goes = absurd told
each_more by c n m (q ∷ os) [] o l old mid new told is lands goes = absurd told
each_more by c n m (q ∷ os) (k ∷ ls) o l old mid new told is lands goes =
    let next : m ≡ ordinal_after n q k + length (accepted_each os ls) = omega (arith, is, length-append (accepted_by q k.landed) (accepted_each os ls)) in
    (told.0, told.1, told.2, each_more by c (ordinal_after n q k) m os ls o l told.0 mid new told.3 next lands goes)

pub accepted_push : (os : List Offer) (ls : List Landing) (o : Offer) (l : Landing) → length os ≡ length ls → accepted_each (os ++ o ∷ []) (ls ++ l ∷ []) ≡ accepted_each os ls ++ accepted_by o l.landed
accepted_push [] [] o l same = append-nil (accepted_by o l.landed)
accepted_push [] (k ∷ ls) o l same = absurd (omega (arith, same))
accepted_push (q ∷ os) [] o l same = absurd (omega (arith, same))
accepted_push (q ∷ os) (k ∷ ls) o l same =
    ap (λ xs. accepted_by q k.landed ++ xs) (accepted_push os ls o l (omega (arith, same))) ∙ sym (append_assoc (accepted_by q k.landed) (accepted_each os ls) (accepted_by o l.landed))

-- the notes are the caller's
accept_by : (by : ℕ) (r : Request) (res : Result ℕ (Offer × SubmitFault)) → AreBy by (accept_notes by r res)
accept_by by r (Ok lane) = one by (event.Accept r)
accept_by by r (Err e) = none by

landings_by : (by c n : ℕ) (os : List Offer) (ls : List Landing) → AreBy by (landings_of by c n os ls)
unfolding AreBy
landings_by by c n [] ls = none by
landings_by by c n (o ∷ os) [] = none by
landings_by by c n (o ∷ os) (l ∷ ls) =
    let r = request_for c n o in
    All-append (λ m. writer m ≡ by) (landing_notes by r l) (landings_of by c (ordinal_after n o l) os ls) (shifts_by l.turned by (accept_notes by r l.landed) (accept_by by r l.landed)) (landings_by by c (ordinal_after n o l) os ls)

-- a lane on which the holder made a list of offers may be put back
pub landed_may : (h : Hold Content Note Limits) (w : Content) (c n : ℕ) (os : List Offer) (b : Landings) → AreLanded h.number c n os h.value b w → h.value.limits ≡ h.lock.fixed → AgreesWith h.found h.value
    → MayLeave writer limits_of suits (holding h w) (landings_of h.number c n os b.landings.items)
unfolding AreBy
landed_may h w c n os b did fixed agrees = record {
  own = landings_by h.number c n os b.landings.items;
  agrees = each_goes h.number c n os b.landings.items h.value w did.each h.found agrees;
  fixed = did.limits ∙ fixed;
}

-- and once it is back the list was served
pub landed_serves : (f g : Front Note Limits) (c n : ℕ) (os : List Offer) (b : Landings)
    → Runs writer limits_of suits f g (λ by old a new. AreLanded by c n os old a new) (λ by old a. landings_of by c n os a.landings.items) b
    → LandsServe f g c n os b.landings.items × (b.next ≡ n + length (accepted_each os b.landings.items)) × (b.next ≤ 2 ^ 62 + 1)
landed_serves f g c n os b ran =
    let h = ran.0 in
    let w = ran.1 in
    let found = ran.2 in
    let did = ran.3 in
    let ls = b.landings.items in
    let agrees = each_goes h.number c n os ls h.value w did.each h.found found.agrees in
    let hold = served f g h w (landings_of h.number c n os ls) found did.limits agrees ran.4 in (
      record {
        found = h.found;
        old = h.value;
        new = w;
        hold = subst (λ k. OneHold f g h.found (landings_of k c n os ls) h.value) found.number hold;
        told = subst (λ k. LandEach k c n h.value os ls w) found.number did.each;
        left = subst (λ l. AgreesWith l w) (sym hold.serves.seen) agrees;
      },
      did.next,
      did.top,
    )

landings_quiet : (by c n : ℕ) (os : List Offer) (ls : List Landing) → is_retired c (entries_of (landings_of by c n os ls)) ≡ false
landings_quiet by c n [] ls = refl
landings_quiet by c n (o ∷ os) [] = refl
landings_quiet by c n (o ∷ os) (l ∷ ls) =
    let own = landing_notes by (request_for c n o) l in
    let rest = landings_of by c (ordinal_after n o l) os ls in
    ap (is_retired c) (entries_more own rest) ∙ list_any-append (λ e. is_retire e.kind && (e.client == c)) (entries_of own) (entries_of rest)
    ∙ none_both _ _ (landing_quiet by c (request_for c n o) l) (landings_quiet by c (ordinal_after n o l) os ls)

accept_requests : (by c n : ℕ) (o : Offer) (old new : Content) (turned : Bool) (res : Result ℕ (Offer × SubmitFault)) → LandsAs by (request_for c n o) o old turned res new
    → requests (accept_notes by (request_for c n o) res) ≡ requests_on 0 c n (accepted_by o res)
accept_requests by c n o old new turned (Ok lane) lands = ap (λ b. if b then request_for c n o ∷ [] else []) (sym (eq-eqb lane 0 lands.0))
accept_requests by c n o old new turned (Err e) lands = refl

landings_requests : (by c n : ℕ) (os : List Offer) (ls : List Landing) (old new : Content) → LandEach by c n old os ls new → requests (landings_of by c n os ls) ≡ requests_on 0 c n (accepted_each os ls)
landings_requests by c n [] [] old new told = refl
landings_requests by c n [] (l ∷ ls) old new told = absurd told
landings_requests by c n (o ∷ os) [] old new told = absurd told
landings_requests by c n (o ∷ os) (l ∷ ls) old new told =
    let r = request_for c n o in
    let own = landing_notes by r l in
    let rest = landings_of by c (ordinal_after n o l) os ls in
    filter_map-append (λ m. request_in m.event) own rest
    ∙ ap (λ rs. rs ++ requests rest) (shifts_requests l.turned by (accept_notes by r l.landed) ∙ accept_requests by c n o old told.0 l.turned l.landed told.1)
    ∙ ap (λ rs. requests_on 0 c n (accepted_by o l.landed) ++ rs) (landings_requests by c (ordinal_after n o l) os ls told.0 new told.3)
    ∙ sym (requests_more 0 c n (accepted_by o l.landed) (accepted_each os ls))

-- on no other lane was anything accepted
accept_apart : (by c n k : ℕ) (o : Offer) (old new : Content) (turned : Bool) (res : Result ℕ (Offer × SubmitFault)) → k ≢ 0 → LandsAs by (request_for c n o) o old turned res new → requests_on k c n (accepted_by o res) ≡ []
accept_apart by c n k o old new turned (Ok lane) apart lands = ap (λ b. if b then request_for c n o ∷ [] else []) (ne_eqb lane k (λ e. apart (sym e ∙ lands.0)))
accept_apart by c n k o old new turned (Err e) apart lands = refl

landings_apart : (by c n k : ℕ) (os : List Offer) (ls : List Landing) (old new : Content) → k ≢ 0 → LandEach by c n old os ls new → requests_on k c n (accepted_each os ls) ≡ []
landings_apart by c n k [] [] old new apart told = refl
landings_apart by c n k [] (l ∷ ls) old new apart told = absurd told
landings_apart by c n k (o ∷ os) [] old new apart told = absurd told
landings_apart by c n k (o ∷ os) (l ∷ ls) old new apart told =
    requests_more k c n (accepted_by o l.landed) (accepted_each os ls)
    ∙ ap (λ rs. rs ++ requests_on k c (ordinal_after n o l) (accepted_each os ls)) (accept_apart by c n k o old told.0 l.turned l.landed apart told.1)
    ∙ landings_apart by c (ordinal_after n o l) k os ls told.0 new apart told.3

accept_within : (by c n many : ℕ) (o : Offer) (old new : Content) (turned : Bool) (res : Result ℕ (Offer × SubmitFault)) → 0 < many → LandsAs by (request_for c n o) o old turned res new → AllByRecursion (λ a. a.lane < many) (accepted_by o res)
accept_within by c n many o old new turned (Ok lane) some lands = (omega (arith, some, lands.0), tt)
accept_within by c n many o old new turned (Err e) some lands = tt

landings_within : (by c n many : ℕ) (os : List Offer) (ls : List Landing) (old new : Content) → 0 < many → LandEach by c n old os ls new → AllByRecursion (λ a. a.lane < many) (accepted_each os ls)
landings_within by c n many [] [] old new some told = tt
landings_within by c n many [] (l ∷ ls) old new some told = absurd told
landings_within by c n many (o ∷ os) [] old new some told = absurd told
landings_within by c n many (o ∷ os) (l ∷ ls) old new some told =
    All-both (λ a. a.lane < many) (accepted_by o l.landed) (accepted_each os ls) (accept_within by c n many o old told.0 l.turned l.landed some told.1) (landings_within by c (ordinal_after n o l) many os ls told.0 new some told.3)

-- the one lane's front has the notes of a list more
pub list_grows : (c n : ℕ) (os : List Offer) (ls : List Landing) (old new : List (Front Note Limits)) (f g : Front Note Limits) → 0 < length old → slice_get old 0 ≡ Some f → new ≡ set old 0 g
    → LandsServe f g c n os ls → Grows c n (accepted_each os ls) old new
list_grows c n os ls old new f g some at is s =
    lane_grows c n 0 (accepted_each os ls) old new f g (landings_of f.number c n os ls) at is s.hold.serves.number s.hold.serves.mine (landings_quiet f.number c n os ls) (landings_requests f.number c n os ls s.old s.new s.told)
    (λ k apart. landings_apart f.number c n k os ls s.old s.new apart s.told) (landings_within f.number c n (length old) os ls s.old s.new some s.told)

-- and where it is spent it has no more
pub spent_grows : (c n : ℕ) (old new : List (Front Note Limits)) (f g : Front Note Limits) → slice_get old 0 ≡ Some f → new ≡ set old 0 g → IsSpent f g → Grows c n [] old new
spent_grows c n old new f g at is spent =
    let same = spent_same f g spent in
    same_grows c n old new (lane_same 0 old new f g at is same.0 same.1)
