-- The failure of a request takes a lane that agrees with a history to one that agrees with the longer history.
use Rattle.std.proofs.Common.{◌≡◌, ◌<◌, ◌+◌, ◌==◌, ℕ, Bool, true, false, cond, List, [], ◌∷◌, ◌++◌, length, get_or, refl, sym, ap, Some, None}
use Rattle.std.specs.Prelude.{if◌then◌else◌}
use Rattle.std.specs.List.{list_any}
use Rattle.std.proofs.lemmas.Bool.{eq-eqb, ne_eqb, or_right}
use Rattle.smx_pdu.specs.declared.command.TheConstants.{RESPONSE, GENERIC_NACK}
use Rattle.smx_pdu.specs.Command.{is_response_to}
use Rattle.smx_history.specs.declared.entry.Kind.TheVariants as kind
use Rattle.smx_history.specs.declared.note.Note.{Note}
use Rattle.smx_history.specs.declared.place.Place.{Place}
use Rattle.smx_history.specs.Failures.{submissions, failure_command, failure}
use Rattle.smx_history.specs.Answering.{failing}
use Rattle.smx_history.specs.History.{entries_of}
use Rattle.smx_history.specs.Contents.{AgreesWith, IsAfter, Content}
use Rattle.smx_history.specs.Replies.{member_with}
use Rattle.smx_history.proofs.Room.{KeepsRoom}
use Rattle.smx_history.proofs.Updates.{failing_entry, failed, failed_late}
use Rattle.smx_history.proofs.FitsSettle.{settles_fail, fail_fit}
use Rattle.smx_history.proofs.SettleAgrees.{place_taken, place_answers}
use Rattle.smx_history.proofs.Unchanged.{agrees-next}
use Rattle.smx_history.proofs.AnswerAgrees.{SettlesPlace, BringsResponse, IsAfter-settled, IsAfter-settled_late}

-- what tells a client of a failure answers its request
failure_answers : (request : ℕ) → is_response_to request (failure_command request) ≡ true
failure_answers request = at (list_any (λ id. id == request) submissions)
  where
    at : (b : Bool) → is_response_to request (if b then RESPONSE + request else GENERIC_NACK) ≡ true
    at true = rw (eq-eqb (RESPONSE + request) (RESPONSE + request) refl) refl
    at false = or_right (GENERIC_NACK == RESPONSE + request) (GENERIC_NACK == GENERIC_NACK) (eq-eqb GENERIC_NACK GENERIC_NACK refl)

fail_settles : (by : ℕ) (q : Place) → SettlesPlace (failing by q) (failing_entry by q) q
fail_settles by q =
    let p = failure (failure_command q.command) q.upstream in
    record {
      entry = refl;
      settles = settles_fail kind.Fail refl;
      link = refl;
      client = refl;
      ordinal = refl;
      request = refl;
      others = λ c apart. ap (λ b. cond b (Some (record { ordinal = q.ordinal; pdu = p })) None) (ne_eqb q.client c apart);
    }

fail_brings : (by : ℕ) (q : Place) → BringsResponse (failing by q) (failing_entry by q) (failure (failure_command q.command) q.upstream) q
fail_brings by q =
    let p = failure (failure_command q.command) q.upstream in
    record {
      place = fail_settles by q;
      response = ap (λ b. cond b (Some (record { ordinal = q.ordinal; pdu = p })) None) (eq-eqb q.client q.client refl);
    }

fails : (h : List Note) (v new : Content) (by : ℕ) (q : Place) (i : ℕ) → AgreesWith h v → new.limits ≡ v.limits → i < length v.window → q ≡ get_or v.window i q → KeepsRoom new → IsAfter (h ++ failing by q ∷ []) new → AgreesWith (h ++ failing by q ∷ []) new
fails h v new by q i a same within is room after =
    let es = entries_of h in
    let e = failing_entry by q in
    let place = place_taken h v i q a within is in
    let answers = place_answers es q e place refl refl refl (failure_answers q.command) in
    agrees-next h (failing by q) e v new refl refl same a (fail_fit new.limits es e (rw same a.legal.rules) refl answers (ap failure_command (sym place.command))) after room

-- the client of the place is present, and is told
pub AgreesWith-failed : (h : List Note) (v : Content) (by : ℕ) (q : Place) (i : ℕ) → AgreesWith h v → i < length v.window → q ≡ get_or v.window i q → KeepsRoom (failed v by q i) → AgreesWith (h ++ failing by q ∷ []) (failed v by q i)
AgreesWith-failed h v by q i a within is room =
    let p = failure (failure_command q.command) q.upstream in
    fails h v (failed v by q i) by q i a refl within is room (IsAfter-settled h v (failing by q) (failing_entry by q) p q i (fail_brings by q) a within is)

-- it has retired
pub AgreesWith-failed_late : (h : List Note) (v : Content) (by : ℕ) (q : Place) (i : ℕ) → AgreesWith h v → i < length v.window → q ≡ get_or v.window i q → member_with q.client v.members ≡ None → KeepsRoom (failed_late v by q i) → AgreesWith (h ++ failing by q ∷ []) (failed_late v by q i)
AgreesWith-failed_late h v by q i a within is gone room =
    fails h v (failed_late v by q i) by q i a refl within is room (IsAfter-settled_late h v (failing by q) (failing_entry by q) q i (fail_settles by q) a within is gone)
