-- A late answer takes a lane that agrees with a history to one that agrees with the longer history.
use Rattle.std.proofs.Common.{◌≡◌, ◌<◌, ◌==◌, ℕ, true, false, List, [], ◌∷◌, ◌++◌, length, get_or, refl, sym, ◌∙◌, arith, inl, inr, None}
use Rattle.std.specs.List.{list_any}
use Rattle.std.proofs.lemmas.Bool.{cases_Bool}
use Rattle.smx_pdu.specs.declared.pdu.Pdu.{Pdu}
use Rattle.smx_history.specs.declared.note.Event.TheVariants.{Late}
use Rattle.smx_history.specs.declared.entry.Entry.{Entry}
use Rattle.smx_history.specs.declared.entry.Kind.TheVariants as kind
use Rattle.smx_history.specs.declared.place.Place.{Place}
use Rattle.smx_history.specs.declared.note.Note.{Note}
use Rattle.smx_pdu.specs.Command.{is_response_to}
use Rattle.smx_history.specs.Entries.{is_accepted, is_retired, present}
use Rattle.smx_history.specs.History.{entry_by, note, entries_of}
use Rattle.smx_history.specs.Contents.{AgreesWith, Content}
use Rattle.smx_history.proofs.Room.{KeepsRoom}
use Rattle.smx_history.specs.Replies.{member_with}
use Rattle.smx_history.proofs.Updates.{late}
use Rattle.smx_history.proofs.Counts.{none_count}
use Rattle.smx_history.proofs.SettleAgrees.{place_taken, place_answers}
use Rattle.smx_history.proofs.FitsSettle.{settles_late, late_fit}
use Rattle.smx_history.proofs.Presence.{present_once, accepted_admitted}
use Rattle.smx_history.proofs.Rows.{absent, is_present-any}
use Rattle.smx_history.proofs.Unchanged.{agrees-next}
use Rattle.smx_history.proofs.AnswerAgrees.{SettlesPlace, IsAfter-settled_late}

-- an accepted request's client with no row has retired
pub retired_if_gone : (h : List Note) (v : Content) (c n : ℕ) → AgreesWith h v → is_accepted c n (entries_of h) ≡ true → member_with c v.members ≡ None → is_retired c (entries_of h) ≡ true
retired_if_gone h v c n a accepted none =
    let es = entries_of h in
    elim (cases_Bool (is_retired c es)) [
      | inl gone ↦ gone
      | inr here ↦
          let once = present_once es c a.legal.rules.membership (accepted_admitted v.limits es c n a.legal.rules accepted) here in
          let nobody : list_any (λ x. x.client == c) (present es) ≡ false = sym (is_present-any h c) ∙ absent h v c a none in
          absurd (omega (arith, once, none_count (λ (x : Entry). x.client == c) (present es) nobody))
    ]

late_settles : (by : ℕ) (p : Pdu) (q : Place) → SettlesPlace (note by (Late q.client q.ordinal p.number p.command)) (entry_by by (Late q.client q.ordinal p.number p.command)) q
late_settles by p q = record { entry = refl; settles = settles_late kind.Late refl; link = refl; client = refl; ordinal = refl; request = refl; others = λ c apart. refl }

pub AgreesWith-late : (h : List Note) (v : Content) (by : ℕ) (p : Pdu) (q : Place) (i : ℕ) → AgreesWith h v → i < length v.window → q ≡ get_or v.window i q → q.upstream ≡ p.number → is_response_to q.command p.command ≡ true → member_with q.client v.members ≡ None → KeepsRoom (late v by p q i) → AgreesWith (h ++ note by (Late q.client q.ordinal p.number p.command) ∷ []) (late v by p q i)
AgreesWith-late h v by p q i a within is number command gone room =
    let es = entries_of h in
    let e = entry_by by (Late q.client q.ordinal p.number p.command) in
    let n = note by (Late q.client q.ordinal p.number p.command) in
    let place = place_taken h v i q a within is in
    let answers = place_answers es q e place refl refl number command in
    agrees-next h n e v (late v by p q i) refl refl refl a (late_fit v.limits es e a.legal.rules refl answers (retired_if_gone h v q.client q.ordinal a place.accepted gone)) (IsAfter-settled_late h v n e q i (late_settles by p q) a within is gone) room
