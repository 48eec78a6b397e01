-- A lost link and a new one take a lane that agrees with a history to one that agrees with the longer history.
use Rattle.std.proofs.Common.{◌≡◌, ◌≤◌, ◌+◌, ℕ, true, false, List, [], ◌∷◌, ◌++◌, length, refl, sym, ◌∙◌, ap, arith, length-append, Some, None}
use Rattle.std.specs.Prelude.{if◌then◌else◌}
use Rattle.smx_history.specs.declared.entry.Entry.{Entry}
use Rattle.smx_history.specs.declared.entry.Kind.{Kind}
use Rattle.smx_history.specs.declared.entry.Kind.TheVariants as kind
use Rattle.smx_history.specs.declared.limits.Limits.{Limits}
use Rattle.smx_history.specs.declared.note.Note.{Note}
use Rattle.smx_history.specs.declared.note.Event.TheVariants.{Down, Up}
use Rattle.smx_history.specs.Entries.{is_admit, is_accept, is_take, is_answer, is_collect, is_retire, is_settling, is_link, is_rise, unanswered_takes}
use Rattle.smx_history.specs.Legal.{KeepsRules, IsFifo, AreApart, IsBounded, HasForm, StandsWell, IsPaired}
use Rattle.smx_history.specs.History.{entry_by, entry_in, note, entries_of, request_in, response_in}
use Rattle.smx_history.specs.Contents.{AgreesWith, IsAfter, Content, size_of}
use Rattle.smx_history.proofs.Room.{KeepsRoom}
use Rattle.smx_history.proofs.Updates.{lowered, raised}
use Rattle.smx_history.proofs.Fitting.{Fits}
use Rattle.smx_history.proofs.ListPushes.{AtEachPrefix-whole}
use Rattle.smx_history.proofs.Frames.{is_up-push}
use Rattle.smx_history.proofs.FitsAdmit.{bounds_kept}
use Rattle.smx_history.proofs.Kept.{fifo_kept, once_kept, membership_kept, apart_kept, spaced_kept}
use Rattle.smx_history.proofs.Numbering.{generations-kept, latest-kept}
use Rattle.smx_history.proofs.Reading.{entries_of-push}
use Rattle.smx_history.proofs.Sizes.{length-window}
use Rattle.smx_history.proofs.AdmitAgrees.{empty_of}
use Rattle.smx_history.proofs.Unchanged.{queue-kept, window-kept, members-kept, greatest-kept, entries-pushed, agrees-next}

-- what tells of the link tells of nothing else
pub record IsLinkAlone (k : Kind) : Type 0 where
  pub admit : is_admit k ≡ false
  pub accept : is_accept k ≡ false
  pub take : is_take k ≡ false
  pub answer : is_answer k ≡ false
  pub settling : is_settling k ≡ false
  pub collect : is_collect k ≡ false
  pub retire : is_retire k ≡ false

pub link_alone : (k : Kind) → is_link k ≡ true → IsLinkAlone k
link_alone kind.Down is = record { admit = refl; accept = refl; take = refl; answer = refl; settling = refl; collect = refl; retire = refl }
link_alone kind.Up is = record { admit = refl; accept = refl; take = refl; answer = refl; settling = refl; collect = refl; retire = refl }
link_alone kind.Admit is = cc
link_alone kind.Accept is = cc
link_alone kind.Take is = cc
link_alone kind.Answer is = cc
link_alone kind.Late is = cc
link_alone kind.Collect is = cc
link_alone kind.Retire is = cc
link_alone kind.Fail is = cc

link_paired : (k : Kind) (es : List Entry) (e : Entry) → is_link k ≡ true → IsPaired k es e
link_paired kind.Down es e is = tt
link_paired kind.Up es e is = tt
link_paired kind.Admit es e is = cc
link_paired kind.Accept es e is = cc
link_paired kind.Take es e is = cc
link_paired kind.Answer es e is = cc
link_paired kind.Late es e is = cc
link_paired kind.Collect es e is = cc
link_paired kind.Retire es e is = cc
link_paired kind.Fail es e is = cc

pub link_fit : (limits : Limits) (es : List Entry) (e : Entry) → KeepsRules limits es → is_link e.kind ≡ true → HasForm e.kind e → StandsWell e.kind es e → Fits limits es e
link_fit limits es e legal is form stands =
    let k = link_alone e.kind is in
    record {
      form = form;
      fifo = fifo_kept es e k.accept k.take k.answer k.collect (AtEachPrefix-whole IsFifo es legal.fifo);
      once = once_kept es e k.accept k.take k.settling legal.once;
      membership = membership_kept es e k.admit k.retire legal.membership;
      standing = stands;
      pairing = link_paired e.kind es e is;
      apart = apart_kept es e k.take k.settling (AtEachPrefix-whole AreApart es legal.apart);
      spaced = spaced_kept es e k.take legal.spaced;
      bounds = bounds_kept limits es e k.accept k.take k.settling k.collect k.retire (AtEachPrefix-whole (IsBounded limits) es legal.bounds);
    }

-- what a note of the link leaves
linked : (h : List Note) (v : Content) (n : Note) (e : Entry) → entry_in n ≡ Some e → is_link e.kind ≡ true → request_in n.event ≡ None → ((c : ℕ) → response_in c n.event ≡ None) → AgreesWith h v → IsAfter (h ++ n ∷ []) (record v { up = is_rise e.kind; entries = v.entries ++ e ∷ [] })
linked h v n e is link request response a =
    let k = link_alone e.kind link in
    record {
      limits = refl;
      queue = queue-kept h n e v is k.take request a.after;
      window = window-kept h n e v is k.take k.settling (AtEachPrefix-whole IsFifo (entries_of h) a.legal.rules.fifo) a.after;
      members = members-kept h n e v is k.admit k.retire k.accept k.collect response a;
      greatest = greatest-kept h n e v is k.admit a.after;
      up = rw (entries_of-push h n e is) (sym (is_up-push (entries_of h) e link));
      generations = generations-kept h n e v is k.take a.after;
      latest = latest-kept h n e v is k.take a.after;
      entries = entries-pushed h n e v is a.after;
    }

-- a lane that is up keeps room for its down
pub KeepsRoom-lowered : (v : Content) (by : ℕ) → KeepsRoom v → v.up ≡ true → KeepsRoom (lowered v by)
KeepsRoom-lowered v by k up = record {
  limits = k.limits;
  queue = k.queue;
  window = k.window;
  size = omega (arith, length-append v.entries (entry_by by Down ∷ []), ap {B = ℕ} (λ b. if b then 1 else 0) up, k.size);
  boxes = k.boxes;
  queue_known = k.queue_known;
  window_known = k.window_known;
  members_known = k.members_known;
  clients = k.clients;
}

pub KeepsRoom-raised : (v : Content) (by : ℕ) → KeepsRoom v → size_of v + 4 ≤ v.limits.history → KeepsRoom (raised v by)
KeepsRoom-raised v by k room = record {
  limits = k.limits;
  queue = k.queue;
  window = k.window;
  size = omega (arith, length-append v.entries (entry_by by Up ∷ []), room);
  boxes = k.boxes;
  queue_known = k.queue_known;
  window_known = k.window_known;
  members_known = k.members_known;
  clients = k.clients;
}

-- the link of a lane that is up is lost
pub AgreesWith-lowered : (h : List Note) (v : Content) (by : ℕ) → AgreesWith h v → v.up ≡ true → KeepsRoom (lowered v by) → AgreesWith (h ++ note by Down ∷ []) (lowered v by)
AgreesWith-lowered h v by a up room =
    let e = entry_by by Down in
    agrees-next h (note by Down) e v (lowered v by) refl refl refl a
    (link_fit v.limits (entries_of h) e a.legal.rules refl (refl, refl, refl, refl) (sym a.after.up ∙ up))
    (linked h v (note by Down) e refl refl refl (λ c. refl) a) room

-- a lane that is down and of whose takes none is without an answer has a link again
pub AgreesWith-raised : (h : List Note) (v : Content) (by : ℕ) → AgreesWith h v → v.up ≡ false → length v.window ≡ 0 → KeepsRoom (raised v by) → AgreesWith (h ++ note by Up ∷ []) (raised v by)
AgreesWith-raised h v by a down none room =
    let e = entry_by by Up in
    agrees-next h (note by Up) e v (raised v by) refl refl refl a
    (link_fit v.limits (entries_of h) e a.legal.rules refl (refl, refl, refl, refl) (sym a.after.up ∙ down, empty_of (unanswered_takes (entries_of h)) (sym (length-window h v a.after) ∙ none)))
    (linked h v (note by Up) e refl refl refl (λ c. refl) a) room
