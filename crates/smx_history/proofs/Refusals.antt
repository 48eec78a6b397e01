-- Which refusal `accept_refusal` is, from what the code tests; and that no refusal tells the order of the window.
use Rattle.std.proofs.Common.{◌≡◌, ◌<◌, ◌≤◌, ◌+◌, ℕ, Bool, true, false, length, refl, sym, ◌∙◌, ap, Option, Some, None, inl, inr}
use Rattle.std.proofs.lemmas.Bool.{le-leb, lt-leb, leb-true, cases_lt, cases_Bool}
use Rattle.smx_history.specs.declared.reply.Refusal.TheVariants.{ClientFull, QueueFull, HistoryFull, Down}
use Rattle.smx_history.specs.Contents.{Content, IsReordered, Member, size_of}
use Rattle.smx_history.specs.Replies.{accept_refusal, admit_refusal, has_room, member_with, refusal_for, up_refusal}
use Rattle.smx_history.proofs.Counts.{length-same}

pub refused_client : (v : Content) (m : Member) → v.limits.client ≤ m.pending → refusal_for v (Some m) ≡ Some ClientFull
refused_client v m h = rw (le-leb v.limits.client m.pending h) refl

pub refused_queue : (v : Content) (m : Member) → m.pending < v.limits.client → v.limits.queue ≤ length v.queue → refusal_for v (Some m) ≡ Some QueueFull
refused_queue v m p h = rw (lt-leb v.limits.client m.pending p, le-leb v.limits.queue (length v.queue) h) refl

pub refused_history : (v : Content) (m : Member) → m.pending < v.limits.client → length v.queue < v.limits.queue → has_room v ≡ false → refusal_for v (Some m) ≡ Some HistoryFull
refused_history v m p q h = rw (lt-leb v.limits.client m.pending p, lt-leb v.limits.queue (length v.queue) q, h) refl

pub refused_down : (v : Content) (m : Member) → m.pending < v.limits.client → length v.queue < v.limits.queue → has_room v ≡ true → v.up ≡ false → refusal_for v (Some m) ≡ Some Down
refused_down v m p q h down = rw (lt-leb v.limits.client m.pending p, lt-leb v.limits.queue (length v.queue) q, h, down) refl

-- what a request that is not refused meets
pub record IsAllowed (v : Content) (m : Member) : Type 0 where
  pub client : m.pending < v.limits.client
  pub queue : length v.queue < v.limits.queue
  pub history : size_of v + 4 ≤ v.limits.history
  pub up : v.up ≡ true

allowed_history : (v : Content) (m : Member) (b : Bool) → has_room v ≡ b → m.pending < v.limits.client → length v.queue < v.limits.queue → refusal_for v (Some m) ≡ None → IsAllowed v m
allowed_history v m true e p q h =
    elim (cases_Bool v.up) [
      | inl up ↦ record { client = p; queue = q; history = leb-true _ _ e; up = up }
      | inr down ↦ absurd (let x : Some Down ≡ None = sym (refused_down v m p q e down) ∙ h in cc)
    ]
allowed_history v m false e p q h = absurd (let x : Some HistoryFull ≡ None = sym (refused_history v m p q e) ∙ h in cc)

pub allowed : (v : Content) (m : Member) → refusal_for v (Some m) ≡ None → IsAllowed v m
allowed v m h =
    elim (cases_lt m.pending v.limits.client) [
      | inl p ↦ elim (cases_lt (length v.queue) v.limits.queue) [
        | inl q ↦ allowed_history v m (has_room v) refl p q h
        | inr q ↦ absurd (let x : Some QueueFull ≡ None = sym (refused_queue v m p q) ∙ h in cc)
      ]
      | inr p ↦ absurd (let x : Some ClientFull ≡ None = sym (refused_client v m p) ∙ h in cc)
    ]

room_same : (one other : Content) → IsReordered one other → has_room other ≡ has_room one
room_same one other r = rw (r.limits, r.entries, r.queue, length-same one.window other.window r.window, r.members, r.up) refl

refusal_for_same : (one other : Content) (row : Option Member) → IsReordered one other → refusal_for other row ≡ refusal_for one row
refusal_for_same one other None r = refl
refusal_for_same one other (Some m) r = rw (room_same one other r, r.limits, r.queue, r.up) refl

pub accept_refusal_same : (one other : Content) (c : ℕ) → IsReordered one other → accept_refusal other c ≡ accept_refusal one c
accept_refusal_same one other c r = ap (λ ms. refusal_for other (member_with c ms)) r.members ∙ refusal_for_same one other (member_with c one.members) r

pub admit_refusal_same : (one other : Content) (c : ℕ) → IsReordered one other → admit_refusal other c ≡ admit_refusal one c
admit_refusal_same one other c r = rw (room_same one other r, r.greatest) refl

pub up_refusal_same : (one other : Content) → IsReordered one other → up_refusal other ≡ up_refusal one
up_refusal_same one other r = rw (room_same one other r, length-same one.window other.window r.window, r.up) refl
