-- What a turn over before a call leaves as it was.
use Rattle.std.proofs.Common.{◌≡◌, ℕ, Bool, true, false, not, if◌then◌else◌, List, ◌++◌, Option, Some, None, nat_le, length, refl, sym, ◌∙◌, true≢false}
use Rattle.smx_history.specs.declared.note.Note.{Note}
use Rattle.smx_history.specs.declared.reply.AdmitFault.TheVariants as admit
use Rattle.smx_history.specs.declared.reply.Refusal.TheVariants.{ClientFull, QueueFull, HistoryFull, Down}
use Rattle.smx_history.specs.History.{entries_of, requests}
use Rattle.smx_history.specs.Contents.{Content, Member}
use Rattle.smx_history.specs.Replies.{has_room, refusal_for, accept_refusal, admit_refusal, member_with}
use Rattle.smx_lane.specs.Conditions.{IsNext}
use Rattle.smx_shared.specs.Roomy.{turned_where, shifts_where, IsCrowded}

pub shifts_entries : (b : Bool) (by : ℕ) (ns : List Note) → entries_of (shifts_where b by ++ ns) ≡ entries_of ns
shifts_entries true by ns = refl
shifts_entries false by ns = refl

pub shifts_requests : (b : Bool) (by : ℕ) (ns : List Note) → requests (shifts_where b by ++ ns) ≡ requests ns
shifts_requests true by ns = refl
shifts_requests false by ns = refl

pub turned_limits : (b : Bool) (v : Content) → (turned_where b v).limits ≡ v.limits
turned_limits true v = refl
turned_limits false v = refl

pub turned_members : (b : Bool) (v : Content) → (turned_where b v).members ≡ v.members
turned_members true v = refl
turned_members false v = refl

pub turned_next : (b : Bool) (v : Content) (by c n : ℕ) → IsNext v by c n → IsNext (turned_where b v) by c n
turned_next true v by c n next = next
turned_next false v by c n next = next

crowded_at : (v : Content) (b : Bool) → has_room v ≡ b → has_room (turned_where (not b) v) ≡ false → IsCrowded v
crowded_at v true is full = absurd (true≢false (sym is ∙ full))
crowded_at v false is full = full

-- a lane that is full though it was turned over where it was full
pub crowded : (v : Content) → has_room (turned_where (not (has_room v)) v) ≡ false → IsCrowded v
crowded v full = crowded_at v (has_room v) refl full

admit_full_at : (k r : Bool) → (if k then Some admit.Known else if not r then Some admit.HistoryFull else None) ≡ Some admit.HistoryFull → r ≡ false
admit_full_at true r h = cc
admit_full_at false true h = cc
admit_full_at false false h = refl

pub admit_full : (v : Content) (c : ℕ) → admit_refusal v c ≡ Some admit.HistoryFull → has_room v ≡ false
admit_full v c h = admit_full_at (nat_le c v.greatest) (has_room v) h

refused_full : (x y r u : Bool) → (if x then Some ClientFull else if y then Some QueueFull else if not r then Some HistoryFull else if not u then Some Down else None) ≡ Some HistoryFull → r ≡ false
refused_full true y r u h = cc
refused_full false true r u h = cc
refused_full false false false u h = refl
refused_full false false true true h = cc
refused_full false false true false h = cc

row_full : (v : Content) (o : Option Member) → refusal_for v o ≡ Some HistoryFull → has_room v ≡ false
row_full v None h = cc
row_full v (Some m) h = refused_full (nat_le v.limits.client m.pending) (nat_le v.limits.queue (length v.queue)) (has_room v) v.up h

pub accept_full : (v : Content) (c : ℕ) → accept_refusal v c ≡ Some HistoryFull → has_room v ≡ false
accept_full v c h = row_full v (member_with c v.members) h
