-- Why a lane accepts a request: by its row and by the lane; and the row of a client that is there.
use Rattle.std.proofs.Common.{◌≡◌, ◌∷◌, ℕ, drop, List, Option, Some, None, MatchOption, IsSome, refl, sym, ap, ◌∙◌}
use denote.Ref.{Bor}
use Rattle.smx_history.specs.declared.reply.Refusal.{Refusal}
use Rattle.smx_history.specs.declared.response.Response.{Response}
use Rattle.smx_history.specs.Contents.{Content, Member}
use Rattle.smx_history.specs.Replies.{accept_refusal, member_with, refusal_for}
use Rattle.smx_history.specs.Answering.{oldest_in}
use Rattle.smx_lane.specs.declared.client_rows.Row.{Row}
use Rattle.smx_lane.specs.Members.{lane_refusal, refusal_by}
use Rattle.smx_lane.specs.Roster.{member_in}
use Rattle.smx_lane.proofs.ClientRows.{front_is}

refused_by : (v : Content) (o : Option Member) → refusal_for v o ≡ refusal_by v.limits.client (lane_refusal v) o
refused_by v None = refl
refused_by v (Some m) = refl

-- what the row and the lane refuse is all that is refused
pub accept_refusal_is : (v : Content) (c places : ℕ) (by_lane : Option Refusal) → places ≡ v.limits.client → by_lane ≡ lane_refusal v → accept_refusal v c ≡ refusal_by places by_lane (member_with c v.members)
accept_refusal_is v c places by_lane same is =
    let row = member_with c v.members in
    refused_by v row ∙ sym (ap (λ n. refusal_by n (lane_refusal v) row) same) ∙ sym (ap (λ r. refusal_by places r row) is)

-- where nothing is refused there is a row
pub accepted_row : (v : Content) (o : Option Member) → refusal_for v o ≡ None → (m : Member) × (o ≡ Some m)
accepted_row v None h = cc
accepted_row v (Some m) h = (m, refl)

-- who is there has a row
pub some_row : (o : Option Member) → IsSome o → (m : Member) × (o ≡ Some m)
some_row None h = cc
some_row (Some m) h = (m, refl)

-- so has who has a response that waits, and it stands first
pub oldest_row : (o : Option Member) (r : Response) → oldest_in o ≡ Some r → (m : Member) × (o ≡ Some m) × (m.waiting ≡ r ∷ drop 1 m.waiting)
oldest_row None r h = cc
oldest_row (Some m) r h = (m, refl, front_is m.waiting r h)

-- and who was found
pub row_of_found : (c : ℕ) (ms : List Member) (o : Option (Bor Row)) → MatchOption o (member_with c ms ≡ None) (λ row. member_with c ms ≡ Some (member_in (c, row.now))) → IsSome o → (m : Member) × (member_with c ms ≡ Some m)
row_of_found c ms None is some = cc
row_of_found c ms (Some row) is some = (member_in (c, row.now), is)
