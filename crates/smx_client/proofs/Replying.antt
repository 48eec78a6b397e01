-- How far a turn comes by an answer to a message, and how many senders there are then.
use Rattle.std.proofs.Common.{◌≡◌, ◌≢◌, ℕ, ◌∙◌, ap, List, [], ◌∷◌, length, Option, Some, None, Result, Ok, Err, IsSome}
use Rattle.std.proofs.lemmas.List.{length-set}
use Rattle.smx_pdu.specs.declared.pdu.Pdu.{Pdu}
use Rattle.smx_pdu.specs.Command.{response_of}
use Rattle.smx_box.specs.Boxes.{Sending}
use Rattle.smx_box.specs.declared.fault.Spent.{Spent as BoxSpent}
use Rattle.smx_box.specs.declared.receiver.Got.{Got}
use Rattle.smx_box.specs.declared.receiver.Got.TheVariants.{Item, Shut, Empty}
use Rattle.smx_turns.specs.declared.mo_item.MoItem.{MoItem}
use Rattle.smx_turns.specs.declared.end.Fault.{Fault}
use Rattle.smx_client.specs.declared.reply.Parked.{Parked}
use Rattle.smx_client.specs.declared.reply.Reply.{Reply}
use Rattle.smx_client.specs.declared.reply.Reply.TheVariants.{Taken, Full, Spent, Nobody}
use Rattle.smx_client.specs.declared.event.Delivery.{Delivery}
use Rattle.smx_client.specs.declared.event.Delivery.TheVariants.{Given, Refused, Dropped}
use Rattle.smx_client.specs.declared.event.Progress.{Progress}
use Rattle.smx_client.specs.declared.event.Progress.TheVariants as progress
use Rattle.smx_client.specs.Replies.{Parks, PutSo, AnswersSo, ItemAnswersSo, SettlesSo, ExpiresSo, answer_up, refused_up}
use Rattle.smx_client.specs.Parts.{delivery_parks, delivery_senders}
use Rattle.smx_client.specs.Table.{progress_of, delivery_progress}

pub waits : (r : Reply) (h : Option Parked) (x : Result (Option Progress) Fault) → x ≡ progress_of r → Parks r h → x ≡ Ok (Some progress.Parked) → IsSome h
waits Taken h x is parks e = absurd (cc)
waits Full h x is parks e = parks
waits Spent h x is parks e = parks
waits Nobody h x is parks e = absurd (cc)

pub clears : (r : Reply) (h : Option Parked) (x : Result (Option Progress) Fault) → x ≡ progress_of r → Parks r h → x ≡ Ok None → h ≡ None
clears Taken h x is parks e = parks
clears Full h x is parks e = absurd (cc)
clears Spent h x is parks e = absurd (cc)
clears Nobody h x is parks e = parks

-- it comes no other way
pub others : (r : Reply) (x : Result (Option Progress) Fault) → x ≡ progress_of r
    → (x ≢ Ok (Some progress.Settled)) × (x ≢ Ok (Some progress.Closed)) × (x ≢ Ok (Some progress.Clogged)) × (x ≢ Ok (Some progress.Gone))
others Taken x is = (λ e. absurd (cc), λ e. absurd (cc), λ e. absurd (cc), λ e. absurd (cc))
others Full x is = (λ e. absurd (cc), λ e. absurd (cc), λ e. absurd (cc), λ e. absurd (cc))
others Spent x is = (λ e. absurd (cc), λ e. absurd (cc), λ e. absurd (cc), λ e. absurd (cc))
others Nobody x is = (λ e. absurd (cc), λ e. absurd (cc), λ e. absurd (cc), λ e. absurd (cc))

pub delivery_waits : (d : Delivery) (h i : Option Parked) (x : Result (Option Progress) Fault) → x ≡ delivery_progress d → delivery_parks d h i → x ≡ Ok (Some progress.Parked) → IsSome i
delivery_waits (Given n since) h i x is parks e = absurd (cc)
delivery_waits (Refused r) h i x is parks e = waits r i x is parks.1 e
delivery_waits Dropped h i x is parks e = absurd (cc)

pub delivery_clears : (d : Delivery) (h i : Option Parked) (x : Result (Option Progress) Fault) → h ≡ None → x ≡ delivery_progress d → delivery_parks d h i → x ≡ Ok None → i ≡ None
delivery_clears (Given n since) h i x none is parks e = parks ∙ none
delivery_clears (Refused r) h i x none is parks e = clears r i x is parks.1 e
delivery_clears Dropped h i x none is parks e = parks ∙ none

pub delivery_others : (d : Delivery) (x : Result (Option Progress) Fault) → x ≡ delivery_progress d
    → (x ≢ Ok (Some progress.Settled)) × (x ≢ Ok (Some progress.Closed)) × (x ≢ Ok (Some progress.Clogged)) × (x ≢ Ok (Some progress.Gone))
delivery_others (Given n since) x is = (λ e. absurd (cc), λ e. absurd (cc), λ e. absurd (cc), λ e. absurd (cc))
delivery_others (Refused r) x is = others r x is
delivery_others Dropped x is = (λ e. absurd (cc), λ e. absurd (cc), λ e. absurd (cc), λ e. absurd (cc))

-- a put leaves as many senders as there were
pub put_count : (lane : ℕ) (p : Pdu) (r : Reply) (x x' : List (Sending Pdu)) → PutSo lane p r x x' → length x' ≡ length x
put_count lane p Taken x x' so = ap length so.3 ∙ length-set x lane so.1
put_count lane p Full x x' so = ap length so.3 ∙ length-set x lane so.1
put_count lane p Spent x x' so = ap length so.3 ∙ length-set x lane so.1
put_count lane p Nobody x x' so = ap length so.1

answers_count : (lane : ℕ) (ps : List Pdu) (r : Reply) (x x' : List (Sending Pdu)) → AnswersSo lane ps r x x' → length x' ≡ length x
answers_count lane [] r x x' so = ap length so.1
answers_count lane (p ∷ ps) r x x' so = put_count lane p r x x' so

item_count : (g : Result (Got MoItem) BoxSpent) (r : Reply) (x x' : List (Sending Pdu)) → ItemAnswersSo g r x x' → length x' ≡ length x
item_count (Ok (Item p n item)) r x x' so = answers_count item.lane (refused_up (response_of item.pdu.command) item.number) r x x' so
item_count (Ok (Shut p)) r x x' so = ap length so.1
item_count (Ok Empty) r x x' so = ap length so.1
item_count (Err e) r x x' so = ap length so.1

pub settles_count : (p : Pdu) (found : Option (ℕ × ℕ)) (r : Reply) (x x' : List (Sending Pdu)) → SettlesSo p found r x x' → length x' ≡ length x
settles_count p None r x x' so = ap length so.1
settles_count p (Some m) r x x' so = put_count m.0 (answer_up p m.1) r x x' so

pub expires_count : (found : Option (ℕ × ℕ × ℕ)) (r : Reply) (x x' : List (Sending Pdu)) → ExpiresSo found r x x' → length x' ≡ length x
expires_count None r x x' so = ap length so.1
expires_count (Some m) r x x' so = answers_count m.0 (refused_up (response_of m.2) m.1) r x x' so

pub delivery_count : (g : Result (Got MoItem) BoxSpent) (d : Delivery) (x x' : List (Sending Pdu)) → delivery_senders g d x x' → length x' ≡ length x
delivery_count g (Given number since) x x' so = ap length so
delivery_count g (Refused r) x x' so = item_count g r x x' so
delivery_count g Dropped x x' so = ap length so
