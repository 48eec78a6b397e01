-- What a chain of events comes to.
use Rattle.std.proofs.Common.{◌≡◌, ◌<◌, ℕ, List, [], ◌∷◌, ◌++◌, length, Option, sym, ◌∙◌, ap, subst, append_assoc}
use Rattle.std.proofs.lemmas.List.{append-nil}
use Rattle.std.proofs.Math.Logic.{∥∥₁_map, ∥∥₁_elim}
use Rattle.std.proofs.Props.{props}
use Rattle.std.specs.List.{flat_map}
use Rattle.smx_pdu.specs.declared.pdu.Pdu.{Pdu}
use Rattle.smx_shared.specs.Offers.{Accepted}
use Rattle.smx_shared.specs.Ports.{HasAccepted}
use Rattle.smx_turns.specs.Runs.{Runs}
use Rattle.smx_turns.specs.Worth.{outs}
use Rattle.smx_client.specs.declared.event.Event.{Event}
use Rattle.smx_client.specs.Replies.{put_in, parked_on}
use Rattle.smx_client.specs.Events.{worth, event_accepts, event_answers, accepts, answers}
use Rattle.smx_client.specs.Parts.{Parts, Does, Chain}

abbrev due : ℕ → Parts → List (Option Pdu)
due k a = put_in a.senders k ++ parked_on k a.parked

runs_says : (a b : Parts) (es : List Event) → Runs Does a es b → b.said ≡ a.said ++ flat_map (λ x. (worth x).said) es
unfolding Runs
runs_says a b [] r = ap (λ x. x.said) r ∙ sym (append-nil a.said)
runs_says a b (e ∷ es) r =
    runs_says r.0 b es r.2 ∙ ap (λ l. l ++ flat_map (λ x. (worth x).said) es) r.1.says ∙ append_assoc a.said (worth e).said (flat_map (λ x. (worth x).said) es)

runs_answers : (k : ℕ) (a b : Parts) (es : List Event) → k < length a.senders → Runs Does a es b → due k b ≡ due k a ++ flat_map (event_answers k) es
unfolding Runs
runs_answers k a b [] within r = ap (λ x. due k x) r ∙ sym (append-nil (due k a))
runs_answers k a b (e ∷ es) within r =
    runs_answers k r.0 b es (subst (λ n. k < n) (sym r.1.lanes) within) r.2
    ∙ ap (λ l. l ++ flat_map (event_answers k) es) (r.1.answers k within)
    ∙ append_assoc (due k a) (event_answers k e) (flat_map (event_answers k) es)

runs_lists : (a b : Parts) (es : List Event) → Runs Does a es b → (all : List Accepted) → HasAccepted a.port all → HasAccepted b.port (all ++ flat_map event_accepts es)
unfolding Runs
runs_lists a b [] r all has = subst (λ x. HasAccepted x.port (all ++ [])) (sym r) (subst (HasAccepted a.port) (sym (append-nil all)) has)
runs_lists a b (e ∷ es) r all has =
    subst (HasAccepted b.port) (append_assoc all (event_accepts e) (flat_map event_accepts es)) (runs_lists r.0 b es r.2 (all ++ event_accepts e) (r.1.lists all has))

pub chain_says : (a b : Parts) (es : List Event) → Chain a es b → b.said ≡ a.said ++ outs worth es
unfolding outs
chain_says a b es ran = ∥∥₁_elim ran (hlevel props) (λ r. runs_says a b es r)

pub chain_answers : (k : ℕ) (a b : Parts) (es : List Event) → k < length a.senders → Chain a es b → due k b ≡ due k a ++ answers k es
unfolding answers
chain_answers k a b es within ran = ∥∥₁_elim ran (hlevel props) (λ r. runs_answers k a b es within r)

pub chain_lists : (a b : Parts) (es : List Event) → Chain a es b → ∥ ((all : List Accepted) → HasAccepted a.port all → HasAccepted b.port (all ++ accepts es)) ∥₁
unfolding accepts
chain_lists a b es ran = ∥∥₁_map ran (λ r. runs_lists a b es r)

-- where no answer waited at first
pub put_first : (l m n : List (Option Pdu)) → m ≡ l ++ [] ++ n → m ≡ l ++ n
put_first l m n e = e ∙ ap (λ x. x ++ n) (append-nil l)
