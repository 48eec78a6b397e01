-- Which account a session is bound by, and how its work ended, after an act.
use Rattle.std.proofs.Common.{◌≡◌, ℕ, [], Option, Some, None, Result, sym, ◌∙◌, ap, refl}
use Rattle.std.specs.declared.snapshot.Snapshot.{Snapshot}
use Rattle.smx_pdu.specs.declared.pdu.Pdu.{Pdu}
use Rattle.smx_session.specs.ClientAsks.{client_bars}
use Rattle.smx_session.specs.ClientTable.{account_after}
use Rattle.smx_session.specs.declared.act.Act.{Act}
use Rattle.smx_session.specs.declared.act.Act.TheVariants as act
use Rattle.smx_session.specs.declared.ask.Ask.{Ask}
use Rattle.smx_session.specs.declared.ask.Ask.TheVariants.{Bind, RefusedBind, Request}
use Rattle.smx_shared.specs.declared.offer.Offer.{Offer}
use Rattle.smx_shared.specs.declared.fault.SubmitFault.{SubmitFault}
use Rattle.smx_turns.specs.declared.end.End.{End}
use Rattle.smx_turns.specs.Endings.{or_end, ending_of}
use Rattle.smx_client.specs.declared.ending.Refusal.{Refusal}
use Rattle.smx_client.specs.declared.event.Fate.TheVariants.{Submitted, Settled}
use Rattle.smx_client.specs.declared.reply.Reply.{Reply}
use Rattle.smx_client.specs.Events.{act_worth, worth}
use Rattle.smx_client.specs.Parts.{Suits}
use Rattle.smx_client.specs.Refusals.{refused_by, last_refused}

-- what is submitted, or answers a message, binds by no account
pub submits_by : (a : Act) (o : Snapshot Offer) (r : Snapshot (Result ℕ (Offer × SubmitFault))) (x : Option ℕ) → Suits a (Submitted o r) → x ≡ account_after a x
submits_by act.Forward o r x h = refl
submits_by (act.MoAnswer n) o r x h = refl
submits_by (act.Answer p) o r x h = refl
submits_by (act.Bind k i p) o r x h = absurd h
submits_by (act.Refuse p) o r x h = refl
submits_by (act.Leave p) o r x h = refl
submits_by (act.Hangup p) o r x h = refl
submits_by act.Closed o r x h = refl
submits_by act.Ignore o r x h = refl

pub settles_by : (a : Act) (found : Option (ℕ × ℕ)) (reply : Reply) (x : Option ℕ) → Suits a (Settled found reply) → x ≡ account_after a x
settles_by act.Forward found reply x h = refl
settles_by (act.MoAnswer n) found reply x h = refl
settles_by (act.Answer p) found reply x h = refl
settles_by (act.Bind k i p) found reply x h = absurd h
settles_by (act.Refuse p) found reply x h = refl
settles_by (act.Leave p) found reply x h = refl
settles_by (act.Hangup p) found reply x h = refl
settles_by act.Closed found reply x h = refl
settles_by act.Ignore found reply x h = refl

-- what was barred ends nothing
pub bars_end : (l : Ask) (p : Pdu) → (act_worth (client_bars l p)).ends ≡ None
bars_end (Bind i) p = refl
bars_end RefusedBind p = refl
bars_end Request p = refl

-- what ends nothing
pub going : (o end : Option End) → end ≡ None → o ≡ or_end o end
going None end none = sym none
going (Some x) end none = refl

pub ends_by : (o end end' x : Option End) → x ≡ or_end o end → end ≡ end' → x ≡ or_end o end'
ends_by o end end' x is same = is ∙ ap (or_end o) same

-- a bind that was refused, by other names
pub refused_as : (x o : Option Refusal) (p q : Pdu) (a b : Act) → x ≡ refused_by p a o → q ≡ p → b ≡ a → x ≡ refused_by q b o
refused_as x o p q a b is same chosen = is ∙ ap (λ z. refused_by z a o) (sym same) ∙ ap (λ z. refused_by q z o) (sym chosen)

pub none_over : None ≡ ending_of worth []
unfolding ending_of
none_over = refl

pub none_refused : None ≡ last_refused []
unfolding last_refused
none_refused = refl
