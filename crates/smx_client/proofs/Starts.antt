-- Where a worker begins.
use Rattle.std.proofs.Common.{◌≡◌, List, [], ◌++◌, sym, ◌∙◌, ap, subst, None}
use Rattle.std.specs.List.{flat_map}
use Rattle.smx_pdu.specs.declared.pdu.Pdu.{Pdu}
use Rattle.smx_session.specs.ClientMoments.{Client}
use Rattle.smx_shared.specs.Views.{PortView}
use Rattle.smx_box.specs.Boxes.{Sending, Receiving}
use Rattle.smx_routes.specs.Window.{Window}
use Rattle.smx_turns.specs.declared.mo_item.MoItem.{MoItem}
use Rattle.smx_turns.specs.Worth.{ins}
use Rattle.smx_turns.specs.Runs.{Runs}
use Rattle.smx_client.specs.declared.desk.Desk.{Desk}
use Rattle.smx_client.specs.declared.event.Event.{Event}
use Rattle.smx_client.specs.Events.{worth}
use Rattle.smx_client.specs.Parts.{parts, Chain}

pub started : (d : Desk) (said : List Pdu) (p p' : PortView) (s s' : Client) (w w' : Window) (i i' : Receiving MoItem) (x x' : List (Sending Pdu)) (es : List Event)
    → es ≡ [] → said ≡ [] → p' ≡ p → s' ≡ s → w' ≡ w → i' ≡ i → x' ≡ x → Chain (parts d [] p' s' w' i' x' None) es (parts d said p s w i x None)
unfolding Runs
started d said p p' s s' w w' i i' x x' es none silent port opened window inbox senders =
    let same : parts d said p s w i x None ≡ parts d [] p' s' w' i' x' None = cc in
    subst (λ l. Chain (parts d [] p' s' w' i' x' None) l (parts d said p s w i x None)) (sym none) ∣ same ∣₁

pub heard_first : (heard : List Pdu) (es : List Event) → heard ≡ [] → es ≡ [] → heard ≡ ins worth es ++ []
unfolding ins
heard_first heard es silent none = silent ∙ sym (ap (λ l. flat_map (λ x. (worth x).decided) l ++ []) none)
