-- When a turn judges its peer by the time (SMPP 3.4, section 7.2): that the session is silent, which is what the enquire_link_timer is for, and that a request has waited for the response_timer.
use Rattle.std.specs.Prelude.{◌≡◌, Bool, true, false, List, ◌∷◌, ◌++◌, Ok}
use Rattle.std.specs.List.{list_any}
use Rattle.smx_link.specs.declared.link.Polled.TheVariants.{Nothing}
use Rattle.smx_turns.specs.declared.step.Step.{Step}
use Rattle.smx_turns.specs.declared.step.Step.TheVariants.{Read, Did}
use Rattle.smx_upstream.specs.declared.event.Event.{Event}
use Rattle.smx_upstream.specs.declared.event.Event.TheVariants.{Judged, Expired}
use Rattle.smx_upstream.specs.declared.event.Span.TheVariants.{Once}

-- a read found that nothing more had come
abbrev pub finds_no_more : Step Event → Bool
finds_no_more (Read (Ok Nothing)) = true
finds_no_more _ = false

-- a timer is judged; a request that has waited for twice the response timer is given up in any case
abbrev pub judges : Step Event → Bool
judges (Did (Judged silent)) = true
judges (Did (Expired lane Once r)) = true
judges _ = false

-- in a turn a timer is judged only behind a read that found that nothing more had come
abbrev pub AreJudged : List (Step Event) → Type 0
AreJudged ss = (before after : List (Step Event)) (s : Step Event) → before ++ s ∷ after ≡ ss → judges s ≡ true → list_any finds_no_more before ≡ true
