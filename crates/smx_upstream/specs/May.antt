-- Where a turn may make a step.
use Rattle.std.specs.Prelude.{◌≡◌, ◌<◌, ℕ, true, false, List, length, Result}
use Rattle.smx_link.specs.declared.link.Polled.{Polled}
use Rattle.smx_link.specs.declared.link.LinkFault.{LinkFault}
use Rattle.smx_turns.specs.declared.mark.Mark.{Mark}
use Rattle.smx_turns.specs.declared.mark.Mark.TheVariants.{Offered, WriteFailed, Waited, Full, NoRoom, Part, Entered}
use Rattle.smx_turns.specs.declared.step.Step.{Step}
use Rattle.smx_turns.specs.declared.step.Step.TheVariants.{Asked, Read, Marked, Did}
use Rattle.smx_turns.specs.Scenes.{Scene as SceneOf}
use Rattle.smx_turns.specs.Wires.{has_ended}
use Rattle.smx_upstream.specs.declared.event.Event.{Event}
use Rattle.smx_upstream.specs.declared.event.Event.TheVariants.{Decided, Brought, Broke, LinkEnded}
use Rattle.smx_upstream.specs.Standing.{Stand}

-- what a turn may change
abbrev pub Scene : Type 0
Scene = SceneOf Stand Event

-- fewer than 65,536 octets wait, or the link has ended: what is left of it is decided whole
abbrev pub MayDecide : List (Result Polled LinkFault) → List ℕ → Type 0
MayDecide polls unsent = has_ended polls ≡ false → length unsent < 65536

-- that no PDU is left it finds only there
abbrev pub MayMark : Scene → Mark → Type 0
MayMark a (Offered waited wrote left) = Unit {0}
MayMark a WriteFailed = Unit {0}
MayMark a Waited = ⊥
MayMark a Full = Unit {0}
MayMark a NoRoom = ⊥
MayMark a Part = MayDecide a.polls a.unsent
MayMark a (Entered account whole) = ⊥

-- a PDU is decided, or a bad length answered, only there; and the link has ended only where its last read said so
abbrev pub MayDo : Scene → Event → Type 0
MayDo a (Decided p now act f) = MayDecide a.polls a.unsent
MayDo a (Brought ps now lane r) = MayDecide a.polls a.unsent
MayDo a Broke = MayDecide a.polls a.unsent
MayDo a LinkEnded = has_ended a.polls ≡ true
MayDo a _ = Unit {0}

-- the gate is asked only where fewer than 65,536 octets wait
abbrev pub May : Scene → Step Event → Scene → Type 0
May a (Asked point answer) b = length a.unsent < 65536
May a (Read answer) b = Unit {0}
May a (Marked m) b = MayMark a m
May a (Did e) b = MayDo a e
