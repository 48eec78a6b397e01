-- What the steps of a turn change, and where each may be made.
use Rattle.std.specs.Prelude.{◌≡◌, ◌<◌, ℕ, List, length}
use Rattle.smx_turns.specs.declared.mark.Mark.{Mark}
use Rattle.smx_turns.specs.declared.mark.Mark.TheVariants.{Offered, WriteFailed, Waited, NoRoom, Part, Entered, Full as Clogs}
use Rattle.smx_turns.specs.declared.step.Step.TheVariants.{Asked, Read, Marked, Did}
use Rattle.smx_turns.specs.Scenes.{Scene, Changed, LeadsOn}
use Rattle.smx_client.specs.declared.event.Event.{Event}
use Rattle.smx_client.specs.declared.event.Event.TheVariants.{Decided, Broke, Collected, PutAgain, Heard, Expired, Looked, Unbound, Forwarded, LinkEnded, Got as Fetched}
use Rattle.smx_client.specs.Events.{worth}
use Rattle.smx_client.specs.Parts.{Parts, Does}
use Rattle.smx_client.specs.Prefixes.{Adds, account_prefixes}
use Rattle.smx_client.specs.Table.{step_of}

-- fewer than 65,536 octets wait where a PDU is decided, collected or got, a bad length answered, an enquiry due, or no PDU of an ended link left
abbrev pub Fits : List ℕ → Event → Type 0
Fits unsent (Decided p a f) = length unsent < 65536
Fits unsent (Broke a) = length unsent < 65536
Fits unsent (Collected lane r) = length unsent < 65536
Fits unsent (Fetched g d) = length unsent < 65536
Fits unsent (PutAgain lane reply) = Unit {0}
Fits unsent (Heard now) = Unit {0}
Fits unsent (Expired until found reply) = Unit {0}
Fits unsent (Looked now e) = length unsent < 65536
Fits unsent (Unbound p) = Unit {0}
Fits unsent (Forwarded ps os r) = length unsent < 65536
Fits unsent LinkEnded = length unsent < 65536

-- there is room where no whole PDU is left, the window has none where no item is got, and the prefixes that an account has are entered in order
abbrev pub MayMark : Scene Parts Event → Mark → Scene Parts Event → Type 0
MayMark a (Offered waited wrote left) b = Unit {0}
MayMark a WriteFailed b = Unit {0}
MayMark a Waited b = Unit {0}
MayMark a Clogs b = Unit {0}
MayMark a NoRoom b = length a.stand.window.waiting ≡ a.stand.window.places
MayMark a Part b = length a.unsent < 65536
MayMark a (Entered account whole) b = Adds a.stand.port.client (account_prefixes a.stand.desk.prefixes.items account) a.queries b.queries whole

-- where a step may be made
abbrev pub May : Scene Parts Event → step_of → Scene Parts Event → Type 0
May a (Asked point answer) b = Unit {0}
May a (Read answer) b = Unit {0}
May a (Marked m) b = MayMark a m b
May a (Did e) b = Fits a.unsent e

-- the steps lead from one scene to the other
abbrev pub Changes : ℕ → Scene Parts Event → List step_of → Scene Parts Event → Type 0
Changes n a ss b = Changed Does worth May n a ss b

-- what the turn's steps led to, wherever it began, they lead on from there
abbrev pub Leads : ℕ → Scene Parts Event → List step_of → Scene Parts Event → List step_of → Type 0
Leads n a ss b ss' = LeadsOn Does worth May n a ss b ss'
