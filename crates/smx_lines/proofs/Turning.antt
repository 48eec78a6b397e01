-- Turns of PDUs, one after another.
use Rattle.std.proofs.Common.{◌≡◌, ◌++◌, ◌∷◌, [], ℕ, List, length, sym, ap, subst, ◌∙◌, append_assoc, arith}
use Rattle.std.proofs.lemmas.List.{append-nil}
use Rattle.smx_pdu.specs.declared.pdu.Pdu.{Pdu}
use Rattle.smx_lines.specs.declared.state.State.{State}
use Rattle.smx_lines.specs.Relay.{Relay}
use Rattle.smx_lines.specs.ClientTurn.{followed_by, each_pdu}
use Rattle.smx_lines.specs.States.{StandsFor, IsReached, TurnLeaves}

-- a turn that prints nothing and leaves the state
pub turned_nothing : (state : State) (s : Relay) (text : List ℕ) → StandsFor state s → text ≡ [] → TurnLeaves ([], s) state text
turned_nothing state s text a none = record { text = none; left = a }

-- a turn behind others
pub turned_then : (x : List ℕ × Relay) (turn : Relay → List ℕ × Relay) (mid new : State) (text more : List ℕ) → TurnLeaves x mid text → ((t : Relay) → StandsFor mid t → TurnLeaves (turn t) new more) → TurnLeaves (followed_by x turn) new (text ++ more)
turned_then x turn mid new text more before behind =
    let next = behind x.1 before.left in
    record { text = ap (λ (t : List ℕ). t ++ more) before.text ∙ ap (λ (t : List ℕ). x.0 ++ t) next.text; left = next.left }

-- the last PDU's turn comes last
each_pdu-push : (turn : Pdu → Relay → List ℕ × Relay) (s : Relay) (ps : List Pdu) (p : Pdu) → each_pdu turn s (ps ++ p ∷ []) ≡ followed_by (each_pdu turn s ps) (turn p)
each_pdu-push turn s [] p = ap (λ (t : List ℕ). (t, (turn p s).1)) (append-nil (turn p s).0)
each_pdu-push turn s (q ∷ ps) p =
    let others = each_pdu turn (turn q s).1 ps in
    ap (λ (x : List ℕ × Relay). ((turn q s).0 ++ x.0, x.1)) (each_pdu-push turn (turn q s).1 ps p)
    ∙ ap (λ (t : List ℕ). (t, (turn p others.1).1)) (sym (append_assoc (turn q s).0 others.0 (turn p others.1).0))

-- the turns of these PDUs printed and left this
abbrev pub Turning : (Pdu → Relay → List ℕ × Relay) → State → State → List Pdu → List ℕ → Type 0
Turning turn old now ps text = (s : Relay) → StandsFor old s → TurnLeaves (each_pdu turn s ps) now text

pub turning_start : (turn : Pdu → Relay → List ℕ × Relay) (state : State) (text : List ℕ) → text ≡ [] → Turning turn state state [] text
turning_start turn state text none s a = turned_nothing state s text a none

pub turning_more : (turn : Pdu → Relay → List ℕ × Relay) (old now new : State) (ps : List Pdu) (p : Pdu) (text more all : List ℕ) → Turning turn old now ps text → ((t : Relay) → StandsFor now t → TurnLeaves (turn p t) new more) → all ≡ text ++ more → Turning turn old new (ps ++ p ∷ []) all
turning_more turn old now new ps p text more all so_far behind e s a =
    subst (λ (x : List ℕ × Relay). TurnLeaves x new all) (sym (each_pdu-push turn s ps p))
    (subst (λ (t : List ℕ). TurnLeaves (followed_by (each_pdu turn s ps) (turn p)) new t) (sym e) (turned_then (each_pdu turn s ps) (turn p) now new text more (so_far s a) behind))

-- a state that was reached still is
pub turning_reached : (turn : Pdu → Relay → List ℕ × Relay) (old now : State) (ps : List Pdu) (text : List ℕ) → IsReached old → Turning turn old now ps text → IsReached now
turning_reached turn old now ps text reached so_far = ((each_pdu turn reached.0 ps).1, (so_far reached.0 reached.1).left)

-- all of a list was yielded
pub all_yielded : (all yielded rest : List Pdu) → yielded ++ rest ≡ all → length rest ≡ 0 → yielded ≡ all
all_yielded all yielded [] e none = sym (append-nil yielded) ∙ e
all_yielded all yielded (p ∷ rest) e none = absurd (omega arith)
