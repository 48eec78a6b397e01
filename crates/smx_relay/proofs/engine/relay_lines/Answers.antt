use Rattle.std.proofs.Common.{[], ◌+◌, refl, sym, subst, ◌∙◌, List, ℕ, Bor, Option, Some, None, arith, rules, get_or}
use Rattle.std.specs.Global.{Vec}
use Rattle.std.specs.Io.KnownBytes.{Appends}
use Rattle.smx_relay.proofs.Standing.{Turns, stands_start, stands_more, stands_end, stands_front, stands_stop, stands_part, stands_bad, stands_bad_part, line_at, lines_past}
use Rattle.smx_relay.proofs.engine.relay_lines.Goals as goal

-- the reference that a read past the end would give
abbrev nowhere : Bor (List ℕ)
nowhere = record { ref_ptr = (0, 0); now = [] }

pub run_line-requires : goal.run_line-requires
run_line-requires g c = (c.loop-i.invariant.0, c.loop-i.invariant.1)

pub loop-i-init : goal.loop-i-init
loop-i-init g c = stands_start (g.W.Write.contents c.args.writer.now) _ _ c.requires

pub returns-in-Err : goal.returns-in-Err
returns-in-Err g c = λ script same. stands_front _ _ c.loop-i.state c.loop-i.i _ script same c.loop-i.invariant

pub loop-i-preserved : goal.loop-i-preserved
loop-i-preserved g c =
    let xs = c.args.lines.now in
    let line : List ℕ = (get_or xs c.loop-i.i nowhere).now in
    let turns : Turns c.loop-i.state line c.run_line.new.state (Some c.in-Ok-Some.text) = subst (λ (t : Option (Vec ℕ)). Turns c.loop-i.state line c.run_line.new.state t) c.in-Ok-Some.field-0-is c.in-Ok-Some.ensures in
    stands_more _ _ (g.W.Write.contents c.write_text.new.writer) c.loop-i.state c.run_line.new.state c.loop-i.i _ line c.in-Ok-Some.text (line_at xs c.loop-i.i nowhere (omega arith)) c.loop-i.invariant
    (λ s stands. sym (c.is_too_large.ensures s stands) ∙ c.if-is_too_large.false) turns
    (subst (λ (t : List ℕ). Appends (g.W.Write.contents c.loop-i.writer) (g.W.Write.contents c.write_text.new.writer) t) (search rules) c.in-Ok.ensures.ok)

pub returns-in-Err-write_text : goal.returns-in-Err-write_text
returns-in-Err-write_text g c = λ script same.
    let xs = c.args.lines.now in
    let line : List ℕ = (get_or xs c.loop-i.i nowhere).now in
    let turns : Turns c.loop-i.state line c.run_line.new.state (Some c.in-Ok-Some.text) = subst (λ (t : Option (Vec ℕ)). Turns c.loop-i.state line c.run_line.new.state t) c.in-Ok-Some.field-0-is c.in-Ok-Some.ensures in
    let wrote = c.in-Err-write_text.ensures.err in
    stands_part _ _ (g.W.Write.contents c.write_text.new.writer) c.loop-i.state c.run_line.new.state c.loop-i.i _ script line c.in-Ok-Some.text same (line_at xs c.loop-i.i nowhere (omega arith)) c.loop-i.invariant turns
    (wrote.0, wrote.1, wrote.2, sym c.deref.ensures.value ∙ wrote.3, wrote.4)

pub returns-in_default : goal.returns-in_default
returns-in_default g c = λ script same. stands_front _ _ c.loop-i.state c.loop-i.i _ script same c.loop-i.invariant

pub returns-in-Ok-write_text : goal.returns-in-Ok-write_text
returns-in-Ok-write_text g c = λ script same.
    let xs = c.args.lines.now in
    let line : List ℕ = (get_or xs c.loop-i.i nowhere).now in
    let turns : Turns c.loop-i.state line c.run_line.new.state None = subst (λ (t : Option (Vec ℕ)). Turns c.loop-i.state line c.run_line.new.state t) c.in-Ok-None.field-0-is c.in-Ok-None.ensures in
    stands_bad _ _ (g.W.Write.contents c.write_text-in-Ok-None.new.writer) c.loop-i.state c.run_line.new.state c.loop-i.i _ script line _ same (line_at xs c.loop-i.i nowhere (omega arith)) c.loop-i.invariant turns
    (c.as_bytes.ensures.value ∙ c.in-Ok-bad_line.ensures) c.in-Ok-write_text.ensures.ok

pub returns-in-Err-write_text-2 : goal.returns-in-Err-write_text-2
returns-in-Err-write_text-2 g c = λ script same.
    let xs = c.args.lines.now in
    let line : List ℕ = (get_or xs c.loop-i.i nowhere).now in
    let turns : Turns c.loop-i.state line c.run_line.new.state None = subst (λ (t : Option (Vec ℕ)). Turns c.loop-i.state line c.run_line.new.state t) c.in-Ok-None.field-0-is c.in-Ok-None.ensures in
    stands_bad_part _ _ (g.W.Write.contents c.write_text-in-Ok-None.new.writer) c.loop-i.state c.run_line.new.state c.loop-i.i _ script line _ same (line_at xs c.loop-i.i nowhere (omega arith)) c.loop-i.invariant turns
    (c.as_bytes.ensures.value ∙ c.in-Ok-bad_line.ensures) c.in-Err-write_text-2.ensures.err

pub returns : goal.returns
returns g c = λ script same. stands_end _ _ c.loop-i.state c.loop-i.i _ script (lines_past c.args.lines.now c.loop-i.i (omega arith)) same c.loop-i.invariant

pub returns-then-is_too_large : goal.returns-then-is_too_large
returns-then-is_too_large g c = λ script same.
    stands_stop _ _ c.loop-i.state c.loop-i.i (c.loop-i.i + 1) _ script refl same c.loop-i.invariant (λ s stands. sym (c.is_too_large.ensures s stands) ∙ c.if-is_too_large.true)
