use Rattle.std.proofs.Common.{inr}
use Rattle.std.proofs.lemmas.Result.{IfOk-weaker}
use Rattle.it_notes.specs.Level.{IsLevel}
use Rattle.it_notes.proofs.level_notes.level_told.Goals as goal

pub returns-in-Some : goal.returns-in-Some
returns-in-Some g c =
    let panel = g.C.Checks.panel c.args.checks.now in
    let inputs = c.args.known.now.inputs.now in
    let level = c.in-Some.level.now in
    let reached : IsLevel panel inputs c.as_slice-at.result.now level =
    (rw c.in-Some.is at (c.level_reached.ensures panel c.requires
    c.in_ok-sublayout.ensures)).is_level in
    IfOk-weaker c.level_notes.result _ _
    (λ told each. inr (record { level = level; is_level = rw c.as_slice-at.ensures at reached; is_true = each }))
    c.level_notes.ensures
