use Rattle.std.proofs.Common.{Contains}
use Rattle.std.proofs.lemmas.List.Elements.{All-weaker}
use Rattle.it_key_notes.specs.UnknownKeys.{IsUnknownUnder}
use Rattle.it_notes.specs.KeyNotes.{IsOfStep}
use Rattle.it_notes.specs.Level.{IsLevel}
use Rattle.it_notes.proofs.key_notes.step_keys.Goals as goal

pub returns : goal.returns
returns g c =
    let panel = g.C.Checks.panel c.args.checks.now in
    let inputs = c.args.known.now.inputs.now in
    let level = c.in-Some.level.now in
    let step = c.in-Some-step_named.step.now in
    let reached : IsLevel panel inputs c.args.at.now level =
    (rw c.in-Some.is at (c.level_reached.ensures panel c.requires
    c.in_ok-sublayout.ensures)).is_level in
    let stands : Contains level.signed.layout.steps step =
    rw (← c.as_slice.ensures) c.in-Some-step_named.ensures.0 in
    All-weaker (IsUnknownUnder panel step.pubkeys level.signed.layout.keys)
    (IsOfStep panel inputs c.args.at.now c.args.name.now)
    (λ note is. record {
      level = level;
      step = step;
      is_level = reached;
      in_layout = stands;
      name_is = c.in-Some-step_named.ensures.1;
      is_unknown = is;
    }) _ (rw c.as_slice-2.ensures at c.in_ok-notes.ensures)
