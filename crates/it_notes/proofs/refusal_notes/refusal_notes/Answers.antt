use Rattle.std.proofs.Common.{inl}
use Rattle.std.proofs.lemmas.Result.{IfOk-weaker}
use Rattle.it_notes.specs.Known.{IsKnown}
use Rattle.it_notes.proofs.Levels.{own_inputs}
use Rattle.it_notes.proofs.refusal_notes.refusal_notes.Goals as goal

pub returns-in-Nothing : goal.returns-in-Nothing
returns-in-Nothing g c =
    IfOk-weaker c.input_notes.result _ _
    (λ told each. inl (each (g.C.Checks.panel c.args.checks.now))) c.input_notes.ensures

pub returns-in-Begun : goal.returns-in-Begun
returns-in-Begun g c =
    IfOk-weaker c.begun_notes.result _ _ (λ told is. inl is)
    (c.begun_notes.ensures c.args.inputs.now (rw c.in-Begun.is at c.requires.basis))

pub known_notes-requires-clause-lines : goal.known_notes-requires-clause-lines
known_notes-requires-clause-lines g c = rw c.in-Known.is at c.requires.lines

pub known_notes-requires-clause-known : goal.known_notes-requires-clause-known
known_notes-requires-clause-known g c =
    own_inputs (g.C.Checks.panel c.args.checks.now) c.args.inputs.now c.in-Known.known
    (rw c.in-Known.is at c.requires.basis)

pub returns-in-Known : goal.returns-in-Known
returns-in-Known g c =
    let panel = g.C.Checks.panel c.args.checks.now in
    let known : IsKnown panel c.args.inputs.now c.in-Known.known = rw c.in-Known.is at c.requires.basis in
    rw (← known.inputs_are) c.known_notes.ensures
