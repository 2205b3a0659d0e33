use Rattle.std.proofs.Common.{◌≡◌, inl, rules}
use Rattle.std.proofs.lemmas.Result.{IfOk-weaker}
use Rattle.it_notes.proofs.refusal_notes.known_notes.Goals as goal

pub returns-in-RecordMissing : goal.returns-in-RecordMissing
returns-in-RecordMissing g c =
    let name : c.as_str.result.now ≡ c.in-RecordMissing.name = search rules in
    IfOk-weaker c.missing_told.result _ _
    (λ told each. inl
    (rw (c.in-RecordMissing.is, ← name) (each (g.C.Checks.panel c.args.checks.now))))
    c.missing_told.ensures

pub returns-in-BadRecord : goal.returns-in-BadRecord
returns-in-BadRecord g c =
    let name : c.as_str-in-BadRecord.result.now ≡ c.in-BadRecord.name = search rules in
    IfOk-weaker c.bad_told.result _ _
    (λ told each. inl
    (rw (c.in-BadRecord.is, ← name) (each (g.C.Checks.panel c.args.checks.now))))
    c.bad_told.ensures

pub returns-in-NoExpectation : goal.returns-in-NoExpectation
returns-in-NoExpectation g c =
    IfOk-weaker c.patterns_told.result _ _
    (λ told each. inl (rw c.in-NoExpectation.is
    (each (g.C.Checks.panel c.args.checks.now) c.in-NoExpectation.field-0)))
    c.patterns_told.ensures

pub provenance_told-requires-clause-lines : goal.provenance_told-requires-clause-lines
provenance_told-requires-clause-lines g c = rw c.in-NoProvenance.is at c.requires.lines
