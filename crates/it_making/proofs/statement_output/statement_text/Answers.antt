use Rattle.std.proofs.lemmas.Result.{err_from_is_err_and}
use Rattle.std.specs.Option.{option_copied}
use Rattle.serde_json.specs.View.{view}
use Rattle.it_making.proofs.StatementFaults.{parameters_fault}
use Rattle.it_making.proofs.StatementWritten.{is_statement_output}
use Rattle.it_making.proofs.statement_output.statement_text.Goals as goal

pub returns-clause-ok : goal.returns-clause-ok
returns-clause-ok c =
    let parts = c.args.parts.now in
    let given = c.in_ok-parameters.ensures.ok in
    is_statement_output parts.subjects.now parts.build_type.now parts.builder.now
    (option_copied parts.parameters) c.in_ok-text.text.items c.in_ok-subjects.subjects
    (view c.in_ok-parameters.parameters) given.0 c.in_ok-subjects.ensures.ok given.1
    c.in_ok-listed.ensures.reads_back
    (rw (c.in_ok-listed.ensures.document, c.in_ok-predicate.ensures) at c.in_ok-text.ensures)

pub returns-in_err-parameters-clause-err : goal.returns-in_err-parameters-clause-err
returns-in_err-parameters-clause-err c =
    let parts = c.args.parts.now in
    let fault = parameters_fault parts.subjects.now (option_copied parts.parameters)
    c.in_err-parameters.field-0.0 c.in_ok-subjects.subjects c.in_ok-subjects.ensures.ok
    c.in_err-parameters.ensures.err in
    let made = err_from_is_err_and c.from_residual-in_err-parameters.result
    c.from_residual-in_err-parameters.ensures.1 in
    rw (made.1, made.2) fault
