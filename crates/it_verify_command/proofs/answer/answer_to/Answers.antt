use Rattle.std.proofs.Common.{subst}
use Rattle.it_verify.specs.Grounds.{IsOutcome}
use Rattle.it_verify_command.proofs.Accepting.{if_some}
use Rattle.it_verify_command.proofs.answer.answer_to.Goals as goal

pub found_in_documents-requires-clause-made : goal.found_in_documents-requires-clause-made
found_in_documents-requires-clause-made g c =
    let panel = g.C.Checks.panel c.args.asked.now.checks.now in
    (subst (IsOutcome panel c.in_ok-opened.opened.inputs.now) c.in-Made.is
    c.in_ok-outcome.ensures).made

pub made_answer-requires-clause-noted : goal.made_answer-requires-clause-noted
made_answer-requires-clause-noted g c = rw c.in_ok-opened.ensures at c.noted_on-noted.ensures

pub made_answer-requires-clause-grounds : goal.made_answer-requires-clause-grounds
made_answer-requires-clause-grounds g c =
    let panel = g.C.Checks.panel c.args.asked.now.checks.now in
    subst (IsOutcome panel c.args.asked.now.inputs.now) c.in-Made.is
    (rw c.in_ok-opened.ensures at c.in_ok-outcome.ensures)

pub made_answer-requires-clause-found : goal.made_answer-requires-clause-found
made_answer-requires-clause-found g c =
    rw c.ok-found.ensures.value
    (if_some _ c.found_in_documents.result
    (rw c.in_ok-opened.ensures at c.found_in_documents.ensures))

pub refused_answer-requires-clause-noted : goal.refused_answer-requires-clause-noted
refused_answer-requires-clause-noted g c = rw c.in_ok-opened.ensures at c.noted_on-noted.ensures

pub refused_answer-requires-clause-refused : goal.refused_answer-requires-clause-refused
refused_answer-requires-clause-refused g c =
    let panel = g.C.Checks.panel c.args.asked.now.checks.now in
    (subst (IsOutcome panel c.args.asked.now.inputs.now) c.in-Refused.is
    (rw c.in_ok-opened.ensures at c.in_ok-outcome.ensures)).0

pub refused_answer-requires-clause-before : goal.refused_answer-requires-clause-before
refused_answer-requires-clause-before g c =
    let panel = g.C.Checks.panel c.args.asked.now.checks.now in
    (subst (IsOutcome panel c.args.asked.now.inputs.now) c.in-Refused.is
    (rw c.in_ok-opened.ensures at c.in_ok-outcome.ensures)).1
