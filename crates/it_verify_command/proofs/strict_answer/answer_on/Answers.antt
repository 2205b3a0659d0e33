use Rattle.std.proofs.Common.{◌≡◌, ◌∙◌, ap, subst, sym}
use Rattle.it_outcome.specs.declared.outcome.Status.TheVariants.{Good, Refused}
use Rattle.it_verify.specs.Grounds.{IsOutcome}
use Rattle.it_verify.specs.VerifyOutput.{status_of}
use Rattle.it_verify_command.proofs.strict_answer.answer_on.Goals as goal

pub found_in-requires-clause-made : goal.found_in-requires-clause-made
found_in-requires-clause-made g c =
    let panel = g.C.Checks.panel c.args.asked.now.checks.now in
    (subst (IsOutcome panel c.args.opened.now.inputs.now) c.in-Made.is c.in_ok-grounds.ensures).made

pub judged-requires-clause-grounds : goal.judged-requires-clause-grounds
judged-requires-clause-grounds g c =
    let panel = g.C.Checks.panel c.args.asked.now.checks.now in
    subst (IsOutcome panel c.args.asked.now.inputs.now) c.in-Made.is
    (rw c.requires.opened at c.in_ok-grounds.ensures)

pub judged-requires-clause-found : goal.judged-requires-clause-found
judged-requires-clause-found g c = rw c.requires.opened at c.in_ok-found-in-Made.ensures

pub refused_answer-requires-clause-noted : goal.refused_answer-requires-clause-noted
refused_answer-requires-clause-noted g c = rw c.requires.opened at c.noted_on-noted.ensures

pub refused_answer-requires-clause-refused : goal.refused_answer-requires-clause-refused
refused_answer-requires-clause-refused g c =
    let panel = g.C.Checks.panel c.args.asked.now.checks.now in
    (subst (IsOutcome panel c.args.asked.now.inputs.now) c.in-Refused.is
    (rw c.requires.opened at c.in_ok-grounds.ensures)).0

pub refused_answer-requires-clause-before : goal.refused_answer-requires-clause-before
refused_answer-requires-clause-before g c =
    let panel = g.C.Checks.panel c.args.asked.now.checks.now in
    (subst (IsOutcome panel c.args.asked.now.inputs.now) c.in-Refused.is
    (rw c.requires.opened at c.in_ok-grounds.ensures)).1

pub returns-in_ok-answer-in-Refused : goal.returns-in_ok-answer-in-Refused
returns-in_ok-answer-in-Refused g c =
    let answer = c.in_ok-answer-in-Refused.ensures.answer in
    record {
      is_answer = answer;
      stands = λ good. (let never : Good ≡ Refused =
          sym good ∙ answer.status ∙ ap status_of c.in_ok-answer-in-Refused.ensures.refuses in cc);
    }
