use Rattle.std.proofs.Common.{Err, ap, inl, inr, refl, subst}
use Rattle.it_verify_command.specs.FoundOutput.{found_in}
use Rattle.it_verify_command.specs.inside.Answer.{IsStrictAnswer}
use Rattle.it_verify_command.proofs.Stopping.{write_by}
use Rattle.it_verify_command.proofs.verify_strictly.verify_strictly.Goals as goal

pub returns-in_err-write_answer-in-Stands-clause-write :
    goal.returns-in_err-write_answer-in-Stands-clause-write
returns-in_err-write_answer-in-Stands-clause-write g c = λ failed.
    let asked = c.args.asked.now in
    let panel = g.C.Checks.panel asked.checks.now in
    let stands = subst (IsStrictAnswer asked.form.now panel asked.vouched.now asked.inputs.now)
    c.in-Stands.is c.in_ok-answer.ensures in
    let given = stands.is_answer in
    let answer = c.in-Stands.answer in (
      answer.output.text.items,
      inl (
        answer.output.status,
        record {
          verdict = answer.told.verdict;
          is_verdict = given.told.verdict;
          text_is = given.text;
          status_is = given.status;
        },
      ),
      c.in_err-write_answer-in-Stands.ensures.err.1,
    )

pub returns-in_err-tell_found-in-Against-clause-write :
    goal.returns-in_err-tell_found-in-Against-clause-write
returns-in_err-tell_found-in-Against-clause-write g c = λ failed.
    let asked = c.args.asked.now in
    let panel = g.C.Checks.panel asked.checks.now in
    let given = subst (IsStrictAnswer asked.form.now panel asked.vouched.now asked.inputs.now)
    c.in-Against.is c.in_ok-answer.ensures in
    let residual = c.from_residual-in_err-tell_found-in-Against in
    let fault = c.in_err-tell_found-in-Against.field-0.0 in
    let told = c.in_err-tell_found-in-Against.ensures.write
    (ap Err (write_by residual.result fault residual.ensures.1 failed)) in (
      found_in asked.form.now c.in-Against.found,
      inr (
        told.0,
        record {
          found = c.in-Against.found;
          is_found = given.0;
          is_something = given.1;
          text_is = refl;
        },
      ),
      told.1,
    )

pub returns-in_ok-tell_found-in-Against-clause-findings :
    goal.returns-in_ok-tell_found-in-Against-clause-findings
returns-in_ok-tell_found-in-Against-clause-findings g c = λ is.
    let asked = c.args.asked.now in
    let panel = g.C.Checks.panel asked.checks.now in
    let given = subst (IsStrictAnswer asked.form.now panel asked.vouched.now asked.inputs.now)
    c.in-Against.is c.in_ok-answer.ensures in (
      found_in asked.form.now c.in-Against.found,
      record {
        found = c.in-Against.found;
        is_found = given.0;
        is_something = given.1;
        text_is = refl;
      },
      c.in_ok-tell_found-in-Against.ensures.ok,
    )
