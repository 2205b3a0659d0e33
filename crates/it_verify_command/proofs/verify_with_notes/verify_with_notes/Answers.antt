use Rattle.std.proofs.Common.{◌∙◌}
use Rattle.std.proofs.lemmas.Result.{IfErr-at_err, IfErr-weaker, IfOk-weaker}
use Rattle.it_verify_command.proofs.verify_with_notes.verify_with_notes.Goals as goal

pub returns-clause-ok : goal.returns-clause-ok
returns-clause-ok g c =
    let answer = c.in_ok-answer.ensures in
    IfOk-weaker c.write_answer.result _ _ (λ status written. (
      c.in_ok-answer.answer.output.text.items,
      record {
        verdict = c.in_ok-answer.answer.told.verdict;
        is_verdict = answer.told.verdict;
        text_is = answer.text;
        status_is = written.0 ∙ answer.status;
      },
      written.1,
    )) c.write_answer.ensures.ok

pub returns-clause-write : goal.returns-clause-write
returns-clause-write g c = λ failed.
    let answer = c.in_ok-answer.ensures in (
      c.in_ok-answer.answer.output.text.items,
      c.in_ok-answer.answer.output.status,
      record {
        verdict = c.in_ok-answer.answer.told.verdict;
        is_verdict = answer.told.verdict;
        text_is = answer.text;
        status_is = answer.status;
      },
      (IfErr-at_err _ failed c.write_answer.ensures.err).1,
    )

pub returns-clause-faults : goal.returns-clause-faults
returns-clause-faults g c =
    IfErr-weaker c.write_answer.result _ _ (λ fault failed. rw failed.0 tt) c.write_answer.ensures.err
