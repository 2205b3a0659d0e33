use Rattle.std.proofs.Common.{refl}
use Rattle.std.proofs.lemmas.Result.{IfOk-weaker}
use Rattle.it_report.specs.Report.{report_of}
use Rattle.it_verify.specs.VerifyOutput.{status_of}
use Rattle.it_verify.proofs.verify_output.run_verify.Goals as goal

pub returns-clause-ok : goal.returns-clause-ok
returns-clause-ok g c =
    IfOk-weaker c.write_verdict.result _ _ (λ status written. (
      report_of c.in_ok-answer.answer.verdict,
      record {
        verdict = c.in_ok-answer.answer.verdict;
        is_verdict = c.in_ok-answer.ensures.answers;
        text_is = refl;
        status_is = written.0;
      },
      written.1,
    )) c.write_verdict.ensures.ok

pub returns-clause-write : goal.returns-clause-write
returns-clause-write g c = λ failed. (
  report_of c.in_ok-answer.answer.verdict,
  status_of c.in_ok-answer.answer.verdict,
  record {
    verdict = c.in_ok-answer.answer.verdict;
    is_verdict = c.in_ok-answer.ensures.answers;
    text_is = refl;
    status_is = refl;
  },
  c.write_verdict.ensures.write failed,
)
