use Rattle.std.proofs.lemmas.Result.{IfOk-weaker}
use Rattle.it_verify_command.proofs.Summarizing.{is_summary}
use Rattle.it_verify_command.proofs.summary_text.summary_text.Goals as goal

pub returns-in-Accepted-Some : goal.returns-in-Accepted-Some
returns-in-Accepted-Some c = λ panel vouched inputs behind.
    IfOk-weaker c.summary_body.result _ _ (λ text is. is_summary c.args.names.now panel vouched
    inputs c.args.verdict.now c.args.behind.now c.in-Accepted-Some.evidence text.items behind
    c.in-Accepted-Some.is-1 is _ _ c.in-Accepted-Some.is-0)
    (rw (c.as_str-verifier.ensures, c.as_str-resource.ensures) at c.summary_body.ensures.body)
