use Rattle.std.proofs.lemmas.Result.{IfOk-weaker}
use Rattle.it_verify.proofs.Verified.{is_verdict}
use Rattle.it_verify.proofs.verification.verdict_on.Goals as goal

pub returns-in-Made-clause-verdict : goal.returns-in-Made-clause-verdict
returns-in-Made-clause-verdict g c =
    let panel = g.C.Checks.panel c.args.checks.now in
    let grounds = c.in-Made.grounds in
    IfOk-weaker c.verdict_of.result _ _
    (λ answer is. is_verdict panel c.args.opened.now.inputs.now grounds.documents grounds.evidence answer
    (rw c.in-Made.is at c.in_ok-grounds.ensures.outcome).made is) c.verdict_of.ensures.verdict
