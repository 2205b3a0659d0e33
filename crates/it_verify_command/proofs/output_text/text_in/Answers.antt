use Rattle.std.proofs.Common.{subst}
use Rattle.it_verify.specs.Verdict.{OnAccepted}
use Rattle.it_verify_command.specs.inside.Answer.{IsBehindIn}
use Rattle.it_verify_command.proofs.output_text.text_in.Goals as goal

pub full_text-requires-clause-behind : goal.full_text-requires-clause-behind
full_text-requires-clause-behind g c =
    let asked = c.args.asked.now in
    let panel = g.C.Checks.panel asked.checks.now in
    subst (λ form. OnAccepted c.args.told.now.verdict
    (IsBehindIn form panel asked.vouched.now asked.inputs.now c.args.behind)) c.in-Full.is
    c.requires.behind

pub returns-in-Summary : goal.returns-in-Summary
returns-in-Summary g c =
    let asked = c.args.asked.now in
    let panel = g.C.Checks.panel asked.checks.now in
    let behind = subst (λ form. OnAccepted c.args.told.now.verdict
    (IsBehindIn form panel asked.vouched.now asked.inputs.now c.args.behind)) c.in-Summary.is
    c.requires.behind in
    rw c.in-Summary.is (c.summary_text.ensures panel asked.vouched.now asked.inputs.now behind)
