use Rattle.it_verify_command.proofs.Accepting.{for_any}
use Rattle.it_verify_command.proofs.answer.made_answer.Goals as goal

pub answer_on-requires-clause-told : goal.answer_on-requires-clause-told
answer_on-requires-clause-told g c =
    let panel = g.C.Checks.panel c.args.asked.now.checks.now in
    c.in_ok-told.ensures panel c.requires.grounds.made c.requires.found

pub answer_on-requires-clause-behind : goal.answer_on-requires-clause-behind
answer_on-requires-clause-behind g c =
    for_any _ c.in_ok-told.told.verdict c.in_ok-behind.ensures
