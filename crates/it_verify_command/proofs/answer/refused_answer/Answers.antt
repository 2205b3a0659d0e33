use Rattle.it_verify_command.proofs.answer.refused_answer.Goals as goal

pub answer_on-requires-clause-told : goal.answer_on-requires-clause-told
answer_on-requires-clause-told g c =
    let panel = g.C.Checks.panel c.args.asked.now.checks.now in
    record {
      verdict = c.requires.refused;
      basis = c.basis_of.ensures.basis panel c.args.refusal.fault c.requires.before;
      lines = c.basis_of.ensures.lines panel c.args.refusal.fault c.requires.before;
      noted = c.requires.noted;
      found = tt;
    }
