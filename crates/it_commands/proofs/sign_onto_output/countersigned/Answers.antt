use Rattle.it_commands.proofs.sign_onto_output.countersigned.Goals as goal

pub returns-in_default-clause-faults : goal.returns-in_default-clause-faults
returns-in_default-clause-faults c = rw c.in_default.is at c.in_ok-before.ensures
