use Rattle.it_key_commands.proofs.sign_made_onto_output.envelope_with_body.Goals as goal

pub returns-in_default-clause-err : goal.returns-in_default-clause-err
returns-in_default-clause-err c = rw c.in_default.is at c.in_ok-envelope.ensures
