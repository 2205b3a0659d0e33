use Rattle.it_file_commands.proofs.statement_command.state.Goals as goal

pub returns-in-Ok-clause-ok : goal.returns-in-Ok-clause-ok
returns-in-Ok-clause-ok g c = rw (c.as_str.ensures, c.as_str-2.ensures) at c.in-Ok.ensures.ok
