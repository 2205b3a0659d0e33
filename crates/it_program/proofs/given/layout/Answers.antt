use Rattle.it_program.proofs.given.layout.Goals as goal

pub returns-clause-limited : goal.returns-clause-limited
returns-clause-limited g c = rw c.as_slice.ensures at c.in_ok-refuse_too_many.ensures
