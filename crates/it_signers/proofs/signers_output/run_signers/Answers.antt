use Rattle.it_signers.proofs.signers_output.run_signers.Goals as goal

pub returns-clause-write : goal.returns-clause-write
returns-clause-write g c = λ fault. (
  c.in_ok-output.output.text.items,
  c.in_ok-output.output.status,
  c.in_ok-output.ensures,
  (rw fault at c.put.ensures.err).1,
)
