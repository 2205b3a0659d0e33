use Rattle.it_chain.proofs.candidate.candidate_in.Goals as goal

pub returns-in_err-envelope : goal.returns-in_err-envelope
returns-in_err-envelope c = rw c.from_residual.ensures
    (λ x is. (rw c.in_err-envelope.was at c.envelope.ensures) x is.is_envelope)
