use Rattle.it_vectors.proofs.line.VectorFromDocument.from_document.Goals as goal

pub returns-in_default-3 : goal.returns-in_default-3
returns-in_default-3 c = λ vector is.
    (rw c.in_default-3.is at c.in_ok-tried.ensures) (vector.tried, vector.wanted) is.tries
