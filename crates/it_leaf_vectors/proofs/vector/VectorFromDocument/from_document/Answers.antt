use Rattle.it_leaf_vectors.proofs.vector.VectorFromDocument.from_document.Goals as goal

pub returns-in_default-2 : goal.returns-in_default-2
returns-in_default-2 c = λ x is. (rw c.in_default-2.is at c.in_ok-authority.ensures) x.authority is.authority

pub returns-in_default-3 : goal.returns-in_default-3
returns-in_default-3 c = λ x is. (rw c.in_default-3.is at c.in_ok-logs.ensures) x.logs is.logs
