use Rattle.it_check.proofs.finding_place.document_of_key.Goals as goal

pub returns : goal.returns
returns c = rw c.list.ensures at c.document_of_keys.ensures
