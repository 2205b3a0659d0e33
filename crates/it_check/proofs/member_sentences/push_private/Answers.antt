use Rattle.it_check.proofs.member_sentences.push_private.Goals as goal

pub returns : goal.returns
returns c = rw c.id.ensures at c.push_told.ensures
