use Rattle.it_check.proofs.null_key_sentence.push_null_key.Goals as goal

pub returns : goal.returns
returns c = rw c.end_words.ensures at c.push_told.ensures
