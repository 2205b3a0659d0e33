use Rattle.it_check.proofs.rule_sentences.push_open_rules.Goals as goal

pub returns : goal.returns
returns c = rw c.closing_words.ensures at c.push_on_list.ensures
