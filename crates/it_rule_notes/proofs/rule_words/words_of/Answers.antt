use Rattle.std.proofs.Common.{◌∙◌}
use Rattle.it_rule_notes.proofs.RuleWords.{rule_of-words}
use Rattle.it_rule_notes.proofs.rule_words.words_of.Goals as goal

pub returns-clause-are_words : goal.returns-clause-are_words
returns-clause-are_words c = c.from.ensures ∙ c.in_ok-written_rule.ensures

pub returns-clause-is_rule : goal.returns-clause-is_rule
returns-clause-is_rule c =
    rw (c.from.ensures, c.in_ok-written_rule.ensures) (rule_of-words c.args.rule.now)
