use Rattle.it_docs.proofs.Same.{rule_same}
use Rattle.it_docs.proofs.laws.one_rule.Goals as goal

pub returns : goal.returns
returns c = rule_same
