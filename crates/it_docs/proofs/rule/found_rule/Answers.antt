use Rattle.std.proofs.lemmas.Result.{IfOk-weaker}
use Rattle.it_base.specs.Finds.{Finds}
use Rattle.it_docs.specs.Rule.{RuleOf}
use Rattle.it_docs.proofs.Rules.{found-rule_of}
use Rattle.it_docs.proofs.rule.found_rule.Goals as goal

pub returns : goal.returns
returns c = IfOk-weaker c.rule_from.result _ (Finds (RuleOf c.args.texts.now))
    (found-rule_of c.args.texts.now) c.rule_from.ensures
