use Rattle.std.proofs.Common.{codes, refl}
use Rattle.it_check.specs.RuleSentence.{on_rule, parameter_sentence}
use Rattle.it_check.proofs.Appended.{appended}
use Rattle.it_check.proofs.rule_sentences.push_parameter.Goals as goal

pub returns : goal.returns
unfolding parameter_sentence
returns c =
    appended c.push_text.result c.args.text.now.items c.push_on_rule.new.text.items
    c.push_text.new.text.items (on_rule c.args.list.now c.args.place)
    (codes " has a parameter in braces, which stands for itself here")
    (parameter_sentence c.args.list.now c.args.place) c.in_ok-push_on_rule.ensures refl
    c.push_text.ensures
