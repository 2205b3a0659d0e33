use Rattle.std.proofs.Common.{codes, refl}
use Rattle.it_check.specs.Pieces.{told_form}
use Rattle.it_check.specs.RuleSentence.{on_rule, unknown_item_sentence}
use Rattle.it_check.proofs.Appended.{appended}
use Rattle.it_check.proofs.rule_sentences.push_unknown_item.Goals as goal

pub returns : goal.returns
unfolding unknown_item_sentence
returns c =
    appended c.push_told.result c.args.text.now.items c.push_on_rule.new.text.items
    c.push_told.new.text.items (on_rule c.args.list.now c.args.place)
    (told_form (codes " takes from ") c.args.name.now
    (codes ", and no step or inspection has that name"))
    (unknown_item_sentence c.args.list.now c.args.place c.args.name.now)
    c.in_ok-push_on_rule.ensures refl c.push_told.ensures
