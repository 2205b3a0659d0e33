use Rattle.std.proofs.Common.{subst}
use Rattle.it_rule_notes.specs.Rule.{AreWordsAt}
use Rattle.it_rule_notes.specs.declared.rule_place.RulePlace.{RulePlace}
use Rattle.it_rule_notes.proofs.rule_note.rule_note.Goals as goal

pub returns-in_default : goal.returns-in_default
returns-in_default c = λ note is.
    let book = c.args.book.now in
    (rw c.in_default.is at c.in_ok-words.ensures) note.words
    (subst (λ (place : RulePlace). AreWordsAt book.layout.now book.deliver.now place note.words) is.0
    is.1)
