use Rattle.std.proofs.Common.{codes, refl}
use Rattle.it_check.specs.ExpectationSentence.{unreachable_level_sentence}
use Rattle.it_part_notes.specs.SumLine.{numbered_form}
use Rattle.it_check.proofs.Appended.{appended}
use Rattle.it_check.proofs.expectation_sentences.push_unreachable_level.Goals as goal

pub returns : goal.returns
unfolding unreachable_level_sentence
returns c =
    appended c.push_told_number-2.result c.args.text.now.items c.push_told_number.new.text.items
    c.push_told_number-2.new.text.items
    (numbered_form (codes "expectation ") c.args.place (codes " asks for level "))
    (numbered_form (codes "") c.args.level (codes ", which none of its builders reaches"))
    (unreachable_level_sentence c.args.place c.args.level) c.in_ok-push_told_number.ensures refl
    c.push_told_number-2.ensures
