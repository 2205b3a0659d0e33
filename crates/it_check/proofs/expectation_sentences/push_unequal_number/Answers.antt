use Rattle.std.proofs.Common.{codes, refl}
use Rattle.it_check.specs.ExpectationSentence.{unequal_number_sentence}
use Rattle.it_check.specs.Pieces.{told_form}
use Rattle.it_part_notes.specs.SumLine.{numbered_form}
use Rattle.it_check.proofs.Appended.{appended}
use Rattle.it_check.proofs.expectation_sentences.push_unequal_number.Goals as goal

pub returns : goal.returns
unfolding unequal_number_sentence
returns c =
    appended c.push_told.result c.args.text.now.items c.push_told_number.new.text.items
    c.push_told.new.text.items
    (numbered_form (codes "expectation ") c.args.place (codes " has in the parameter "))
    (told_form (codes "") c.args.name.now
    (codes " a number that is no whole number of 64 bits, so that no provenance meets it"))
    (unequal_number_sentence c.args.place c.args.name.now) c.in_ok-push_told_number.ensures refl
    c.push_told.ensures
