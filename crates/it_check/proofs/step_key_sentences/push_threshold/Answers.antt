use Rattle.std.proofs.Common.{codes, decimal, refl}
use Rattle.it_part_notes.specs.SumLine.{numbered_form}
use Rattle.it_check.specs.StepKeySentence.{threshold_form}
use Rattle.it_check.proofs.Appended.{appended}
use Rattle.it_check.proofs.step_key_sentences.push_threshold.Goals as goal

pub returns : goal.returns
unfolding threshold_form
returns c =
    appended c.push_told_number.result c.args.text.now.items c.push_number.new.text.items
    c.push_told_number.new.text.items (decimal c.args.threshold)
    (numbered_form (codes " different keys and lists ") c.args.ids
    (codes ", so that it never passes"))
    (threshold_form c.args.threshold c.args.ids) c.in_ok-push_number.ensures refl
    c.push_told_number.ensures
