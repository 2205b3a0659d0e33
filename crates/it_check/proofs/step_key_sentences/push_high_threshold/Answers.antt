use Rattle.std.proofs.Common.{codes, refl}
use Rattle.it_check.specs.Pieces.{told_form}
use Rattle.it_check.specs.StepKeySentence.{high_threshold_sentence, threshold_form}
use Rattle.it_check.proofs.Appended.{appended}
use Rattle.it_check.proofs.step_key_sentences.push_high_threshold.Goals as goal

pub returns : goal.returns
unfolding high_threshold_sentence
returns c =
    appended c.push_threshold.result c.args.text.now.items c.push_told.new.text.items
    c.push_threshold.new.text.items
    (told_form (codes "step ") c.args.step.now.name (codes " needs "))
    (threshold_form c.args.threshold c.args.ids)
    (high_threshold_sentence c.args.step.now c.args.threshold c.args.ids)
    c.in_ok-push_told.ensures refl c.push_threshold.ensures
