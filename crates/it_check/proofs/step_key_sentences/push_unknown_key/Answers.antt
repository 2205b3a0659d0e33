use Rattle.std.proofs.Common.{codes, refl}
use Rattle.it_check.specs.StepKeySentence.{on_key, unknown_key_sentence}
use Rattle.it_check.proofs.Appended.{appended}
use Rattle.it_check.proofs.step_key_sentences.push_unknown_key.Goals as goal

pub returns : goal.returns
unfolding unknown_key_sentence
returns c =
    appended c.push_text.result c.args.text.now.items c.push_on_key.new.text.items
    c.push_text.new.text.items (on_key c.args.step.now c.args.id.now)
    (codes ", for which the layout has no key object")
    (unknown_key_sentence c.args.step.now c.args.id.now) c.in_ok-push_on_key.ensures refl
    c.push_text.ensures
