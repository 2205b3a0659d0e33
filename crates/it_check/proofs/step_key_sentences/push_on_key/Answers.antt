use Rattle.std.proofs.Common.{codes, refl}
use Rattle.it_check.specs.Pieces.{quoted, told_form}
use Rattle.it_check.specs.StepKeySentence.{on_key}
use Rattle.it_check.proofs.Appended.{appended}
use Rattle.it_check.proofs.step_key_sentences.push_on_key.Goals as goal

pub returns : goal.returns
unfolding on_key
returns c =
    appended c.push_quoted.result c.args.text.now.items c.push_told.new.text.items
    c.push_quoted.new.text.items
    (told_form (codes "step ") c.args.step.now.name (codes " lists the key id "))
    (quoted c.args.id.now) (on_key c.args.step.now c.args.id.now) c.in_ok-push_told.ensures refl
    (rw c.as_str.ensures at c.push_quoted.ensures)
