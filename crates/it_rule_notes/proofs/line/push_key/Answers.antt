use Rattle.std.proofs.Common.{[], codes}
use Rattle.it_rule_notes.specs.Line.{key_form, told_form}
use Rattle.it_rule_notes.proofs.Appended.{appended_twice}
use Rattle.it_rule_notes.proofs.line.push_key.Goals as goal

pub returns : goal.returns
unfolding key_form
returns c =
    appended_twice c.push_told-2.result c.args.text.now.items c.push_told.new.text.items
    c.push_told-2.new.text.items (told_form (codes "layout: for key ") c.args.id.now [])
    (told_form (codes " of step ") c.args.step.now []) c.in_ok-push_told.ensures
    c.push_told-2.ensures
