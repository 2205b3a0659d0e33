use Rattle.std.proofs.Common.{codes}
use Rattle.it_rule_notes.specs.Line.{told_form}
use Rattle.it_rule_notes.specs.Owner.{signed_as_line}
use Rattle.it_rule_notes.proofs.Appended.{appended_twice}
use Rattle.it_rule_notes.proofs.owner_note.push_signed_as.Goals as goal

pub returns : goal.returns
unfolding signed_as_line
returns c =
    appended_twice c.push_told-2.result c.args.text.now.items c.push_told.new.text.items
    c.push_told-2.new.text.items
    (told_form (codes "layout: the key of owner ") c.args.id.now
    (codes " signed the layout, "))
    (told_form (codes "but under the keyid ") c.args.keyid.now (codes "\n"))
    c.in_ok-push_told.ensures c.push_told-2.ensures
