use Rattle.std.proofs.Common.{[], codes}
use Rattle.it_rule_notes.specs.Disagree.{links_form}
use Rattle.it_rule_notes.specs.Line.{told_form}
use Rattle.it_rule_notes.proofs.Appended.{appended_twice}
use Rattle.it_rule_notes.proofs.disagree_note.push_links.Goals as goal

pub returns : goal.returns
unfolding links_form
returns c =
    appended_twice c.push_told-2.result c.args.text.now.items c.push_told.new.text.items
    c.push_told-2.new.text.items (told_form (codes "layout: the links ") c.args.first.now [])
    (told_form (codes " and ") c.args.second.now []) c.in_ok-push_told.ensures
    c.push_told-2.ensures
