use Rattle.std.proofs.Common.{codes, length, refl, take}
use Rattle.std.specs.List.{flat_map}
use Rattle.it_check.specs.FindingLine.{more_form}
use Rattle.it_check.proofs.Appended.{appended}
use Rattle.it_strict.specs.ListedOnceText.{once_line, once_text}
use Rattle.it_strict.proofs.listed_once_lines.push_listed_once.Goals as goal

pub returns : goal.returns
unfolding once_text
returns c =
    let listed = c.args.listed.now in
    appended c.push_more.result c.args.text.now.items c.push_first.new.text.items
    c.push_more.new.text.items (flat_map once_line (take 40 listed))
    (more_form (codes "files listed once") (length listed)) (once_text listed)
    c.in_ok-push_first.ensures refl c.push_more.ensures
