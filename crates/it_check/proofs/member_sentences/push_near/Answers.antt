use Rattle.std.proofs.Common.{◌++◌, codes, refl}
use Rattle.it_check.specs.Pieces.{quoted, told_form}
use Rattle.it_check.proofs.Appended.{appended}
use Rattle.it_check.proofs.member_sentences.push_near.Goals as goal

pub returns : goal.returns
unfolding told_form
returns c =
    let near = c.args.near.now in
    appended c.push_asked.result c.args.text.now.items c.push_text.new.text.items
    c.push_asked.new.text.items (codes "; did you mean ") (quoted near ++ codes "?")
    (told_form (codes "; did you mean ") near (codes "?")) c.in_ok-push_text.ensures refl
    c.push_asked.ensures
