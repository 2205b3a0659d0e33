use Rattle.std.proofs.Common.{codes, refl}
use Rattle.it_findings.specs.MeantName.{meant_name}
use Rattle.it_check.specs.MemberSentence.{meant_form, unread_sentence}
use Rattle.it_check.specs.Pieces.{told_form}
use Rattle.it_check.proofs.Appended.{appended}
use Rattle.it_check.proofs.member_sentences.push_unread.Goals as goal

pub returns : goal.returns
unfolding unread_sentence
returns c =
    let place = c.args.place.now in
    let name = c.args.name.now in
    appended c.push_meant.result c.args.text.now.items c.push_told.new.text.items
    c.push_meant.new.text.items
    (told_form (codes "the member ") name (codes " is not looked at"))
    (meant_form (meant_name place name)) (unread_sentence place name) c.in_ok-push_told.ensures refl
    (rw (c.in_ok-meant.ensures, c.as_str.ensures) at c.push_meant.ensures)
