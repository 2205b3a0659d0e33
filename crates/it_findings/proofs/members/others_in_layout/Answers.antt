use Rattle.std.proofs.lemmas.Result.{IfOk-weaker}
use Rattle.it_borrowed.specs.Tree.{as_data}
use Rattle.it_findings.specs.Members.{LayoutMembers, OthersIn}
use Rattle.it_findings.proofs.Texts.{in_each_document}
use Rattle.it_findings.proofs.members.others_in_layout.Goals as goal

pub returns-in-Some : goal.returns-in-Some
returns-in-Some c =
    let bytes = c.args.text.now in
    let read = rw c.in-Some.is at c.document.ensures.document in
    IfOk-weaker c.members_in_layout.result
    (λ found. LayoutMembers (as_data c.in-Some.document.now) found.items)
    (λ found. OthersIn LayoutMembers bytes found.items)
    (λ found h. in_each_document LayoutMembers bytes (as_data c.in-Some.document.now) found.items read h)
    c.members_in_layout.ensures
