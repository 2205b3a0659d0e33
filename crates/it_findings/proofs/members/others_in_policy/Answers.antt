use Rattle.std.proofs.lemmas.Result.{IfOk-weaker}
use Rattle.it_borrowed.specs.Tree.{as_data}
use Rattle.it_findings.specs.Members.{OthersIn, PolicyMembers}
use Rattle.it_findings.proofs.Texts.{in_each_document}
use Rattle.it_findings.proofs.members.others_in_policy.Goals as goal

pub returns-in-Some : goal.returns-in-Some
returns-in-Some c =
    let bytes = c.args.text.now in
    let read = rw c.in-Some.is at c.document.ensures.document in
    IfOk-weaker c.members_in_policy.result
    (λ found. PolicyMembers (as_data c.in-Some.document.now) found.items)
    (λ found. OthersIn PolicyMembers bytes found.items)
    (λ found h. in_each_document PolicyMembers bytes (as_data c.in-Some.document.now) found.items read h)
    c.members_in_policy.ensures
