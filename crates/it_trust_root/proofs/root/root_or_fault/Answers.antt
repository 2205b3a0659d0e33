use Rattle.it_borrowed.specs.Tree.{as_data}
use Rattle.it_trust_root.proofs.RootParts.{bad_of_document}
use Rattle.it_trust_root.proofs.root.root_or_fault.Goals as goal

pub returns-in-Some-clause-bad : goal.returns-in-Some-clause-bad
returns-in-Some-clause-bad c =
    bad_of_document c.args.bytes.now (as_data c.in-Some.document)
    (rw c.in-Some.is at c.in_ok-document.ensures.document) c.root_of.result c.root_of.ensures
