use Rattle.it_borrowed.specs.Tree.{as_data}
use Rattle.it_docs.proofs.PolicyParts.{bad_of_document}
use Rattle.it_docs.proofs.policy_reading.policy_in.Goals as goal

pub returns-in-Some-clause-bad : goal.returns-in-Some-clause-bad
returns-in-Some-clause-bad c =
    bad_of_document c.args.text.now (as_data c.in-Some.document.now)
    (rw c.in-Some.is at c.document.ensures.document) c.policy_of.result c.policy_of.ensures
