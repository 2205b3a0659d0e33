use Rattle.it_borrowed.specs.Tree.{as_data}
use Rattle.it_docs.proofs.Refusals.{policy_reads}
use Rattle.it_docs.proofs.policy_reading.PolicyFromBorrowed.from_borrowed.Goals as goal

pub returns-in-Err-BadPolicy : goal.returns-in-Err-BadPolicy
returns-in-Err-BadPolicy c = λ policy is.
    let first = rw c.in-Err-BadPolicy.field-0-is at c.in-Err-BadPolicy.ensures in
    first.fails (policy_reads (as_data c.args.value.now) policy is c.in-Err-BadPolicy.field-0-0)
