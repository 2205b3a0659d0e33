use Rattle.std.proofs.Common.{rules}
use Rattle.std.proofs.lemmas.Result.{err_from_is_err_and}
use Rattle.it_borrowed.specs.Tree.{as_data}
use Rattle.it_docs.proofs.PolicyParts.{IsHead, owners_fault, deliver_fault, expectations_fault}
use Rattle.it_docs.proofs.policy_reading.policy_of.Goals as goal

pub returns-in_err-expectations : goal.returns-in_err-expectations
returns-in_err-expectations c =
    let d = as_data c.args.document.now in
    let p = err_from_is_err_and c.from_residual-in_err-expectations.result
    c.from_residual-in_err-expectations.ensures.1 in
    let head : IsHead d = record {
      json = search rules;
      owners = (c.in-Some.owners, rw c.in-Some.is at c.in_ok-owners.ensures);
      deliver = (c.in-Some-2.deliver, rw c.in-Some-2.is at c.in_ok-deliver.ensures);
    } in
    rw (p.1, p.2) (expectations_fault d head c.in_err-expectations.field-0.0
    c.in_err-expectations.ensures)

pub returns-in_default : goal.returns-in_default
returns-in_default c =
    let none = rw c.in_default.is at c.in_ok-owners.ensures in
    owners_fault (as_data c.args.document.now) (search rules) (λ reads. none reads.0 reads.1)

pub returns-in_default-2 : goal.returns-in_default-2
returns-in_default-2 c =
    let none = rw c.in_default-2.is at c.in_ok-deliver.ensures in
    deliver_fault (as_data c.args.document.now) (search rules)
    (c.in-Some.owners, rw c.in-Some.is at c.in_ok-owners.ensures)
    (λ reads. none reads.0 reads.1)
