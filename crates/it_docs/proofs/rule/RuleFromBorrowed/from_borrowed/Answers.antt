use Rattle.std.proofs.lemmas.Result.{IfOk-weaker}
use Rattle.it_borrowed.specs.Tree.{as_data}
use Rattle.it_base.specs.Finds.{Finds}
use Rattle.it_docs.specs.Rule.{IsRule}
use Rattle.it_docs.proofs.Rules.{found_of_texts}
use Rattle.it_docs.proofs.rule.RuleFromBorrowed.from_borrowed.Goals as goal

pub returns-in-Some : goal.returns-in-Some
returns-in-Some c =
    let is_list = rw c.in-Some.is at c.in_ok-from_borrowed.ensures in
    let read = rw c.as_slice.ensures at c.found_rule.ensures in
    IfOk-weaker c.found_rule.result _ (Finds (IsRule (as_data c.args.value.now)))
    (found_of_texts (as_data c.args.value.now) c.in-Some.texts is_list) read
