use Rattle.std.proofs.lemmas.Result.{IfOk-weaker}
use Rattle.it_borrowed.specs.Tree.{as_data}
use Rattle.it_findings.specs.NullKeys.{NullsOf, PolicyNulls}
use Rattle.it_findings.proofs.Texts.{in_each_document}
use Rattle.it_findings.proofs.null_keys.policy_nulls.Goals as goal

pub returns-in-Some : goal.returns-in-Some
returns-in-Some c =
    let bytes = c.args.text.now in
    let read = rw c.in-Some.is at c.document.ensures.document in
    IfOk-weaker c.nulls_in_policy.result
    (λ found. PolicyNulls (as_data c.in-Some.document.now) found.items)
    (λ found. NullsOf PolicyNulls bytes found.items)
    (λ found h. in_each_document PolicyNulls bytes (as_data c.in-Some.document.now) found.items read h)
    c.nulls_in_policy.ensures
