use Rattle.std.proofs.lemmas.Result.{IfOk-weaker}
use Rattle.it_borrowed.specs.Tree.{as_data}
use Rattle.it_findings.specs.NoThresholds.{NoThresholds, NoThresholdsOf}
use Rattle.it_findings.proofs.Texts.{in_each_document}
use Rattle.it_findings.proofs.missing_thresholds.no_thresholds.Goals as goal

pub returns-in-Some : goal.returns-in-Some
returns-in-Some c =
    let bytes = c.args.text.now in
    let read = rw c.in-Some.is at c.document.ensures.document in
    IfOk-weaker c.places_in.result
    (λ found. NoThresholds (as_data c.in-Some.document.now) found.items)
    (λ found. NoThresholdsOf bytes found.items)
    (λ found h. in_each_document NoThresholds bytes (as_data c.in-Some.document.now) found.items read h)
    c.places_in.ensures
