use Rattle.std.proofs.Common.{◌≡◌, map}
use Rattle.std.proofs.lemmas.Result.{IfOk-weaker}
use Rattle.it_findings.specs.declared.finding.Finding.TheVariants.{UnusedExpectation}
use Rattle.it_strict.specs.Found.{UnusedFound}
use Rattle.it_strict.proofs.unused.unused_findings.Goals as goal

pub returns : goal.returns
returns c =
    let places = c.in_ok-places.places.items in
    IfOk-weaker c.findings_at.result (λ found. found.items ≡ map UnusedExpectation places)
    (λ found. UnusedFound c.args.documents.now found.items)
    (λ found are. record {
      places = places;
      are_unused = rw c.as_slice-expectations.ensures at c.in_ok-places.ensures;
      found_are = are;
    })
    (rw c.as_slice.ensures.value at c.findings_at.ensures)
