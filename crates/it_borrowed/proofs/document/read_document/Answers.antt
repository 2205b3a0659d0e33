use Rattle.std.proofs.Common.{◌∙◌, sym, ap, subst}
use Rattle.json.specs.Value.{value_view}
use Rattle.serde_json.specs.Read.{read}
use Rattle.it_borrowed.specs.Json.{IsJson}
use Rattle.it_borrowed.proofs.Ranges.{no_document, read-in_range, read-no_json, read-out_of_range}
use Rattle.it_borrowed.proofs.document.read_document.Goals as goal

pub returns-in_default-2-clause-document : goal.returns-in_default-2-clause-document
returns-in_default-2-clause-document c =
    λ d. no_document c.args.bytes.now d (ap read (sym c.in-Ok.ensures.cases.0)
    ∙ read-no_json c.in-Ok.text.now (rw c.in_default-2.is at c.in_ok-value.ensures))

pub returns-then-not-has_numbers_in_range-clause-document
    : goal.returns-then-not-has_numbers_in_range-clause-document
returns-then-not-has_numbers_in_range-clause-document c =
    λ d. no_document c.args.bytes.now d (ap read (sym c.in-Ok.ensures.cases.0)
    ∙ read-out_of_range c.in-Ok.text.now (value_view c.in-Some.value)
    (rw c.in-Some.is at c.in_ok-value.ensures)
    (sym c.has_numbers_in_range.ensures ∙ c.if-not-has_numbers_in_range.true))

pub returns : goal.returns
returns c =
    let is = rw c.in-Some.is at c.in_ok-value.ensures in
    record {
      document = record {
        utf8 = c.in-Ok.ensures.cases.1;
        reads = ap read (sym c.in-Ok.ensures.cases.0)
            ∙ read-in_range c.in-Ok.text.now (value_view c.in-Some.value) is
            (sym c.has_numbers_in_range.ensures ∙ c.if-not-has_numbers_in_range.false);
      };
      tree = subst (λ s. IsJson s (value_view c.in-Some.value)) c.in-Ok.ensures.cases.0 is;
    }
