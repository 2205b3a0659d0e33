use Rattle.std.proofs.Common.{◌∙◌, sym}
use Rattle.std.proofs.lemmas.Option.{same_Some, slice_get_within}
use Rattle.it_docs.specs.declared.policy.Expectation.{Expectation}
use Rattle.it_prov.specs.Answered.{AreAnswers}
use Rattle.it_prov.proofs.Holding.{zip_stands}
use Rattle.it_prov.proofs.Saying.{said_reached, unsaid_reached}
use Rattle.it_prov.proofs.Searching.{stands_in}
use Rattle.it_prov.proofs.reached.level_of_statement.Goals as goal

pub returns-in_default : goal.returns-in_default
returns-in_default c = λ panel expectations envelope stands attested digests has.
    let expectation = c.args.sought.now.expectation.now in
    unsaid_reached panel expectations expectation
    (stands_in expectations c.args.sought.now.place expectation stands) digests envelope
    c.args.meter.now c.args.attestation.now.statement attested.held c.in_default.ensures

pub for_builders-requires : goal.for_builders-requires
for_builders-requires c =
    let has = c.requires.answers in
    slice_get_within c.args.attestation.now.answers c.args.sought.now.place has.answers has.stands

pub level_of_builders-requires : goal.level_of_builders-requires
level_of_builders-requires c =
    let has = c.requires.answers in
    let same = same_Some c.for_builders.result has.answers
    (sym c.for_builders.ensures ∙ has.stands) in
    rw (same, c.as_slice.ensures) has.as_many

pub returns : goal.returns
returns c = λ panel expectations envelope stands attested digests has.
    let expectation = c.args.sought.now.expectation.now in
    let all = c.args.attestation.now.answers in
    let beside = zip_stands (λ (e : Expectation) a. AreAnswers panel envelope e.builders a)
    expectations all c.args.sought.now.place expectation attested.answers stands in
    let same = same_Some c.for_builders.result beside.0
    (sym c.for_builders.ensures ∙ beside.1) in
    let are : AreAnswers panel envelope c.as_slice.result.now c.for_builders.result =
    rw (same, c.as_slice.ensures) beside.2 in
    said_reached panel expectations expectation
    (stands_in expectations c.args.sought.now.place expectation stands) digests envelope
    c.args.meter.now c.level_of_builders.new.meter c.args.attestation.now attested.held has
    c.in-Some.provenance.now c.in-Some.ensures c.level_of_builders.result
    (rw (← c.as_slice.ensures, ← c.as_str.ensures)
    (c.level_of_builders.ensures.answer panel envelope are))
    (rw (← c.as_slice.ensures) (c.level_of_builders.ensures.at_most panel envelope are))
    (rw (← c.as_slice.ensures, ← c.as_str.ensures)
    (c.level_of_builders.ensures.at_least panel envelope are))
