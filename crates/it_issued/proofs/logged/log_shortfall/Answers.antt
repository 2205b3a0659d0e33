use Rattle.std.proofs.Common.{◌∙◌}
use Rattle.std.proofs.lemmas.Result.{IfOk-weaker}
use Rattle.it_certificate.specs.Certificate.{facts_of}
use Rattle.it_issued.proofs.LogMissing.{no_items, no_timestamps, shown_short}
use Rattle.it_issued.proofs.Logging.{shown}
use Rattle.it_issued.proofs.logged.log_shortfall.Goals as goal

pub returns-in_default-clause-answer : goal.returns-in_default-clause-answer
returns-in_default-clause-answer c =
    no_timestamps c.args.logs.now (facts_of c.args.issuer.now) (facts_of c.args.leaf.now)
    (rw c.as_slice-extensions.ensures.value at c.in_default.ensures)

pub returns-in_default-2-clause-answer : goal.returns-in_default-2-clause-answer
returns-in_default-2-clause-answer c =
    no_items c.args.logs.now (facts_of c.args.issuer.now) (facts_of c.args.leaf.now) c.in-Some.value.now
    (rw c.as_slice-extensions.ensures.value at c.in-Some.ensures) (rw c.in_default-2.is at c.in_ok-items.ensures)

pub shortfall_of_items-requires : goal.shortfall_of_items-requires
shortfall_of_items-requires c = rw c.as_slice-bare.ensures.value c.in_ok-bare.ensures.short

pub returns-clause-answer : goal.returns-clause-answer
returns-clause-answer c =
    let is = rw c.as_slice-extensions.ensures.value at c.in-Some.ensures in
    let are = rw c.in-Some-2.is at c.in_ok-items.ensures in
    IfOk-weaker c.shortfall_of_items.result _ _ (λ o short.
    shown_short c.args.logs.now (facts_of c.args.issuer.now) (facts_of c.args.leaf.now) (shown c.in-Some-2.items.items)
    c.as_slice-issuer_key.result.now c.as_slice-bare.result.now o
    (record { value = c.in-Some.value.now; value_is = is; items_are = are })
    (c.as_slice-issuer_key.ensures.value ∙ c.in_ok-key.ensures) (c.as_slice-bare.ensures.value ∙ c.in_ok-bare.ensures.bare)
    (rw c.as_slice.ensures.value at short)) c.shortfall_of_items.ensures.answer
