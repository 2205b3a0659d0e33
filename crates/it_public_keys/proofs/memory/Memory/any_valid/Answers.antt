use Rattle.std.proofs.Common.{◌∙◌, ◌&&◌}
use Rattle.std.specs.List.{filter, list_any}
use Rattle.it_dsse.specs.Meter.{raised}
use Rattle.it_dsse.specs.Signed.{first_place, is_admitted}
use Rattle.it_public_keys.proofs.memory.Memory.any_valid.Goals as goal

pub returns-clause-answer : goal.returns-clause-answer
returns-clause-answer c =
    let same = c.in_ok-question.ensures in
    c.in_ok-valid.ensures.answer
    ∙ (λ i. list_any (λ signature. is_admitted c.args.asked.now.id.now signature
    && same signature.sig i) c.args.asked.now.signatures.now)

pub returns-clause-counted : goal.returns-clause-counted
returns-clause-counted c =
    let same = c.in_ok-question.ensures in
    c.in_ok-valid.ensures.counted
    ∙ (λ i. raised c.args.meter.now
    (first_place (λ signature. same signature.sig i)
    (filter (is_admitted c.args.asked.now.id.now) c.args.asked.now.signatures.now)))
