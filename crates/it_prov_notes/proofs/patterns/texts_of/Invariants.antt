use Rattle.std.proofs.Common.{◌≡◌, map, take}
use Rattle.it_docs.specs.declared.policy.Expectation.{Expectation}
use Rattle.it_prov_notes.proofs.patterns.texts_of.Given as goal

-- the patterns of the expectations so far
abbrev pub invariant-loop-expectation : goal.invariant-loop-expectation
invariant-loop-expectation l = l.texts.items
    ≡ map (λ (expectation : Expectation). expectation.files)
    (take l.expectation-index l.expectations)
