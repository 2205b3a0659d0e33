use Rattle.std.proofs.Common.{◌≡◌, take}
use Rattle.std.specs.List.{flat_map}
use Rattle.it_signer_notes.specs.BuilderKeys.{keys_of_expectation}
use Rattle.it_signer_notes.specs.inside.Lent.{lent}
use Rattle.it_signer_notes.proofs.builder_keys.builder_keys.Given as goal

-- the keys of the expectations so far
abbrev pub invariant-loop-expectation : goal.invariant-loop-expectation
invariant-loop-expectation l =
    lent l.keys.items ≡ flat_map keys_of_expectation (take l.expectation-index l.expectation-items)
