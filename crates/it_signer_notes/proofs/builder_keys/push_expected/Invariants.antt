use Rattle.std.proofs.Common.{◌≡◌, ◌++◌, take}
use Rattle.std.specs.List.{flat_map}
use Rattle.it_signer_notes.specs.BuilderKeys.{keys_of_builder}
use Rattle.it_signer_notes.specs.inside.Lent.{lent}
use Rattle.it_signer_notes.proofs.builder_keys.push_expected.Given as goal

-- the keys of the builders so far
abbrev pub invariant-loop-builder : goal.invariant-loop-builder
invariant-loop-builder l = lent l.keys.items
    ≡ lent l.fn.keys.items ++ flat_map keys_of_builder (take l.builder-index l.builder-items)
