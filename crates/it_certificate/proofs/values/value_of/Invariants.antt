use Rattle.std.proofs.Common.{◌≡◌, map, drop}
use Rattle.it_certificate.specs.Extension.{stated_of}
use Rattle.it_certificate.specs.Values.{value_of}
use Rattle.it_certificate.proofs.values.value_of.Given as goal

abbrev pub invariant-loop-extension : goal.invariant-loop-extension
invariant-loop-extension l =
    value_of l.id (map stated_of l.extensions) ≡ value_of l.id (map stated_of (drop l.extension-index l.extensions))
