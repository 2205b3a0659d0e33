use Rattle.std.proofs.Common.{map, take}
use Rattle.std.specs.List.{AllZip}
use Rattle.it_der.specs.Element.{tagged_of}
use Rattle.it_certificate.specs.Extension.{HoldsExtension, stated_of}
use Rattle.it_certificate.proofs.extensions.read_extensions.Given as goal

-- the extensions of the elements so far
abbrev pub invariant-loop-element : goal.invariant-loop-element
invariant-loop-element l =
    AllZip HoldsExtension (take l.element-index (map tagged_of l.element-items)) (map stated_of l.extensions.items)
