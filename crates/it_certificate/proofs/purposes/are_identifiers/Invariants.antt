use Rattle.std.proofs.Common.{◌≡◌, ◌==◌, map, drop}
use Rattle.std.specs.List.{list_all}
use Rattle.it_der.specs.Element.{Tagged, tagged_of}
use Rattle.it_certificate.proofs.purposes.are_identifiers.Given as goal

abbrev pub invariant-loop-element : goal.invariant-loop-element
invariant-loop-element l = list_all (λ (e : Tagged). e.tag == 6) (map tagged_of l.elements)
    ≡ list_all (λ (e : Tagged). e.tag == 6) (map tagged_of (drop l.element-index l.elements))
