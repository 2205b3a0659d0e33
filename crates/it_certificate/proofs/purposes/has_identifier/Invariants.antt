use Rattle.std.proofs.Common.{◌≡◌, map, drop}
use Rattle.std.specs.List.{list_any}
use Rattle.std.specs.Str.{bytes_eq}
use Rattle.it_der.specs.Element.{Tagged, tagged_of}
use Rattle.it_certificate.proofs.purposes.has_identifier.Given as goal

abbrev pub invariant-loop-element : goal.invariant-loop-element
invariant-loop-element l = list_any (λ (e : Tagged). bytes_eq e.content l.id) (map tagged_of l.elements)
    ≡ list_any (λ (e : Tagged). bytes_eq e.content l.id) (map tagged_of (drop l.element-index l.elements))
