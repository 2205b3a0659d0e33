use Rattle.std.proofs.Common.{map}
use Rattle.it_der.specs.Element.{tagged_of}
use Rattle.it_certificate.specs.Validity.{AreTimes}
use Rattle.it_certificate.specs.declared.validity.Validity.{Validity}
use Rattle.it_certificate.proofs.Within.{in_elements}
use Rattle.it_certificate.proofs.validity.validity_in.Goals as goal

pub returns-in-Some : goal.returns-in-Some
returns-in-Some c =
    in_elements (λ (v : Validity). v) AreTimes c.args.content.now (map tagged_of c.in-Some.elements.items) c.times_of.result
    (rw c.in-Some.is at c.in_ok-elements.ensures) (rw c.deref.ensures.value at c.times_of.ensures)
