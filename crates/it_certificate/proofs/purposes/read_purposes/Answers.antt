use Rattle.it_certificate.specs.Purposes.{ArePurposes}
use Rattle.it_certificate.specs.Within.{Lists}
use Rattle.it_certificate.specs.declared.purposes.Purposes.{Purposes}
use Rattle.it_certificate.proofs.Within.{in_element_if_ok}
use Rattle.it_certificate.proofs.purposes.read_purposes.Goals as goal

pub returns-in-Some : goal.returns-in-Some
returns-in-Some c =
    in_element_if_ok (λ (p : Purposes). p) (Lists ArePurposes) c.args.value.now 48 c.in-Some.content.now c.purposes_in.result
    c.in-Some.ensures c.purposes_in.ensures
