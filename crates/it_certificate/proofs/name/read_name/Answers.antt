use Rattle.std.proofs.Common.{Bor, List, ℕ}
use Rattle.it_certificate.specs.Name.{IsNameContent}
use Rattle.it_certificate.proofs.Within.{in_element_if_ok}
use Rattle.it_certificate.proofs.name.read_name.Goals as goal

pub returns-in-Some : goal.returns-in-Some
returns-in-Some c =
    in_element_if_ok (λ (n : Bor (List ℕ)). n.now) IsNameContent c.args.value.now 48 c.in-Some.content.now c.name_in.result
    c.in-Some.ensures c.name_in.ensures
