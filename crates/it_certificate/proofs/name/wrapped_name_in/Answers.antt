use Rattle.std.proofs.Common.{Bor, List, ℕ}
use Rattle.it_certificate.specs.Name.{IsOtherName}
use Rattle.it_certificate.proofs.Within.{in_element_if_ok}
use Rattle.it_certificate.proofs.name.wrapped_name_in.Goals as goal

pub returns-in-Some : goal.returns-in-Some
returns-in-Some c =
    in_element_if_ok (λ (n : Bor (List ℕ)). n.now) IsOtherName c.args.content.now 160 c.in-Some.inner.now c.other_name_in.result
    c.in-Some.ensures c.other_name_in.ensures
