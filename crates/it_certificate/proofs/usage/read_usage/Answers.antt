use Rattle.it_certificate.specs.Usage.{IsUsageContent}
use Rattle.it_certificate.specs.declared.usage.Usage.{Usage}
use Rattle.it_certificate.proofs.Within.{in_element}
use Rattle.it_certificate.proofs.usage.read_usage.Goals as goal

pub returns : goal.returns
returns c =
    in_element (λ (u : Usage). u) IsUsageContent c.args.value.now 3 c.in_ok-content.content.now c.usage_in.result
    c.in_ok-content.ensures c.usage_in.ensures
