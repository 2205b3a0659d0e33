-- How far an accepting verification raises a meter.
use Rattle.std.specs.Prelude.{◌≤◌, ⊤}
use Rattle.it_dsse.specs.Meter.{RaisedBy}
use Rattle.it_dsse.specs.Panel.{Panel}
use Rattle.it_dsse.specs.declared.meter.Meter.{Meter}
use Rattle.it_docs.specs.Policy.{PolicyOf}
use Rattle.it_docs.specs.declared.policy.Policy.{Policy}
use Rattle.it_prov.specs.Asked.{AtLeast}
use Rattle.it_report.specs.declared.verdict.Verdict.{Verdict}
use Rattle.it_report.specs.declared.verdict.Verdict.TheVariants as verdict
use Rattle.it_verify.specs.VerificationTakes.{Takes, fewest}
use Rattle.it_verify.specs.declared.inputs.Inputs.{Inputs}

-- an accepting verdict raised a meter by at least the checks that it takes
abbrev pub TakesEnough : Panel → Inputs → Meter → Meter → Verdict → Type 0
TakesEnough panel inputs old new (verdict.Accepted steps files) =
    RaisedBy (AtLeast (Takes panel inputs)) old new
    × ((policy : Policy) → PolicyOf inputs.policy policy
    → RaisedBy (λ n. fewest policy steps files ≤ n) old new)
TakesEnough panel inputs old new (verdict.Refused refusal) = ⊤
