use Rattle.std.proofs.Common.{◌≡◌, refl}
use Rattle.std.proofs.lemmas.Bool.{false≢true}
use Rattle.it_docs.specs.declared.step.Step.{Step}
use Rattle.it_findings.proofs.Reaching.{any_of, not_any}
use Rattle.it_findings.proofs.in_rules.has_step.Goals as goal

pub returns-in-Some : goal.returns-in-Some
returns-in-Some c =
    let found = rw (c.as_slice.ensures, c.as_str.ensures) at c.in-Some.ensures in (
      λ t. any_of (λ (s : Step). s.name ≡ c.args.name.now) c.args.layout.now.steps
          c.in-Some.field-0.now found.0 found.1,
      λ h. refl,
    )

pub returns-in-None : goal.returns-in-None
returns-in-None c =
    let none = rw (c.as_slice.ensures, c.as_str.ensures) at c.in-None.ensures in (
      λ t. absurd (false≢true t),
      λ h. absurd
          (not_any (λ (s : Step). s.name ≡ c.args.name.now) c.args.layout.now.steps none h),
    )
