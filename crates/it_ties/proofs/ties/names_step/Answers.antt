use Rattle.std.proofs.Common.{◌∙◌, ap, refl}
use Rattle.std.proofs.lemmas.Bool.{false≢true}
use Rattle.it_docs.specs.declared.step.Step.{Step}
use Rattle.it_ties.proofs.ties.names_step.Goals as goal

pub returns-in-Some : goal.returns-in-Some
returns-in-Some c =
    let found = c.in-Some.ensures in (
      λ t. (found.0.0, c.in-Some.field-0.now, found.0.1, found.0.2, found.1),
      λ h. refl,
    )

pub returns-in-None : goal.returns-in-None
returns-in-None c = (
  λ t. absurd (false≢true t),
  λ h. absurd (c.in-None.ensures h.0 h.1 h.2 (ap (λ (step : Step). step.name) h.3 ∙ h.4)),
)
