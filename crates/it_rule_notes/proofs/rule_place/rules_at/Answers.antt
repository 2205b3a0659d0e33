use Rattle.it_rule_notes.proofs.rule_place.rules_at.Goals as goal

pub returns-in_ok-step-in-Step : goal.returns-in_ok-step-in-Step
returns-in_ok-step-in-Step c =
    rw c.in-Step.is (
      c.in_ok-step-in-Step.step.now,
      rw c.as_slice.ensures at c.in_ok-step-in-Step.ensures.0,
      rw c.as_str.ensures at c.in_ok-step-in-Step.ensures.1,
      c.rules_of_step.ensures,
    )
