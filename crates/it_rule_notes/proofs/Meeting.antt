-- What a rule of a step meets over the records.
use Rattle.std.proofs.Common.{◌≡◌, ℕ, List, Contains, Option, Some, None, IfSome, subst}
use Rattle.it_docs.specs.declared.rule.Side.{Side}
use Rattle.it_docs.specs.declared.step.Step.{Step}
use Rattle.it_chain.specs.declared.chain.StepResult.{StepResult}
use Rattle.it_rule_notes.specs.Met.{Judging, Meets}
use Rattle.it_rule_notes.specs.MetNote.{MeetsOver, judging_of}
use Rattle.it_rule_notes.specs.declared.met.Met.{Met}

module _ (results : List StepResult) (step : Step) (side : Side) (index : ℕ)
    (result : StepResult) (within : Contains results result) (named : result.name ≡ step.name)
    (judging : Judging) (same : judging ≡ judging_of side step result results) where
  -- what is met over the record of the step is met over the records
  pub met_over_all : (found : Option Met) → IfSome found (Meets judging index)
      → IfSome found (MeetsOver results step side index)
  met_over_all None met = tt
  met_over_all (Some one) met = record {
    result = result;
    is_result = within;
    result_is = named;
    meets = subst (λ (j : Judging). Meets j index one) same met;
  }
