use Rattle.std.proofs.Common.{◌≡◌, List, ◌++◌, zip}
use Rattle.std.specs.Iterator.Adapters.{zip_first, zip_second}
use Rattle.std.specs.List.{AllByRecursion}
use Rattle.std.specs.Slice.Iter.{iter_rest}
use Rattle.it_docs.specs.declared.step.Step.{Step}
use Rattle.it_chain.specs.StepRules.{StepRulesHold, links_in}
use Rattle.it_chain.specs.declared.chain.StepResult.{StepResult}
use Rattle.it_chain.proofs.step_rules.first_failed.Given as goal

-- the rules of the steps so far hold, and what is left follows
abbrev pub invariant-loop-step : goal.invariant-loop-step
invariant-loop-step l =
    (done : List (Step × StepResult))
    × (zip l.steps l.results ≡ done ++ zip (iter_rest (zip_first l.step-iterator))
    (iter_rest (zip_second l.step-iterator)))
    × AllByRecursion (λ p. StepRulesHold (links_in l.results) p.0 p.1) done
