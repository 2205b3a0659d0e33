-- What is found in the expectations of a policy (this profile's choice).
use Rattle.std.specs.Prelude.{◌≡◌, ◌≢◌, ℕ, ◌<◌, List, [], ◌++◌, All}
use Rattle.it_docs.specs.declared.policy.Builder.{Builder}
use Rattle.it_docs.specs.declared.policy.Expectation.{Expectation}
use Rattle.it_findings.specs.Joined.{Said}
use Rattle.it_findings.specs.UnequalNumbers.{ParameterFindings}
use Rattle.it_findings.specs.declared.finding.Finding.{Finding}
use Rattle.it_findings.specs.declared.finding.Finding.TheVariants.{NoBuilders, NoLevel}
use Rattle.it_findings.specs.declared.finding.Finding.TheVariants.{UnreachableLevel}

-- the expectation has builders, and none of them is trusted to reach its level
pub record IsUnreachable (expectation : Expectation) : Type 0 where
  pub some : expectation.builders ≢ []
  pub below : All (λ (b : Builder). b.level < expectation.level) expectation.builders

-- what is found in the expectation at a place: that it has no builders, that it asks for level 0,
-- that it has builders, but none that reaches its level, and what is found in its parameters
pub record ExpectationFindings (place : ℕ) (expectation : Expectation) (found : List Finding)
    : Type 0 where
  pub of_builders : List Finding
  pub of_level : List Finding
  pub of_reach : List Finding
  pub of_parameters : List Finding
  pub found_are : found ≡ of_builders ++ (of_level ++ (of_reach ++ of_parameters))
  pub builders : Said (expectation.builders ≡ []) (NoBuilders place) of_builders
  pub level : Said (expectation.level ≡ 0) (NoLevel place) of_level
  pub reach : Said (IsUnreachable expectation) (UnreachableLevel place expectation.level) of_reach
  pub parameters : ParameterFindings place expectation.parameters of_parameters
