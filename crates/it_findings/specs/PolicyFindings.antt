-- What is found in a policy (this profile's choice).
use Rattle.std.specs.Prelude.{◌≡◌, List, ◌++◌, Option}
use Rattle.it_docs.specs.declared.layout.Layout.{Layout}
use Rattle.it_docs.specs.declared.policy.Policy.{Policy}
use Rattle.it_findings.specs.ExpectationFindings.{ExpectationFindings}
use Rattle.it_findings.specs.IdentityFindings.{PolicyIdentities}
use Rattle.it_findings.specs.Joined.{Joined}
use Rattle.it_findings.specs.RuleFindings.{ListFindings}
use Rattle.it_findings.specs.SharedKeys.{SharedKeys}
use Rattle.it_findings.specs.declared.finding.Finding.{Finding}
use Rattle.it_findings.specs.declared.finding.RuleList.TheVariants.{Deliver}

-- what is found in a policy: on identities among its keys, on keys that are shared, in its rules on
-- what is delivered, which take from what the layout has, where there is one, and then in each of
-- its expectations in order
pub record PolicyFindings (layout : Option Layout) (policy : Policy) (found : List Finding)
    : Type 0 where
  pub of_identities : List Finding
  pub of_shared : List Finding
  pub of_rules : List Finding
  pub of_expectations : List Finding
  pub found_are : found ≡ of_identities ++ (of_shared ++ (of_rules ++ of_expectations))
  pub identities : PolicyIdentities policy of_identities
  pub shared : SharedKeys policy of_shared
  pub rules : ListFindings layout Deliver policy.deliver of_rules
  pub expectations : Joined ExpectationFindings policy.expectations of_expectations
