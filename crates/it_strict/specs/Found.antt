-- What is found where a delivery is accepted (this project's words).
use Rattle.std.specs.Prelude.{◌≡◌, ℕ, All, List, [], ◌++◌, Some, map}
use Rattle.it_dsse.specs.Panel.{Panel}
use Rattle.it_findings.specs.Members.{MembersOfPolicy}
use Rattle.it_findings.specs.NullKeys.{NullsOf, PolicyNulls}
use Rattle.it_findings.specs.PolicyFindings.{PolicyFindings}
use Rattle.it_findings.specs.declared.finding.Finding.{Finding}
use Rattle.it_findings.specs.declared.finding.Finding.TheVariants.{UnusedExpectation}
use Rattle.it_findings.specs.declared.member_finding.MemberFinding.{MemberFinding}
use Rattle.it_findings.specs.declared.null_key.NullKey.{NullKey}
use Rattle.it_check.specs.CheckOutput.{IsFound, policy_gaps}
use Rattle.it_ties.specs.Ties.{AreUntied}
use Rattle.it_unused.specs.Unused.{AreUnused}
use Rattle.it_verify.specs.Delivered.{delivery}
use Rattle.it_verify.specs.Evidence.{evidence_links}
use Rattle.it_verify.specs.declared.documents.Documents.{Documents}
use Rattle.it_verify.specs.declared.evidence.Evidence.{Evidence}
use Rattle.it_verify.specs.declared.inputs.Inputs.{Inputs}
use Rattle.it_strict.specs.Below.{AreFoundBelow}
use Rattle.it_strict.specs.Counting.{LayoutCounting}
use Rattle.it_strict.specs.ListedOnce.{AreListedOnce}
use Rattle.it_strict.specs.Nonces.{AreSharedIn}
pub use Rattle.it_strict.specs.declared.found.Found.{Found}

-- these are the expectations of the policy that are unused for the delivered files, in their order
pub record UnusedFound (documents : Documents) (found : List Finding) : Type 0 where
  pub places : List ℕ
  pub are_unused : AreUnused documents.policy.expectations documents.delivered places
  pub found_are : found ≡ map UnusedExpectation places

-- what is found in the policy, which is read from these bytes: all that is found in it without a
-- delivery, where its MATCH may take from what the layout has, and then its unused expectations
pub record PolicyFound (bytes : List ℕ) (documents : Documents) (found : List Finding)
    : Type 0 where
  pub members : List MemberFinding
  pub nulls : List NullKey
  pub always : List Finding
  pub unused : List Finding
  pub are_members : MembersOfPolicy bytes members
  pub are_nulls : NullsOf PolicyNulls bytes nulls
  pub are_always : IsFound (policy_gaps members nulls)
      (PolicyFindings (Some documents.layout) documents.policy) always
  pub are_unused : UnusedFound documents unused
  pub are_all : found ≡ always ++ unused

-- what is found: in the policy; in the layout and in the sublayouts that count, as far as it
-- counts; the delivered files that are tied to no step; the paths that one of two digest lists
-- alone names; and the signatures of different keys that share a nonce
pub record AreFound (panel : Panel) (inputs : Inputs) (documents : Documents) (evidence : Evidence)
    (found : Found) : Type 0 where
  pub policy : PolicyFound inputs.policy documents found.of_policy
  pub layout : LayoutCounting documents.envelope.payload documents.layout evidence.steps
      found.of_layout
  pub sublayouts : AreFoundBelow panel inputs documents found.of_sublayouts
  pub untied : AreUntied documents.layout.steps documents.policy.deliver
      (delivery documents.delivered) (evidence_links evidence) found.untied
  pub listed_once : AreListedOnce inputs.sums inputs.sums512 found.listed_once
  pub shared_nonces : AreSharedIn panel inputs documents found.shared_nonces

-- nothing is found
pub record IsNothing (found : Found) : Type 0 where
  pub of_policy : found.of_policy ≡ []
  pub of_layout : found.of_layout ≡ []
  pub of_sublayouts : All (λ below. below.findings ≡ []) found.of_sublayouts
  pub untied : found.untied ≡ []
  pub listed_once : found.listed_once ≡ []
  pub shared_nonces : found.shared_nonces ≡ []
