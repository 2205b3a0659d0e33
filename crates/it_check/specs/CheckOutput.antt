-- What the command check writes and finds (this profile's choice of the text).
use Rattle.std.specs.Prelude.{◌≡◌, ℕ, List, [], ◌++◌, length, Option, Some, None, Bool, true}
use Rattle.std.specs.Prelude.{false, ◌==◌, ◌&&◌, codes, if◌then◌else◌, map}
use Rattle.it_docs.specs.declared.layout.Layout.{Layout}
use Rattle.it_findings.specs.LayoutFindings.{LayoutFindings}
use Rattle.it_findings.specs.PolicyFindings.{PolicyFindings}
use Rattle.it_findings.specs.declared.finding.Finding.{Finding}
use Rattle.it_findings.specs.declared.finding.Finding.TheVariants as findings
use Rattle.it_findings.specs.declared.member_finding.MemberFinding.{MemberFinding}
use Rattle.it_findings.specs.declared.null_key.NullKey.{NullKey}
use Rattle.it_report.specs.Report.{report_of}
use Rattle.it_report.specs.declared.verdict.Verdict.TheVariants.{Refused as refused_for}
use Rattle.it_outcome.specs.declared.outcome.Status.{Status}
use Rattle.it_outcome.specs.declared.outcome.Status.TheVariants.{Good, Refused}
use Rattle.it_check.specs.Documents.{IsLayoutReading, IsPolicyReading, ReadsAs}
use Rattle.it_check.specs.FindingLine.{findings_text}
use Rattle.it_check.specs.declared.documents.LayoutReading.{LayoutReading}
use Rattle.it_check.specs.declared.documents.LayoutReading.TheVariants as layouts
use Rattle.it_check.specs.declared.documents.PolicyReading.{PolicyReading}
use Rattle.it_check.specs.declared.documents.PolicyReading.TheVariants as policies

-- the layout, where one was read
abbrev pub layout_read : Option LayoutReading → Option Layout
layout_read (Some (layouts.Read layout nulls places members)) = Some layout
layout_read reading = None

-- what is found: these first, and then all others
pub record IsFound (first : List Finding) (Others : List Finding → Type 0) (found : List Finding)
    : Type 0 where
  pub others : List Finding
  pub found_are : found ≡ first ++ others
  pub others_are : Others others

-- what is found in a policy first: in its members, and then the keys that are null
abbrev pub policy_gaps : List MemberFinding → List NullKey → List Finding
policy_gaps members nulls = map findings.Member members ++ map findings.NullKey nulls

-- what is found in a layout first: in its members, then the keys that are null, and then the steps
-- without a threshold
abbrev pub layout_gaps : List MemberFinding → List NullKey → List ℕ → List Finding
layout_gaps members nulls places =
    map findings.Member members ++ (map findings.NullKey nulls ++ map findings.NoThreshold places)

-- what is found in the policy, which takes from what the layout has, and in the layout
abbrev pub PolicyFound : Option Layout → Option PolicyReading → List Finding → Type 0
PolicyFound layout (Some (policies.Read policy nulls members)) found =
    IsFound (policy_gaps members nulls) (PolicyFindings layout policy) found
PolicyFound layout reading found = found ≡ []

abbrev pub LayoutFound : Option LayoutReading → List Finding → Type 0
LayoutFound (Some (layouts.Read layout nulls places members)) found =
    IsFound (layout_gaps members nulls places) (LayoutFindings layout) found
LayoutFound reading found = found ≡ []

-- what is written of the policy: the lines of what is found, or the report of its refusal
abbrev pub policy_text : Option PolicyReading → List Finding → List ℕ
policy_text None found = []
policy_text (Some (policies.Read policy nulls members)) found =
    findings_text (codes "policy") found
policy_text (Some (policies.Bad refusal)) found = report_of (refused_for refusal)

-- the same of the layout
abbrev pub layout_text : Option LayoutReading → List Finding → List ℕ
layout_text None found = []
layout_text (Some (layouts.Read layout nulls places members)) found =
    findings_text (codes "layout") found
layout_text (Some (layouts.Bad refusal)) found = report_of (refused_for refusal)

-- the first line where there is a layout
abbrev pub first_line : Option LayoutReading → List ℕ
first_line None = []
first_line (Some reading) = codes "layout: no signature is looked at\n"

-- whether a document reads, where it is given
abbrev pub policy_reads : Option PolicyReading → Bool
policy_reads (Some (policies.Bad refusal)) = false
policy_reads reading = true

abbrev pub layout_reads : Option LayoutReading → Bool
layout_reads (Some (layouts.Bad refusal)) = false
layout_reads reading = true

abbrev pub is_nothing : List Finding → Bool
is_nothing found = length found == 0

-- whether every document that is given reads, and nothing is found
abbrev pub is_good : Option PolicyReading → Option LayoutReading → List Finding → List Finding
    → Bool
is_good policy layout of_policy of_layout =
    policy_reads policy && layout_reads layout && is_nothing of_policy && is_nothing of_layout

-- what is written and found where the documents read so: the status is good where every document
-- that is given reads, and nothing is found in it
pub record Tells (policy : Option PolicyReading) (layout : Option LayoutReading) (text : List ℕ)
    (status : Status) : Type 0 where
  pub of_policy : List Finding
  pub of_layout : List Finding
  pub policy_found : PolicyFound (layout_read layout) policy of_policy
  pub layout_found : LayoutFound layout of_layout
  pub text_is : text
      ≡ first_line layout ++ (policy_text policy of_policy ++ layout_text layout of_layout)
  pub status_is : status ≡ if is_good policy layout of_policy of_layout then Good else Refused

-- what the command writes and finds
pub record IsCheckOutput (policy layout : Option (List ℕ)) (text : List ℕ) (status : Status)
    : Type 0 where
  pub policy_reading : Option PolicyReading
  pub layout_reading : Option LayoutReading
  pub policy_is : ReadsAs IsPolicyReading policy policy_reading
  pub layout_is : ReadsAs IsLayoutReading layout layout_reading
  pub tells : Tells policy_reading layout_reading text status
