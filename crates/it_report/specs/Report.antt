-- The report of a verdict (this profile's choice).
use Rattle.std.specs.Prelude.{ℕ, List, [], ◌∷◌, ◌++◌, Option, Some, None, codes, decimal}
use Rattle.std.specs.List.{flat_map}
use Rattle.it_chain.specs.declared.refusal.RuleItem.{RuleItem}
use Rattle.it_chain.specs.declared.refusal.RuleItem.TheVariants.{Step as of_step, Inspection}
use Rattle.it_chain.specs.declared.refusal.RuleItem.TheVariants.{Deliver as of_delivery}
use Rattle.it_docs.specs.declared.layout_fault.LayoutPart.{LayoutPart}
use Rattle.it_docs.specs.declared.layout_fault.LayoutPart.TheVariants.{Json as layout_json}
use Rattle.it_docs.specs.declared.layout_fault.LayoutPart.TheVariants.{WrongType, Expires, Keys}
use Rattle.it_docs.specs.declared.layout_fault.LayoutPart.TheVariants.{Steps, Step as step_at}
use Rattle.it_docs.specs.declared.layout_fault.LayoutPart.TheVariants.{Inspects, Inspect}
use Rattle.it_docs.specs.declared.layout_fault.LayoutPart.TheVariants.{DuplicateName}
use Rattle.it_docs.specs.declared.policy_fault.PolicyPart.{PolicyPart}
use Rattle.it_docs.specs.declared.policy_fault.PolicyPart.TheVariants.{Json as policy_json, Owners}
use Rattle.it_docs.specs.declared.policy_fault.PolicyPart.TheVariants.{Deliver, Expectations}
use Rattle.it_docs.specs.declared.policy_fault.PolicyPart.TheVariants.{Expectation}
use Rattle.it_docs.specs.declared.rule.Side.{Side}
use Rattle.it_docs.specs.declared.rule.Side.TheVariants.{Materials, Products}
use Rattle.it_report.specs.Fault.{name_of, number_of}
use Rattle.it_report.specs.Name.{inner_form, name_form}
use Rattle.it_report.specs.declared.refusal.Fault.{Fault}
use Rattle.it_report.specs.declared.refusal.Fault.TheVariants.{BadPolicy, BadSums, BadSums512}
use Rattle.it_report.specs.declared.refusal.Fault.TheVariants.{BadMoment}
use Rattle.it_report.specs.declared.refusal.Fault.TheVariants.{NoFiles, BadEnvelope}
use Rattle.it_report.specs.declared.refusal.Fault.TheVariants.{WrongPayloadType, OwnerMissing}
use Rattle.it_report.specs.declared.refusal.Fault.TheVariants.{BadLayout, Expired, TwoPayloads}
use Rattle.it_report.specs.declared.refusal.Fault.TheVariants.{TooDeep, Threshold, Disagree}
use Rattle.it_report.specs.declared.refusal.Fault.TheVariants.{InspectionInSublayout, RuleFailed}
use Rattle.it_report.specs.declared.refusal.Fault.TheVariants.{RecordMissing, BadRecord}
use Rattle.it_report.specs.declared.refusal.Fault.TheVariants.{NoExpectation, NoProvenance}
use Rattle.it_report.specs.declared.verdict.Verdict.{Verdict}
use Rattle.it_report.specs.declared.verdict.Verdict.TheVariants.{Accepted, Refused}

-- a line: a word, a space, a value, a line feed
abbrev pub line : List ℕ → List ℕ → List ℕ
line word value = word ++ codes " " ++ value ++ codes "\n"

-- a step that held, and how many different keys signed for it
abbrev pub step_line : List ℕ × ℕ → List ℕ
step_line step = line (codes "step") (name_form step.0 ++ codes " " ++ decimal step.1)

-- a delivered file
abbrev pub file_line : List ℕ → List ℕ
file_line path = line (codes "file") (name_form path)

-- a sublayout by its step and key id
abbrev pub pair_form : List ℕ × List ℕ → List ℕ
pair_form pair = inner_form pair.0 ++ codes "/" ++ inner_form pair.1

-- the sublayouts, outermost first, separated by /, and none as -
abbrev pub place_form : List (List ℕ × List ℕ) → List ℕ
place_form [] = codes "-"
place_form (pair ∷ pairs) =
    pair_form pair ++ flat_map (λ further. codes "/" ++ pair_form further) pairs

abbrev pub policy_part_form : PolicyPart → List ℕ
policy_part_form policy_json = codes "json"
policy_part_form Owners = codes "owners"
policy_part_form Deliver = codes "deliver"
policy_part_form Expectations = codes "expectations"
policy_part_form (Expectation n) = codes "expectation " ++ decimal n

abbrev pub layout_part_form : LayoutPart → List ℕ
layout_part_form layout_json = codes "json"
layout_part_form WrongType = codes "type"
layout_part_form Expires = codes "expires"
layout_part_form Keys = codes "keys"
layout_part_form Steps = codes "steps"
layout_part_form (step_at n) = codes "step " ++ decimal n
layout_part_form Inspects = codes "inspects"
layout_part_form (Inspect n) = codes "inspect " ++ decimal n
layout_part_form (DuplicateName name) = codes "duplicate " ++ name_form name

abbrev pub item_form : RuleItem → List ℕ
item_form (of_step name) = codes "step " ++ name_form name
item_form (Inspection name) = codes "inspection " ++ name_form name
item_form of_delivery = codes "deliver"

abbrev pub side_form : Side → List ℕ
side_form Materials = codes "materials"
side_form Products = codes "products"

-- the best level, where there is one
abbrev pub best_lines : Option ℕ → List ℕ
best_lines None = []
best_lines (Some level) = line (codes "best") (decimal level)

-- the details of a fault, line by line
abbrev pub fault_lines : Fault → List ℕ
fault_lines (BadPolicy part) = line (codes "part") (policy_part_form part)
fault_lines (BadSums n) = line (codes "line") (decimal n)
fault_lines (BadSums512 n) =
    line (codes "list") (codes "sha512") ++ line (codes "line") (decimal n)
fault_lines BadMoment = []
fault_lines NoFiles = []
fault_lines BadEnvelope = []
fault_lines WrongPayloadType = []
fault_lines (OwnerMissing id) = line (codes "key") (name_form id)
fault_lines (BadLayout part) = line (codes "part") (layout_part_form part)
fault_lines Expired = []
fault_lines (TwoPayloads step id) =
    line (codes "step") (name_form step) ++ line (codes "key") (name_form id)
fault_lines TooDeep = []
fault_lines (Threshold step found needed) =
    line (codes "step") (name_form step) ++ line (codes "found") (decimal found)
    ++ line (codes "needed") (decimal needed)
fault_lines (Disagree step id) =
    line (codes "step") (name_form step) ++ line (codes "key") (name_form id)
fault_lines InspectionInSublayout = []
fault_lines (RuleFailed item side index path) =
    line (codes "item") (item_form item) ++ line (codes "side") (side_form side)
    ++ line (codes "rule") (decimal index) ++ line (codes "path") (name_form path)
fault_lines (RecordMissing name) = line (codes "name") (name_form name)
fault_lines (BadRecord name) = line (codes "name") (name_form name)
fault_lines (NoExpectation path) = line (codes "path") (name_form path)
fault_lines (NoProvenance path best) = line (codes "path") (name_form path) ++ best_lines best

-- the first line: accepted, or refused with the number and the name of the fault
abbrev pub first_line : Verdict → List ℕ
first_line (Accepted steps files) = codes "accepted\n"
first_line (Refused refusal) =
    line (codes "refused") (decimal (number_of refusal.fault) ++ codes " " ++ name_of refusal.fault)

-- the other lines: what was accepted, or where the refusal comes from and the details of its fault
abbrev pub further_lines : Verdict → List ℕ
further_lines (Accepted steps files) = flat_map step_line steps ++ flat_map file_line files
further_lines (Refused refusal) =
    line (codes "at") (place_form refusal.at) ++ fault_lines refusal.fault

-- the report of a verdict
abbrev pub report_of : Verdict → List ℕ
report_of verdict = first_line verdict ++ further_lines verdict
