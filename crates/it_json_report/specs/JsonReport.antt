-- The report of a verdict as JSON (this profile's choice).
use Rattle.std.specs.Prelude.{ℕ, List, [], ◌∷◌, ◌++◌, Option, Some, None, codes, decimal}
use Rattle.it_chain.specs.declared.refusal.RuleItem.{RuleItem}
use Rattle.it_chain.specs.declared.refusal.RuleItem.TheVariants.{Step, Inspection}
use Rattle.it_chain.specs.declared.refusal.RuleItem.TheVariants.{Deliver}
use Rattle.it_docs.specs.declared.layout_fault.LayoutPart.{LayoutPart}
use Rattle.it_docs.specs.declared.layout_fault.LayoutPart.TheVariants.{DuplicateName}
use Rattle.it_report.specs.Fault.{name_of, number_of}
use Rattle.it_report.specs.Report.{layout_part_form, policy_part_form, side_form}
use Rattle.it_report.specs.declared.refusal.Fault.{Fault}
use Rattle.it_report.specs.declared.refusal.Fault.TheVariants.{BadPolicy, BadSums, BadSums512}
use Rattle.it_report.specs.declared.refusal.Fault.TheVariants.{BadMoment}
use Rattle.it_report.specs.declared.refusal.Fault.TheVariants.{NoFiles, BadEnvelope}
use Rattle.it_report.specs.declared.refusal.Fault.TheVariants.{WrongPayloadType, OwnerMissing}
use Rattle.it_report.specs.declared.refusal.Fault.TheVariants.{BadLayout, Expired, TwoPayloads}
use Rattle.it_report.specs.declared.refusal.Fault.TheVariants.{TooDeep, Threshold, Disagree}
use Rattle.it_report.specs.declared.refusal.Fault.TheVariants.{InspectionInSublayout, RuleFailed}
use Rattle.it_report.specs.declared.refusal.Fault.TheVariants.{RecordMissing, BadRecord}
use Rattle.it_report.specs.declared.refusal.Fault.TheVariants.{NoExpectation, NoProvenance}
use Rattle.it_report.specs.declared.verdict.Verdict.{Verdict}
use Rattle.it_report.specs.declared.verdict.Verdict.TheVariants.{Accepted, Refused}
use Rattle.it_json_report.specs.Json.{json_list, json_object, json_text}

-- a step that held, and how many different keys signed for it
abbrev pub step_object : List ℕ × ℕ → List ℕ
step_object step =
    json_object ((codes "name", json_text step.0) ∷ (codes "keys", decimal step.1) ∷ [])

-- a sublayout by its step and key id
abbrev pub sublayout_object : List ℕ × List ℕ → List ℕ
sublayout_object pair =
    json_object ((codes "step", json_text pair.0) ∷ (codes "key", json_text pair.1) ∷ [])

-- a part of a layout as the report in lines names it, but without escapes in a name
abbrev pub layout_part_text : LayoutPart → List ℕ
layout_part_text (DuplicateName name) = codes "duplicate " ++ name
layout_part_text part = layout_part_form part

-- whose rule it is, as the report in lines says, but without escapes in a name
abbrev pub item_text : RuleItem → List ℕ
item_text (Step name) = codes "step " ++ name
item_text (Inspection name) = codes "inspection " ++ name
item_text Deliver = codes "deliver"

-- the best level, where there is one
abbrev pub best_members : Option ℕ → List (List ℕ × List ℕ)
best_members None = []
best_members (Some level) = (codes "best", decimal level) ∷ []

-- what is said of a fault: the words of its lines in the report, and their values in JSON; but
-- "inspection" instead of "name", which is another member
abbrev pub fault_members : Fault → List (List ℕ × List ℕ)
fault_members (BadPolicy part) = (codes "part", json_text (policy_part_form part)) ∷ []
fault_members (BadSums n) = (codes "line", decimal n) ∷ []
fault_members (BadSums512 n) =
    (codes "list", json_text (codes "sha512")) ∷ (codes "line", decimal n) ∷ []
fault_members BadMoment = []
fault_members NoFiles = []
fault_members BadEnvelope = []
fault_members WrongPayloadType = []
fault_members (OwnerMissing id) = (codes "key", json_text id) ∷ []
fault_members (BadLayout part) = (codes "part", json_text (layout_part_text part)) ∷ []
fault_members Expired = []
fault_members (TwoPayloads step id) =
    (codes "step", json_text step) ∷ (codes "key", json_text id) ∷ []
fault_members TooDeep = []
fault_members (Threshold step found needed) =
    (codes "step", json_text step) ∷ (codes "found", decimal found)
    ∷ (codes "needed", decimal needed) ∷ []
fault_members (Disagree step id) =
    (codes "step", json_text step) ∷ (codes "key", json_text id) ∷ []
fault_members InspectionInSublayout = []
fault_members (RuleFailed item side index path) =
    (codes "item", json_text (item_text item)) ∷ (codes "side", json_text (side_form side))
    ∷ (codes "rule", decimal index) ∷ (codes "path", json_text path) ∷ []
fault_members (RecordMissing name) = (codes "inspection", json_text name) ∷ []
fault_members (BadRecord name) = (codes "inspection", json_text name) ∷ []
fault_members (NoExpectation path) = (codes "path", json_text path) ∷ []
fault_members (NoProvenance path best) = (codes "path", json_text path) ∷ best_members best

-- the members of a verdict, in their order
abbrev pub members_of : Verdict → List (List ℕ × List ℕ)
members_of (Accepted steps files) =
    (codes "verdict", json_text (codes "accepted")) ∷ (codes "steps", json_list step_object steps)
    ∷ (codes "files", json_list json_text files) ∷ []
members_of (Refused refusal) =
    (codes "verdict", json_text (codes "refused"))
    ∷ (codes "number", decimal (number_of refusal.fault))
    ∷ (codes "name", json_text (name_of refusal.fault))
    ∷ (codes "at", json_list sublayout_object refusal.at) ∷ fault_members refusal.fault

-- the report of a verdict as JSON: one object on one line
abbrev pub json_of : Verdict → List ℕ
json_of verdict = json_object (members_of verdict) ++ codes "\n"
