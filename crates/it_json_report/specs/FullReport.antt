-- The report of a verdict as JSON with what is found and noted (this profile's choice).
use Rattle.std.specs.Prelude.{ℕ, List, [], ◌∷◌, ◌++◌, Bool, true, false, Option, None, Some}
use Rattle.std.specs.Prelude.{codes}
use Rattle.it_report.specs.declared.verdict.Verdict.{Verdict}
use Rattle.it_report.specs.declared.verdict.Verdict.TheVariants.{Accepted, Refused}
use Rattle.it_json_report.specs.EvidenceReport.{evidence_object}
use Rattle.it_json_report.specs.Json.{json_list, json_object, json_text}
use Rattle.it_json_report.specs.JsonReport.{members_of, sublayout_object}
use Rattle.it_json_report.specs.declared.evidence.Evidence.{Evidence}
use Rattle.it_json_report.specs.declared.full.Beside.{Beside}
use Rattle.it_json_report.specs.declared.full.ReportFinding.{ReportFinding}

-- something that is found: in which document, for a sublayout at which place, under which name,
-- where in it, and in a sentence
abbrev pub finding_object : ReportFinding → List ℕ
finding_object finding =
    json_object ((codes "document", json_text finding.document)
    ∷ (codes "at", json_list sublayout_object finding.at)
    ∷ (codes "name", json_text finding.name) ∷ (codes "place", json_text finding.place)
    ∷ (codes "sentence", json_text finding.sentence) ∷ [])

-- true and false (RFC 8259, section 3)
abbrev pub json_bool : Bool → List ℕ
json_bool true = codes "true"
json_bool false = codes "false"

-- the member of what stands behind the verdict, where that is told
abbrev pub evidence_members : Option Evidence → List (List ℕ × List ℕ)
evidence_members None = []
evidence_members (Some evidence) = (codes "evidence", evidence_object evidence) ∷ []

-- the members of what is found and of what stands behind the verdict, where it accepts
abbrev pub accepted_members : Verdict → List ReportFinding → Option Evidence
    → List (List ℕ × List ℕ)
accepted_members (Accepted steps files) findings evidence =
    (codes "findings", json_list finding_object findings) ∷ evidence_members evidence
accepted_members (Refused refusal) findings evidence = []

-- the members of the notes, and of whether these are all
abbrev pub notes_members : List (List ℕ) → Bool → List (List ℕ × List ℕ)
notes_members notes complete =
    (codes "notes", json_list json_text notes)
    ∷ (codes "notesComplete", json_bool complete) ∷ []

-- the members of what stands beside the verdict
abbrev pub beside_members : Verdict → Beside → List (List ℕ × List ℕ)
beside_members verdict beside =
    accepted_members verdict beside.findings beside.evidence
    ++ notes_members beside.notes beside.complete

-- the members of the verdict, as without what stands beside it, and then of that: one object on one
-- line
abbrev pub full_json_of : Verdict → Beside → List ℕ
full_json_of verdict beside =
    json_object (members_of verdict ++ beside_members verdict beside) ++ codes "\n"

-- what is found against a delivery that would be accepted otherwise, in place of a report: one
-- object on one line
abbrev pub findings_json_of : List ReportFinding → List ℕ
findings_json_of findings =
    json_object ((codes "error", json_text (codes "findings"))
    ∷ (codes "findings", json_list finding_object findings) ∷ notes_members [] true) ++ codes "\n"
