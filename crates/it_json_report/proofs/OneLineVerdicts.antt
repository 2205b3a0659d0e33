-- The report of a verdict as JSON is one line.
use Rattle.std.proofs.Common.{◌<◌, ◌^◌, ℕ, List, [], ◌∷◌, Option, Some, None, IfSome, All, codes}
use Rattle.std.proofs.Common.{get_or, refl}
use Rattle.std.specs.Prelude.{decimal}
use Rattle.std.proofs.lemmas.List.Elements.{All-weaker}
use Rattle.it_report.specs.Fault.{name_of, number_of}
use Rattle.it_report.specs.Report.{policy_part_form, side_form}
use Rattle.it_report.specs.ReportLaws.{FaultFits, NumbersFit, StepFits}
use Rattle.it_report.specs.declared.refusal.Fault.{Fault}
use Rattle.it_report.specs.declared.refusal.Fault.TheVariants.{BadPolicy, BadSums, BadSums512}
use Rattle.it_report.specs.declared.refusal.Fault.TheVariants.{BadMoment}
use Rattle.it_report.specs.declared.refusal.Fault.TheVariants.{NoFiles, BadEnvelope}
use Rattle.it_report.specs.declared.refusal.Fault.TheVariants.{WrongPayloadType, OwnerMissing}
use Rattle.it_report.specs.declared.refusal.Fault.TheVariants.{BadLayout, Expired, TwoPayloads}
use Rattle.it_report.specs.declared.refusal.Fault.TheVariants.{TooDeep, Threshold, Disagree}
use Rattle.it_report.specs.declared.refusal.Fault.TheVariants.{InspectionInSublayout, RuleFailed}
use Rattle.it_report.specs.declared.refusal.Fault.TheVariants.{RecordMissing, BadRecord}
use Rattle.it_report.specs.declared.refusal.Fault.TheVariants.{NoExpectation, NoProvenance}
use Rattle.it_report.specs.declared.verdict.Verdict.{Verdict}
use Rattle.it_report.specs.declared.verdict.Verdict.TheVariants.{Accepted, Refused}
use Rattle.it_json_report.specs.Json.{json_object, json_text}
use Rattle.it_json_report.specs.JsonLaws.{IsShown, JsonIsLine}
use Rattle.it_json_report.specs.JsonReport.{best_members, fault_members, item_text}
use Rattle.it_json_report.specs.JsonReport.{layout_part_text, members_of, step_object}
use Rattle.it_json_report.specs.JsonReport.{sublayout_object}
use Rattle.it_json_report.proofs.NumberForms.{number_is_small}
use Rattle.it_json_report.proofs.OneLine.{AreShown, list-shown, number-shown, object-shown}
use Rattle.it_json_report.proofs.OneLine.{text-shown}

best-shown : (best : Option ℕ) → IfSome best (λ level. level < 2 ^ 64) → AreShown
    (best_members best)
best-shown None h = tt
best-shown (Some level) h = ((refl, number-shown level h), tt)

fault-shown : (fault : Fault) → FaultFits fault → AreShown (fault_members fault)
fault-shown (BadPolicy part) h = ((refl, text-shown (policy_part_form part)), tt)
fault-shown (BadSums n) h = ((refl, number-shown n h), tt)
fault-shown (BadSums512 n) h = ((refl, text-shown (codes "sha512")), ((refl, number-shown n h), tt))
fault-shown BadMoment h = tt
fault-shown NoFiles h = tt
fault-shown BadEnvelope h = tt
fault-shown WrongPayloadType h = tt
fault-shown (OwnerMissing id) h = ((refl, text-shown id), tt)
fault-shown (BadLayout part) h = ((refl, text-shown (layout_part_text part)), tt)
fault-shown Expired h = tt
fault-shown (TwoPayloads step id) h = ((refl, text-shown step), ((refl, text-shown id), tt))
fault-shown TooDeep h = tt
fault-shown (Threshold step found needed) h = (
  (refl, text-shown step),
  ((refl, number-shown found h.0), ((refl, number-shown needed h.1), tt)),
)
fault-shown (Disagree step id) h = ((refl, text-shown step), ((refl, text-shown id), tt))
fault-shown InspectionInSublayout h = tt
fault-shown (RuleFailed item side index path) h = (
  (refl, text-shown (item_text item)),
  (
    (refl, text-shown (side_form side)),
    ((refl, number-shown index h), ((refl, text-shown path), tt)),
  ),
)
fault-shown (RecordMissing name) h = ((refl, text-shown name), tt)
fault-shown (BadRecord name) h = ((refl, text-shown name), tt)
fault-shown (NoExpectation path) h = ((refl, text-shown path), tt)
fault-shown (NoProvenance path best) h = ((refl, text-shown path), best-shown best h)

-- ---- items of lists
step-shown : (step : List ℕ × ℕ) → StepFits step → All IsShown (step_object step)
step-shown step h = object-shown ((codes "name", json_text step.0)
    ∷ (codes "keys", decimal step.1) ∷ []) (
      (refl, text-shown step.0),
      ((refl, number-shown step.1 h), tt),
    )

steps-shown : (steps : List (List ℕ × ℕ)) → All StepFits steps
    → All (λ step. All IsShown (step_object step)) steps
steps-shown steps h =
    All-weaker StepFits (λ step. All IsShown (step_object step)) step-shown steps h

files-shown : (files : List (List ℕ)) → All (λ file. All IsShown (json_text file)) files
files-shown files k d below = text-shown (get_or files k d)

sublayout-shown : (pair : List ℕ × List ℕ) → All IsShown (sublayout_object pair)
sublayout-shown pair = object-shown ((codes "step", json_text pair.0)
    ∷ (codes "key", json_text pair.1) ∷ []) (
      (refl, text-shown pair.0),
      ((refl, text-shown pair.1), tt),
    )

places-shown : (pairs : List (List ℕ × List ℕ))
    → All (λ pair. All IsShown (sublayout_object pair)) pairs
places-shown pairs k d below = sublayout-shown (get_or pairs k d)

-- ---- verdicts
members-shown : (verdict : Verdict) → NumbersFit verdict → AreShown (members_of verdict)
members-shown (Accepted steps files) h = (
  (refl, text-shown (codes "accepted")),
  (
    (refl, list-shown step_object steps (steps-shown steps h)),
    ((refl, list-shown json_text files (files-shown files)), tt),
  ),
)
members-shown (Refused refusal) h = (
  (refl, text-shown (codes "refused")),
  (
    (refl, number-shown (number_of refusal.fault) (number_is_small refusal.fault)),
    (
      (refl, text-shown (name_of refusal.fault)),
      (
        (refl, list-shown sublayout_object refusal.at (places-shown refusal.at)),
        fault-shown refusal.fault h,
      ),
    ),
  ),
)

pub json_is_line : JsonIsLine
json_is_line verdict h = (
  json_object (members_of verdict),
  refl,
  object-shown (members_of verdict)
      (members-shown verdict h),
)
