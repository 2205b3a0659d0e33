-- The report as JSON with what is found and noted, and what stands behind it (this profile's
-- choice).
use Rattle.std.specs.Prelude.{◌≡◌, ℕ, List, [], ◌++◌, ◌-◌, MatchBool, MatchOption, length, map}
use Rattle.std.specs.Prelude.{take}
use Rattle.std.specs.List.{flat_map}
use Rattle.it_check.specs.FindingName.{name_of}
use Rattle.it_check.specs.FindingPlace.{document_of, pointer_of}
use Rattle.it_check.specs.FindingSentence.{sentence_of}
use Rattle.it_check.specs.declared.pointer_form.PointerForm.TheVariants.{Plain}
use Rattle.it_dsse.specs.Panel.{Panel}
use Rattle.it_evidence.specs.Evidence.{IsBehind}
use Rattle.it_findings.specs.declared.finding.Finding.{Finding}
use Rattle.it_json_report.specs.Form.{form_of}
use Rattle.it_json_report.specs.FullReport.{full_json_of}
use Rattle.it_json_report.specs.declared.full.Beside.{Beside}
use Rattle.it_json_report.specs.declared.full.ReportFinding.{ReportFinding}
use Rattle.it_report.specs.declared.verdict.Verdict.{Verdict}
use Rattle.it_strict.specs.declared.below.FoundBelow.{FoundBelow}
use Rattle.it_verify.specs.Verdict.{OnAccepted}
use Rattle.it_verify.specs.declared.inputs.Inputs.{Inputs}
use Rattle.it_vouched.specs.declared.vouched.Vouched.{Vouched}
use Rattle.it_notes.specs.FoundInDocuments.{AreFoundInDocuments}
use Rattle.it_notes.specs.NoteLines.{note_lines}
use Rattle.it_notes.specs.Notes.{AreTrue}
use Rattle.it_notes.specs.ShownLines.{shown_lines}
use Rattle.it_notes.specs.declared.notes.Notes.{Notes}
use Rattle.it_notes.specs.declared.found_in_documents.FoundInDocuments.{FoundInDocuments}
use Rattle.it_verify_command.specs.SummaryOutput.{IsSummaryText}
use Rattle.it_verify_command.specs.declared.output_form.OutputForm.{OutputForm}
use Rattle.it_verify_command.specs.declared.output_form.OutputForm.TheVariants.{Full, Report}
use Rattle.it_verify_command.specs.declared.output_form.OutputForm.TheVariants.{Summary}

-- a finding in the layout at a place, as it is written; the place of a policy is that of the
-- outermost layout
abbrev pub shown_finding : List (List ℕ × List ℕ) → Finding → ReportFinding
shown_finding at finding = record {
  document = document_of finding;
  at = at;
  name = name_of finding;
  place = pointer_of Plain finding;
  sentence = sentence_of finding;
}

-- the findings in a sublayout
abbrev pub shown_below : FoundBelow → List ReportFinding
shown_below below = map (shown_finding below.at) below.findings

-- those in the policy and in the layout, and then those in the sublayouts
abbrev pub all_shown : FoundInDocuments → List ReportFinding
all_shown found =
    map (shown_finding []) found.of_documents.items ++ flat_map shown_below found.below.items

-- these are all findings in the policy, in the layout and in the sublayouts of a delivery that is
-- accepted
pub record AreFindings (panel : Panel) (inputs : Inputs) (findings : List ReportFinding)
    : Type 0 where
  pub found : FoundInDocuments
  pub are_found : AreFoundInDocuments panel inputs found
  pub are_shown : findings ≡ all_shown found

-- a line without its line feed
abbrev pub without_feed : List ℕ → List ℕ
without_feed line = take (length line - 1) line

-- these are the lines of notes that are true of the verdict on the inputs, at most forty
pub record AreNotes (panel : Panel) (inputs : Inputs) (verdict : Verdict) (lines : List (List ℕ))
    : Type 0 where
  pub notes : Notes
  pub are_true : AreTrue panel inputs verdict notes
  pub lines_are : lines ≡ map without_feed (shown_lines (note_lines notes))

-- the text is the report of the verdict, where it accepts with what is found and with what stands
-- behind the delivery, and with the lines of notes, or with none where they are said not to be all
pub record IsFullText (panel : Panel) (vouched : List Vouched) (inputs : Inputs)
    (verdict : Verdict) (text : List ℕ) : Type 0 where
  pub beside : Beside
  pub findings : OnAccepted verdict (AreFindings panel inputs beside.findings)
  pub evidence : OnAccepted verdict
      (MatchOption beside.evidence ⊥ (IsBehind panel vouched inputs))
  pub notes : MatchBool beside.complete (AreNotes panel inputs verdict beside.notes)
      (beside.notes ≡ [])
  pub text_is : text ≡ full_json_of verdict beside

-- the text is the output for the verdict in a form
abbrev pub IsTextIn : OutputForm → Panel → List Vouched → Inputs → Verdict → List ℕ → Type 0
IsTextIn (Report form) panel vouched inputs verdict text = text ≡ form_of form verdict
IsTextIn Full panel vouched inputs verdict text = IsFullText panel vouched inputs verdict text
IsTextIn (Summary names) panel vouched inputs verdict text =
    IsSummaryText names panel vouched inputs verdict text
