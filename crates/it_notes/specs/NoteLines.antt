-- The lines of all notes on a verification, in their order (words of this project).
use Rattle.std.specs.Prelude.{◌++◌, ◌∷◌, [], ℕ, List, Bool, true, false, codes, map}
use Rattle.std.specs.List.{flat_map}
use Rattle.std.specs.Option.{option_to_list}
use Rattle.it_digest.specs.declared.sums.ListAlgorithm.{ListAlgorithm}
use Rattle.it_digest.specs.declared.sums.ListAlgorithm.TheVariants.{Sha256, Sha512}
use Rattle.it_key_notes.specs.Line.{key_line}
use Rattle.it_member_notes.specs.MemberLines.{key_member_line, unread_line}
use Rattle.it_member_notes.specs.RuleLines.{layout_line, rule_list_line}
use Rattle.it_member_notes.specs.declared.member_notes.MemberNotes.{MemberNotes}
use Rattle.it_part_notes.specs.Moments.{moment_line}
use Rattle.it_part_notes.specs.PartLines.{part_line}
use Rattle.it_part_notes.specs.SumLine.{sum_line}
use Rattle.it_prov_notes.specs.ProvenanceLines.{patterns_line, provenance_line}
use Rattle.it_report.specs.Name.{cut_form}
use Rattle.it_rule_notes.specs.Cause.{cause_line}
use Rattle.it_rule_notes.specs.Disagree.{disagree_line}
use Rattle.it_rule_notes.specs.Expiry.{expiry_line}
use Rattle.it_rule_notes.specs.MetNote.{met_line}
use Rattle.it_rule_notes.specs.Owner.{owner_line}
use Rattle.it_rule_notes.specs.Payloads.{payloads_line}
use Rattle.it_rule_notes.specs.Rule.{rule_line}
use Rattle.it_rule_notes.specs.Sublayout.{sublayout_line}
use Rattle.it_rule_notes.specs.declared.judged_note.JudgedNote.{JudgedNote}
use Rattle.it_step_notes.specs.Folder.{folder_line}
use Rattle.it_step_notes.specs.Line.{note_line}
use Rattle.it_notes.specs.FileDetails.{detail_line}
use Rattle.it_notes.specs.LayoutEnvelope.{envelope_line}
use Rattle.it_notes.specs.declared.file_detail.DetailedNote.{DetailedNote}
use Rattle.it_notes.specs.declared.layout_notes.LayoutNotes.{LayoutNotes}
use Rattle.it_notes.specs.declared.notes.Notes.{Notes}
use Rattle.it_notes.specs.declared.notes.RefusalNotes.{RefusalNotes}
use Rattle.it_notes.specs.declared.notes.RefusalNotes.TheVariants.{
  Nothing,
  Part,
  Envelope,
  Line,
  Moment,
  NoLine,
  Step,
  Owners,
  Expiry,
  Payloads,
  Disagreement,
  Rule,
  Provenance,
  LaidOut,
  EmptyProvenance,
  Patterns,
  Record,
}
use Rattle.it_notes.specs.declared.notes.RuleNotes.{RuleNotes}
use Rattle.it_notes.specs.declared.place_notes.PlaceNotes.{PlaceNotes}
use Rattle.it_notes.specs.declared.record_note.RecordFlaw.{RecordFlaw}
use Rattle.it_notes.specs.declared.record_note.RecordFlaw.TheVariants.{
  NoRecords,
  OtherNames,
  InEnvelope,
}
use Rattle.it_notes.specs.declared.record_note.RecordNote.{RecordNote}

-- ---- notes that have no words elsewhere
-- the digest lists are empty
abbrev pub no_line : List ℕ
no_line = codes "digest list: it is empty\n"

abbrev pub list_words : ListAlgorithm → List ℕ
list_words Sha256 = codes "digest list"
list_words Sha512 = codes "digest list by SHA-512"

-- the first line of the digest list by an algorithm ends with a carriage return
abbrev pub returned_line : ListAlgorithm → List ℕ
returned_line algorithm = list_words algorithm
    ++ codes ": line 1 ends with a carriage return, which belongs to its path\n"

-- the provenance is one envelope over several lines
abbrev pub laid_out_line : List ℕ
laid_out_line =
    codes "provenance: one envelope over several lines, where each line is to be one\n"

-- the provenance is empty
abbrev pub empty_provenance_line : List ℕ
empty_provenance_line = codes "no provenance was given\n"

-- the name of the file that has the record of an inspection
abbrev pub file_form : List ℕ → List ℕ
file_form name = cut_form name ++ codes ".link"

abbrev pub other_file_form : List ℕ → List ℕ
other_file_form name = codes " " ++ file_form name

abbrev pub others_form : Bool → List ℕ
others_form true = codes " and others\n"
others_form false = codes "\n"

-- the files that are there in its place
unfoldable pub names_form : List (List ℕ) → Bool → List ℕ
names_form names others = flat_map other_file_form names ++ others_form others

-- such a name between two texts
unfoldable pub told_file : List ℕ → List ℕ → List ℕ → List ℕ
told_file before name after = before ++ file_form name ++ after

abbrev pub other_names_form : List ℕ → List (List ℕ) → Bool → List ℕ
other_names_form name names others =
    told_file (codes "records: there is no file ") name (codes ", but") ++ names_form names others

abbrev pub flaw_line : List ℕ → RecordFlaw → List ℕ
flaw_line name NoRecords = told_file (codes "records: none was given, and ") name
    (codes " is looked for in the folder of --records\n")
flaw_line name (OtherNames names others) = other_names_form name names others
flaw_line name InEnvelope = told_file (codes "record ") name
    (codes ": it is an envelope, where a bare link is expected\n")

-- the line of a note on the record of an inspection
abbrev pub record_line : RecordNote → List ℕ
record_line note = flaw_line note.name note.flaw

-- ---- all lines
-- the place of the sublayout that a refusal is about: its file, and its folder if that is missing
abbrev pub place_lines : PlaceNotes → List (List ℕ)
place_lines notes = map sublayout_line (option_to_list notes.file)
    ++ map folder_line (option_to_list notes.folder)

-- a note on a step, and the detail of the file that it is about
abbrev pub step_lines : DetailedNote → List (List ℕ)
step_lines told = note_line told.note ∷ map detail_line (option_to_list told.detail)

-- what a rule on what is delivered met, and why
abbrev pub judged_lines : JudgedNote → List (List ℕ)
judged_lines note = met_line note.met ∷ map cause_line note.causes

-- a rule, what it met, and what may be wrong with the digest list
abbrev pub rule_lines : RuleNotes → List (List ℕ)
rule_lines notes = rule_line notes.rule ∷ map met_line (option_to_list notes.met)
    ++ flat_map judged_lines (option_to_list notes.delivery)
    ++ map returned_line (option_to_list notes.returns)

-- why a delivery was refused
abbrev pub refusal_lines : RefusalNotes → List (List ℕ)
refusal_lines Nothing = []
refusal_lines (Part note) = part_line note ∷ []
refusal_lines (Envelope note) = envelope_line note ∷ []
refusal_lines (Line note) = sum_line note ∷ []
refusal_lines (Moment note) = moment_line note ∷ []
refusal_lines NoLine = no_line ∷ []
refusal_lines (Step notes) = flat_map step_lines notes.items
refusal_lines (Owners notes) = map owner_line notes.items
refusal_lines (Expiry note) = expiry_line note ∷ []
refusal_lines (Payloads note) = payloads_line note ∷ []
refusal_lines (Disagreement note) = disagree_line note ∷ []
refusal_lines (Rule notes) = rule_lines notes
refusal_lines (Provenance notes) = map provenance_line notes.items
refusal_lines LaidOut = laid_out_line ∷ []
refusal_lines EmptyProvenance = empty_provenance_line ∷ []
refusal_lines (Patterns note) = patterns_line note ∷ []
refusal_lines (Record note) = record_line note ∷ []

-- members that are not looked at, and then those of key objects
abbrev pub member_lines : MemberNotes → List (List ℕ)
member_lines notes = map unread_line notes.unread.items ++ map key_member_line notes.keys.items

-- what is odd about a layout, and about the rules that see it
abbrev pub layout_lines : LayoutNotes → List (List ℕ)
layout_lines notes = map rule_list_line notes.deliver.items ++ member_lines notes.members
    ++ map layout_line notes.rules.items

-- those on the refusal first, then those on the policy and the layout
abbrev pub note_lines : Notes → List (List ℕ)
note_lines notes = flat_map place_lines (option_to_list notes.place)
    ++ refusal_lines notes.refusal ++ map key_line notes.keys.items ++ member_lines notes.policy.now
    ++ flat_map layout_lines (option_to_list notes.layout)
