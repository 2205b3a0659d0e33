-- Notes on a part of a policy, of a layout, of an envelope or of a link, as lines for people (this
-- project's words). The line of the last two follows the name of a file.
use Rattle.std.specs.Prelude.{ℕ, List, [], ◌∷◌, ◌++◌, Option, Some, None, codes, decimal}
use Rattle.std.specs.List.{flat_map}
use Rattle.it_report.specs.Name.{cut_form}
use Rattle.it_part_notes.specs.Members.{Looked, shown}
use Rattle.it_part_notes.specs.declared.flaw.Flaw.{Flaw}
use Rattle.it_part_notes.specs.declared.flaw.Flaw.TheVariants as flaws
use Rattle.it_part_notes.specs.declared.flaw.Spot.{Spot}
use Rattle.it_part_notes.specs.declared.instead.Instead.{Instead}
use Rattle.it_part_notes.specs.declared.instead.Instead.TheVariants as insteads
use Rattle.it_part_notes.specs.declared.member.Kind.{Kind}
use Rattle.it_part_notes.specs.declared.member.Kind.TheVariants as kinds
use Rattle.it_part_notes.specs.declared.part_note.BadRule.{BadRule}
use Rattle.it_part_notes.specs.declared.part_note.Fault.{Fault}
use Rattle.it_part_notes.specs.declared.part_note.Fault.TheVariants as faults
use Rattle.it_part_notes.specs.declared.part_note.PartNote.{PartNote}
use Rattle.it_part_notes.specs.declared.part_note.PartPlace.{PartPlace}
use Rattle.it_part_notes.specs.declared.part_note.PartPlace.TheVariants as places
use Rattle.it_part_notes.specs.declared.part_note.Problem.{Problem}
use Rattle.it_part_notes.specs.declared.part_note.Problem.TheVariants as problems
use Rattle.it_part_notes.specs.declared.shape.Shape.{Shape}
use Rattle.it_part_notes.specs.declared.shape.Shape.TheVariants as shapes

abbrev pub document_form : PartPlace → List ℕ
document_form places.Policy = codes "policy: "
document_form (places.Expectation n) = codes "policy: "
document_form places.Layout = codes "layout: "
document_form (places.Step n) = codes "layout: "
document_form (places.Inspection n) = codes "layout: "
document_form places.Envelope = codes ""
document_form places.Link = codes ""

-- the item at a place, after some words; for a whole policy or layout, nothing
abbrev pub place_form : List ℕ → PartPlace → List ℕ
place_form before places.Policy = []
place_form before (places.Expectation n) = before ++ codes "expectation " ++ decimal n
place_form before places.Layout = []
place_form before (places.Step n) = before ++ codes "step " ++ decimal n
place_form before (places.Inspection n) = before ++ codes "inspection " ++ decimal n
place_form before places.Envelope = before ++ codes "the envelope"
place_form before places.Link = before ++ codes "the link"

-- what is at a place
abbrev pub object_form : PartPlace → List ℕ
object_form places.Policy = codes "it"
object_form (places.Expectation n) = place_form [] (places.Expectation n)
object_form places.Layout = codes "it"
object_form (places.Step n) = place_form [] (places.Step n)
object_form (places.Inspection n) = place_form [] (places.Inspection n)
object_form places.Envelope = codes "it"
object_form places.Link = codes "its payload"

abbrev pub unfit_form : Kind → List ℕ
unfit_form kinds.Text = codes " is not a text"
unfit_form kinds.Word = codes " is not the text layout"
unfit_form kinds.Moment = codes " is not a moment such as 2030-01-01T00:00:00Z"
unfit_form kinds.Threshold = codes " is not a whole number of at least 1"
unfit_form kinds.Level = codes " is not a whole number from 0 to 3"
unfit_form kinds.Texts = codes " is not a list of texts"
unfit_form kinds.Keys = codes " is not an object of key objects"
unfit_form kinds.SomeKey = codes " has no member"
unfit_form kinds.Builders = codes " is not a list of builders"
unfit_form kinds.Object = codes " is not an object"
unfit_form kinds.Items = codes " is not a list"
unfit_form kinds.Rules = codes " is not a list"
unfit_form kinds.Base64 = codes " is not a text in base64"
unfit_form kinds.Signatures = codes " is not a list of signatures"
unfit_form kinds.LinkWord = codes " is not the text link"
unfit_form kinds.Artifacts = codes " is not an object of digest sets"

abbrev pub word_form : List ℕ → List ℕ
word_form word = codes " " ++ cut_form word

-- why an item is not a rule: its words, if it has any
abbrev pub words_form : Option (List (List ℕ)) → List ℕ
words_form None = codes " is no list of texts"
words_form (Some []) = codes " is no artifact rule: it has no words"
words_form (Some (word ∷ words)) =
    codes " is no artifact rule:" ++ flat_map word_form (word ∷ words)

abbrev pub rule_form : PartPlace → List ℕ → BadRule → List ℕ
rule_form place name bad =
    codes "rule " ++ decimal bad.number ++ codes " of " ++ name ++ place_form (codes " of ") place
    ++ words_form bad.words

abbrev pub member_form : PartPlace → List ℕ → List ℕ
member_form place name = codes "the member " ++ name ++ place_form (codes " of ") place

abbrev pub fault_form : PartPlace → Looked → Fault → List ℕ
fault_form place looked faults.Missing = member_form place looked.name ++ codes " is missing"
fault_form place looked faults.Unfit = member_form place looked.name ++ unfit_form looked.kind
fault_form place looked (faults.NoRule bad) = rule_form place looked.name bad

abbrev pub no_object_form : PartPlace → List ℕ
no_object_form place = object_form place ++ codes " is no JSON object"

abbrev pub spot_form : Spot → List ℕ
spot_form spot =
    codes ": look at line " ++ decimal spot.line ++ codes ", column " ++ decimal spot.column
    ++ codes ", where " ++ cut_form (spot.byte ∷ []) ++ codes " stands"

abbrev pub flaw_form : Option Flaw → List ℕ
flaw_form None = []
flaw_form (Some flaws.Empty) = codes ": it is empty"
flaw_form (Some flaws.ByteOrderMark) = codes ": it begins with a byte order mark"
flaw_form (Some flaws.Utf16) = codes ": it begins as UTF-16 does"
flaw_form (Some flaws.NotUtf8) = codes ": it is not UTF-8"
flaw_form (Some flaws.Lines) = codes ": its first line is a JSON text of its own"
flaw_form (Some (flaws.Look spot)) = spot_form spot
flaw_form (Some flaws.LookAtEnd) = codes ": look at its end"

abbrev pub shape_form : Option Shape → List ℕ
shape_form None = []
shape_form (Some shapes.List) = codes ": it is a list"
shape_form (Some shapes.Text) = codes ": it is a text"
shape_form (Some shapes.Number) = codes ": it is a number"

abbrev pub instead_form : Instead → List ℕ
instead_form insteads.Bundle =
    codes " is no envelope, but has the member dsseEnvelope, as a bundle with one has"
instead_form insteads.Wrapper =
    codes " is no envelope, but has the member signed, as in-toto's older wrapper has"
instead_form insteads.Layout =
    codes " is no envelope, but what is to be in one: its _type is layout"
instead_form insteads.Link =
    codes " is no envelope, but what is to be in one: its _type is link"

abbrev pub problem_form : PartPlace → Problem → List ℕ
problem_form place (problems.NoDocument flaw) = no_object_form place ++ flaw_form flaw
problem_form place (problems.NoObject shape) = no_object_form place ++ shape_form shape
problem_form place (problems.Instead instead) = object_form place ++ instead_form instead
problem_form place (problems.Member member fault) = fault_form place (shown member) fault

-- the line of a note
abbrev pub part_line : PartNote → List ℕ
part_line note =
    document_form note.place ++ problem_form note.place note.problem ++ codes "\n"
