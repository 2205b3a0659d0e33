-- Findings as lines (this project's words).
use Rattle.std.specs.Prelude.{ℕ, List, [], ◌++◌, length, take, codes, nat_lt, if◌then◌else◌}
use Rattle.std.specs.List.{flat_map}
use Rattle.it_findings.specs.declared.finding.Finding.{Finding}
use Rattle.it_check.specs.FindingName.{name_of}
use Rattle.it_check.specs.FindingPlace.{document_of, pointer_of}
use Rattle.it_check.specs.FindingSentence.{sentence_of}
use Rattle.it_part_notes.specs.SumLine.{numbered_form}
use Rattle.it_check.specs.declared.pointer_form.PointerForm.TheVariants.{Shown}

-- the beginning of a line: the document, the name of what is found, and its place as a JSON pointer
unfoldable pub start_form : List ℕ → List ℕ → List ℕ → List ℕ
start_form document name pointer =
    document ++ codes " " ++ name ++ codes " " ++ pointer ++ codes ": "

-- a line: such a beginning, and a sentence
unfoldable pub line_form : List ℕ → List ℕ → List ℕ → List ℕ → List ℕ
line_form document name pointer sentence =
    start_form document name pointer ++ sentence ++ codes "\n"

-- the line of a finding
abbrev pub line_of : Finding → List ℕ
line_of finding =
    line_form (document_of finding) (name_of finding) (pointer_of Shown finding)
    (sentence_of finding)

-- how many findings a document has, where not all are written
unfoldable pub count_form : List ℕ → ℕ → List ℕ
count_form document count =
    document ++ numbered_form (codes ": 40 of ") count (codes " findings are written\n")

-- that there are more findings in a document than are written
abbrev pub more_form : List ℕ → ℕ → List ℕ
more_form document count = if nat_lt 40 count then count_form document count else []

-- the lines of what is found in a document: of the first 40 findings, and how many there are where
-- there are more
unfoldable pub findings_text : List ℕ → List Finding → List ℕ
findings_text document found =
    flat_map line_of (take 40 found) ++ more_form document (length found)
