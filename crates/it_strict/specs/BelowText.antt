-- What is found in sublayouts, as lines (this project's words).
use Rattle.std.specs.Prelude.{ℕ, List, ◌++◌, length, take, codes}
use Rattle.std.specs.List.{flat_map}
use Rattle.it_check.specs.FindingLine.{line_form, more_form}
use Rattle.it_check.specs.FindingName.{name_of}
use Rattle.it_check.specs.FindingPlace.{pointer_of}
use Rattle.it_check.specs.FindingSentence.{sentence_of}
use Rattle.it_check.specs.declared.pointer_form.PointerForm.TheVariants.{Shown}
use Rattle.it_findings.specs.declared.finding.Finding.{Finding}
use Rattle.it_report.specs.Report.{place_form}
use Rattle.it_strict.specs.declared.below.FoundBelow.{FoundBelow}

-- how a sublayout is named as a document: by the sublayouts down to it, as reports have them
unfoldable pub below_document : List (List ℕ × List ℕ) → List ℕ
below_document at = codes "layout at " ++ place_form at

-- the line of a finding in the sublayout at a place
abbrev pub placed_line : List (List ℕ × List ℕ) → Finding → List ℕ
placed_line at finding =
    line_form (below_document at) (name_of finding) (pointer_of Shown finding)
    (sentence_of finding)

-- how many findings it has, where not all are written
abbrev pub more_below : List (List ℕ × List ℕ) → ℕ → List ℕ
more_below at count = more_form (below_document at) count

-- the lines of what is found in a sublayout: of the first 40 findings, and how many there are where
-- there are more
unfoldable pub below_text : FoundBelow → List ℕ
below_text below =
    flat_map (placed_line below.at) (take 40 below.findings)
    ++ more_below below.at (length below.findings)

-- the same of each
abbrev pub all_below_text : List FoundBelow → List ℕ
all_below_text all = flat_map below_text all
