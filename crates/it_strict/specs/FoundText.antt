-- What is found, as lines (this project's words).
use Rattle.std.specs.Prelude.{ℕ, List, ◌++◌, length, take, codes}
use Rattle.std.specs.List.{flat_map}
use Rattle.it_check.specs.FindingLine.{findings_text, line_form, more_form}
use Rattle.it_check.specs.Pieces.{told_form}
use Rattle.it_strict.specs.BelowText.{all_below_text}
use Rattle.it_strict.specs.Found.{Found}
use Rattle.it_strict.specs.ListedOnceText.{once_text}
use Rattle.it_strict.specs.NonceText.{nonces_text}

-- what is said of a delivered file that is tied to no step
abbrev pub untied_sentence : List ℕ → List ℕ
untied_sentence path =
    told_form (codes "no MATCH rule WITH PRODUCTS FROM a step takes ") path (codes "")

-- its line: the document, its name, its place as a JSON pointer, and this sentence
unfoldable pub untied_line : List ℕ → List ℕ
untied_line path =
    line_form (codes "policy") (codes "untied-file") (codes "/deliver") (untied_sentence path)

-- the lines of the first 40 such files, and how many there are where there are more
unfoldable pub untied_text : List (List ℕ) → List ℕ
untied_text untied =
    flat_map untied_line (take 40 untied) ++ more_form (codes "untied files") (length untied)

-- the lines of all that is found: in the policy, in the layout, in the sublayouts, of the untied
-- files, of the paths that one digest list alone names, and of the shared nonces
unfoldable pub found_text : Found → List ℕ
found_text found =
    findings_text (codes "policy") found.of_policy
    ++ findings_text (codes "layout") found.of_layout ++ all_below_text found.of_sublayouts
    ++ untied_text found.untied ++ once_text found.listed_once ++ nonces_text found.shared_nonces
