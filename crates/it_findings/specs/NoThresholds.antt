-- Steps of a layout without a threshold (in-toto 1.0 section 4.3.1), for which one key is enough
-- (that it is found is a word of this project).
use Rattle.std.specs.Prelude.{◌≡◌, ℕ, List, None, codes}
use Rattle.serde_json.specs.Data.{Data}
use Rattle.it_base.specs.Document.{IsDocument, member_at}
use Rattle.it_findings.specs.Joined.{Joined, Said}
use Rattle.it_findings.specs.NullKeys.{list_at}

-- what is found in the step at a place: its place, where it has no threshold
abbrev pub NoThreshold : ℕ → Data → List ℕ → Type 0
NoThreshold place d found = Said (member_at (codes "threshold") d ≡ None) place found

-- the places of the steps of a layout without a threshold
abbrev pub NoThresholds : Data → List ℕ → Type 0
NoThresholds d places = Joined NoThreshold (list_at (codes "steps") d) places

-- the same of bytes: of the document that they are, if they are one
abbrev pub NoThresholdsOf : List ℕ → List ℕ → Type 0
NoThresholdsOf bytes places = (d : Data) → IsDocument bytes d → NoThresholds d places
