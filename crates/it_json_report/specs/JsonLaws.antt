-- What is shown of the report as JSON.
use Rattle.std.specs.Prelude.{◌≡◌, ◌≢◌, ◌≤◌, ℕ, List, [], ◌∷◌, ◌++◌, All, codes}
use Rattle.it_report.specs.ReportLaws.{NumbersFit}
use Rattle.it_report.specs.declared.verdict.Verdict.{Verdict}
use Rattle.it_report.specs.declared.verdict.Verdict.TheVariants.{Accepted, Refused}
use Rattle.it_json_report.specs.JsonReport.{json_of, members_of}

-- whoever reads the JSON knows the verdict
abbrev pub JsonTells : Type 0
JsonTells = (a b : Verdict) → NumbersFit a → NumbersFit b → json_of a ≡ json_of b → a ≡ b

-- a text begins with this
abbrev pub Begins : List ℕ → List ℕ → Type 0
Begins text front = (rest : List ℕ) × (text ≡ front ++ rest)

-- the JSON of a verdict begins with a member whose value alone says whether it accepts
abbrev pub BeginsWithWord : Verdict → Type 0
BeginsWithWord (Accepted steps files) =
    Begins (json_of (Accepted steps files)) (codes "{\"verdict\":\"accepted\",")
BeginsWithWord (Refused refusal) =
    Begins (json_of (Refused refusal)) (codes "{\"verdict\":\"refused\",")

abbrev pub JsonFirst : Type 0
JsonFirst = (verdict : Verdict) → BeginsWithWord verdict

-- a byte that is not below 0x20
abbrev pub IsShown : ℕ → Type 0
IsShown byte = 0x20 ≤ byte

-- one line, followed by a line feed
abbrev pub IsLine : List ℕ → Type 0
IsLine text = (line : List ℕ) × (text ≡ line ++ codes "\n") × All IsShown line

-- the JSON of a verdict is one line
abbrev pub JsonIsLine : Type 0
JsonIsLine = (verdict : Verdict) → NumbersFit verdict → IsLine (json_of verdict)

-- no two members have the same name, as names within an object should not (RFC 8259, section 4)
abbrev pub NamesDiffer : List (List ℕ × List ℕ) → Type 0
NamesDiffer [] = Unit {0}
NamesDiffer (member ∷ members) = All (λ other. other.0 ≢ member.0) members × NamesDiffer members

abbrev pub JsonNamesDiffer : Type 0
JsonNamesDiffer = (verdict : Verdict) → NamesDiffer (members_of verdict)
