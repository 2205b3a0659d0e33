-- The parts of a Statement that is made.
use Rattle.std.specs.Prelude.{ℕ, ◌≤◌, List, Option, IsTrue, is_some}
use Rattle.serde_json.specs.Data.{Data, depth}
use Rattle.serde_json.specs.Find.{as_object}
use Rattle.it_base.specs.Json.{Fields}
use Rattle.std.specs.FinMap.{empty}
use Rattle.it_digest.specs.DigestSet.{in_sha256}
use Rattle.it_digest.specs.Sums.{IsFirstBadLine, SumsOf}
use Rattle.it_outcome.specs.declared.outcome.RunFault.{RunFault}
use Rattle.it_outcome.specs.declared.outcome.RunFault.TheVariants.{
  OutOfMemory,
  BadSubjects,
  NoSubjects,
  BadParameters,
}
use Rattle.it_making.specs.StatementOutput.{AreParameters}

-- what is given are parameters, as this JSON
abbrev pub GivesParameters : Option (List ℕ) → Data → Type 0
GivesParameters given d = (parameters : Fields) × AreParameters given d parameters

-- why subjects are not read
abbrev pub IsSubjectsFault : List ℕ → RunFault → Type 0
IsSubjectsFault bytes OutOfMemory = Unit {0}
IsSubjectsFault bytes (BadSubjects line) = IsFirstBadLine in_sha256 bytes line
IsSubjectsFault bytes NoSubjects = SumsOf in_sha256 bytes empty
IsSubjectsFault bytes other = ⊥

-- why parameters are not read
abbrev pub IsParametersFault : Option (List ℕ) → RunFault → Type 0
IsParametersFault given OutOfMemory = Unit {0}
IsParametersFault given BadParameters =
    (d : Data) (parameters : Fields) → ¬ AreParameters given d parameters
IsParametersFault given other = ⊥

-- an object that is not too deep
abbrev pub CanBeParameters : Data → Type 0
CanBeParameters d = IsTrue (is_some (as_object d)) × (depth d ≤ 124)
