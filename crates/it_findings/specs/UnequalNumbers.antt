-- Numbers that an expectation expects and that equal none (this profile's choice).
use Rattle.std.specs.Prelude.{ℕ, List, [], ◌∷◌, IsTrue}
use Rattle.it_base.specs.Equal.{equal}
use Rattle.it_base.specs.Json.{Json, Fields, no_fields, field}
use Rattle.it_findings.specs.Joined.{JoinedEach, Said}
use Rattle.it_findings.specs.declared.finding.Finding.{Finding}
use Rattle.it_findings.specs.declared.finding.Finding.TheVariants as findings

-- parameters with their names, in the order of the bytes of their names
abbrev pub parameters_in : Fields → List (List ℕ × Json)
parameters_in no_fields = []
parameters_in (field name tree fields) = (name, tree) ∷ parameters_in fields

-- no parameter equals the one that is expected: it is, or it holds, a number that equals none
abbrev pub IsUnmet : Json → Type 0
IsUnmet expected = (given : Json) → ¬ IsTrue (equal given expected)

-- what is found in a parameter of the expectation at a place
abbrev pub ParameterFinding : ℕ → List ℕ × Json → List Finding → Type 0
ParameterFinding place parameter found =
    Said (IsUnmet parameter.1) (findings.UnequalNumber place parameter.0) found

-- what is found in the parameters of the expectation at a place, in their order
abbrev pub ParameterFindings : ℕ → Fields → List Finding → Type 0
ParameterFindings place parameters found =
    JoinedEach (ParameterFinding place) (parameters_in parameters) found
