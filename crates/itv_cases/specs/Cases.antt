-- Which case a document is (a format of this project).
use Rattle.std.specs.Prelude.{codes}
use Rattle.serde_json.specs.Data.{Data}
use Rattle.it_base.specs.Parts.{IsPart}
use Rattle.it_base.specs.Text.{IsText}
use Rattle.itv_cases.specs.Reading.{InputsOf, WantedOf}
use Rattle.itv_cases.specs.declared.cases.case.Case.{Case}

-- the case that a document is, but for the files and folders, and the rings
pub record CaseOf (d : Data) (case : Case) : Type 0 where
  pub name : IsPart IsText (codes "name") d case.name
  pub inputs : InputsOf d case.inputs
  pub wanted : WantedOf d case.wanted
