-- What a document says of a case (a format of this project).
use Rattle.std.specs.Prelude.{[], codes}
use Rattle.serde_json.specs.Data.{Data}
use Rattle.it_base.specs.Parts.{IsPart, IsPartOr}
use Rattle.it_base.specs.Sequence.{IsList}
use Rattle.it_base.specs.Text.{IsText}
use Rattle.it_verify.specs.declared.inputs.Inputs.{Inputs}
use Rattle.it_tables.specs.Part.{IsBytes, IsNumber}
use Rattle.itv_cases.specs.Part.{IsNamed}
use Rattle.itv_cases.specs.declared.cases.wanted.Wanted.{Wanted}

-- the inputs, but for the files and folders, which the relation leaves open
pub record InputsOf (d : Data) (inputs : Inputs) : Type 0 where
  pub policy : IsPart IsBytes (codes "policy") d inputs.policy
  pub layout : IsPart IsBytes (codes "layout") d inputs.layout
  pub records : IsPart (IsList IsNamed) (codes "records") d inputs.records
  pub provenance : IsPartOr IsBytes [] (codes "provenance") d inputs.provenance
  pub sums : IsPart IsBytes (codes "sums") d inputs.sums
  pub sums512 : IsPartOr IsBytes [] (codes "sums512") d inputs.sums512
  pub moment : IsPart IsText (codes "at") d inputs.moment
  pub depth : IsPart IsNumber (codes "depth") d inputs.depth

-- what is wanted: the report and the status
pub record WantedOf (d : Data) (wanted : Wanted) : Type 0 where
  pub report : IsPart IsBytes (codes "report") d wanted.report
  pub status : IsPart IsNumber (codes "status") d wanted.status
