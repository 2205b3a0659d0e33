-- Layouts (in-toto 1.0 section 4.3).
use Rattle.std.specs.Prelude.{ℕ, List, [], codes}
use Rattle.std.specs.FinMap.{empty}
use Rattle.serde_json.specs.Data.{Data}
use Rattle.it_base.specs.Document.{OfDocument}
use Rattle.it_base.specs.Parts.{IsPart, IsPartOr}
use Rattle.it_base.specs.Sequence.{IsList}
use Rattle.it_base.specs.Text.{IsText}
use Rattle.it_dsse.specs.KeyObject.{IsKeyObject}
use Rattle.it_docs.specs.Moment.{IsMoment}
use Rattle.it_docs.specs.Step.{IsInspection, IsStep}
use Rattle.it_base.specs.Table.{IsTable}
use Rattle.it_docs.specs.declared.layout.Layout.{Layout}

-- a layout in a document; missing keys, steps or inspections are empty. The types ensure that names
-- differ and thresholds are at least 1, so a document that breaks this is not a layout.
pub record IsLayout (d : Data) (layout : Layout) : Type 0 where
  pub type_is : IsPart IsText (codes "_type") d (codes "layout")
  pub expires : IsPart IsMoment (codes "expires") d layout.expires
  pub keys : IsPartOr (IsTable IsKeyObject) empty (codes "keys") d layout.keys
  pub steps : IsPartOr (IsList IsStep) [] (codes "steps") d layout.steps
  pub inspections : IsPartOr (IsList IsInspection) [] (codes "inspect") d layout.inspections

-- the bytes are a document that is this layout
abbrev pub LayoutOf : List ℕ → Layout → Type 0
LayoutOf = OfDocument IsLayout
