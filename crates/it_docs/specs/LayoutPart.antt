-- The first part of a layout that fails, in the order of the parts.
use Rattle.std.specs.Prelude.{ℕ, ℤ, List, [], IsTrue, is_some, codes}
use Rattle.std.specs.FinMap.{empty}
use Rattle.serde_json.specs.Data.{Data}
use Rattle.serde_json.specs.Find.{as_object}
use Rattle.it_base.specs.Document.{IsDocument}
use Rattle.it_base.specs.Parts.{IsPart, IsPartOr}
use Rattle.it_base.specs.Sequence.{IsList}
use Rattle.it_base.specs.Text.{IsText}
use Rattle.it_dsse.specs.KeyObject.{IsKeyObject}
use Rattle.it_dsse.specs.declared.key_object.KeyObject.{KeyObject}
use Rattle.it_docs.specs.FirstPart.{IsFirstPart}
use Rattle.it_base.specs.List.{IsListOrMissing, PartItemReads}
use Rattle.it_docs.specs.Moment.{IsMoment}
use Rattle.it_docs.specs.Repeats.{IsFirstRepeat}
use Rattle.it_docs.specs.Step.{IsInspection, IsStep, names_of}
use Rattle.it_base.specs.Table.{IsTable, Named}
use Rattle.it_docs.specs.declared.layout_fault.LayoutPart.{LayoutPart}
use Rattle.it_docs.specs.declared.layout_fault.LayoutPart.TheVariants.{Json, WrongType, Expires}
use Rattle.it_docs.specs.declared.layout_fault.LayoutPart.TheVariants.{Keys, Steps, Step, Inspects}
use Rattle.it_docs.specs.declared.layout_fault.LayoutPart.TheVariants.{Inspect, DuplicateName}
use Rattle.it_docs.specs.declared.step.Inspection.{Inspection}
use Rattle.it_docs.specs.declared.step.Step.{Step as LayoutStep}

-- the parts in their order; steps and inspections are in the order of their numbers
abbrev pub place : LayoutPart → ℕ × ℕ
place Json = (0, 0)
place WrongType = (1, 0)
place Expires = (2, 0)
place Keys = (3, 0)
place Steps = (4, 0)
place (Step n) = (5, n)
place Inspects = (6, 0)
place (Inspect n) = (7, n)
place (DuplicateName name) = (8, 0)

-- what a part of a document must be
abbrev pub PartReads : Data → LayoutPart → Type 0
PartReads d Json = IsTrue (is_some (as_object d))
PartReads d WrongType = IsPart IsText (codes "_type") d (codes "layout")
PartReads d Expires = (moment : ℤ) × IsPart IsMoment (codes "expires") d moment
PartReads d Keys =
    (keys : Named KeyObject) × IsPartOr (IsTable IsKeyObject) empty (codes "keys") d keys
PartReads d Steps = IsListOrMissing (codes "steps") d
PartReads d (Step n) = PartItemReads IsStep (codes "steps") d n
PartReads d Inspects = IsListOrMissing (codes "inspect") d
PartReads d (Inspect n) = PartItemReads IsInspection (codes "inspect") d n
PartReads d (DuplicateName name) =
    (steps : List LayoutStep) (inspections : List Inspection)
    → IsPartOr (IsList IsStep) [] (codes "steps") d steps
    → IsPartOr (IsList IsInspection) [] (codes "inspect") d inspections
    → ¬ IsFirstRepeat (names_of steps inspections) name

-- the bytes are a document in which this part reads
abbrev pub Reads : List ℕ → LayoutPart → Type 0
Reads bytes part = (d : Data) × IsDocument bytes d × PartReads d part

-- the first part of the bytes that fails
abbrev pub LayoutPartOf : List ℕ → LayoutPart → Type 0
LayoutPartOf bytes = IsFirstPart place (Reads bytes)
