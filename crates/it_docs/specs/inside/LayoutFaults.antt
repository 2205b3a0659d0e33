-- Why a document is not a layout, as the functions that read its parts report it.
use Rattle.serde_json.specs.Data.{Data}
use Rattle.it_docs.specs.FirstPart.{IsFirstPart}
use Rattle.it_docs.specs.LayoutPart.{PartReads, place}
use Rattle.it_docs.specs.declared.layout_fault.LayoutFault.{LayoutFault}
use Rattle.it_docs.specs.declared.layout_fault.LayoutFault.TheVariants.{BadLayout, OutOfMemory}
use Rattle.it_docs.specs.declared.layout_fault.LayoutPart.{LayoutPart}
use Rattle.it_docs.specs.declared.layout_fault.LayoutPart.TheVariants.{Steps, Step, Inspects}
use Rattle.it_docs.specs.declared.layout_fault.LayoutPart.TheVariants.{Inspect}
use Rattle.it_docs.specs.inside.Numbered.{IsNumberedPart}

-- the part that a fault names, if it names one
abbrev pub NamesPart : (LayoutPart → Type 0) → LayoutFault → Type 0
NamesPart P (BadLayout part) = P part
NamesPart P OutOfMemory = Unit {0}

-- why a document is not a layout
abbrev pub IsLayoutFault : Data → LayoutFault → Type 0
IsLayoutFault d = NamesPart (IsFirstPart place (PartReads d))

-- why the steps of a document cannot be read
abbrev pub IsStepsFault : Data → LayoutFault → Type 0
IsStepsFault d = NamesPart (IsNumberedPart (PartReads d) Steps Step)

-- why the inspections of a document cannot be read
abbrev pub IsInspectionsFault : Data → LayoutFault → Type 0
IsInspectionsFault d = NamesPart (IsNumberedPart (PartReads d) Inspects Inspect)
