-- The first part of a layout that fails.
use Rattle.std.proofs.Common.{◌≡◌, ◌⊎◌, inl, inr, ℕ, ◌<◌, List, [], Result, Ok, Err, MatchResult}
use Rattle.std.proofs.Common.{IfErr, codes, lit<, arith}
use Rattle.serde_json.specs.Data.{Data}
use Rattle.it_base.specs.Document.{IsDocument}
use Rattle.it_base.specs.Parts.{IsPartOr}
use Rattle.it_base.specs.Sequence.{IsList}
use Rattle.it_base.proofs.Documents.{same_document}
use Rattle.std.proofs.Common.{subst, sym}
use Rattle.it_docs.specs.FirstPart.{IsFirstPart, Precedes}
use Rattle.it_docs.specs.Layout.{IsLayout}
use Rattle.it_docs.specs.LayoutPart.{place, PartReads, LayoutPartOf}
use Rattle.it_docs.specs.inside.LayoutFaults.{IsInspectionsFault, IsLayoutFault, IsStepsFault}
use Rattle.it_docs.specs.Repeats.{IsFirstRepeat}
use Rattle.it_docs.specs.Step.{IsInspection, IsStep, names_of}
use Rattle.it_docs.specs.declared.layout.Layout.{Layout}
use Rattle.it_docs.specs.declared.layout_fault.LayoutFault.{LayoutFault}
use Rattle.it_docs.specs.declared.layout_fault.LayoutFault.TheVariants.{BadLayout, OutOfMemory}
use Rattle.it_docs.specs.declared.layout_fault.LayoutPart.{LayoutPart}
use Rattle.it_docs.specs.declared.layout_fault.LayoutPart.TheVariants.{Json, WrongType, Expires}
use Rattle.it_docs.specs.declared.layout_fault.LayoutPart.TheVariants.{Keys, Steps, Step, Inspects}
use Rattle.it_docs.specs.declared.layout_fault.LayoutPart.TheVariants.{Inspect, DuplicateName}
use Rattle.it_docs.specs.declared.step.Inspection.{Inspection}
use Rattle.it_docs.specs.declared.step.Step.{Step as LayoutStep}
use Rattle.it_base.proofs.Lists.{list_reads}

-- what is known of the parts in the rows below r
pub record Below (R : LayoutPart → Type 0) (r : ℕ) : Type 0 where
  pub json : 0 < r → R Json
  pub wrong_type : 1 < r → R WrongType
  pub expires : 2 < r → R Expires
  pub keys : 3 < r → R Keys
  pub steps : 4 < r → R Steps
  pub step : 5 < r → (n : ℕ) → R (Step n)
  pub inspects : 6 < r → R Inspects
  pub inspect : 7 < r → (n : ℕ) → R (Inspect n)

below_reads : (R : LayoutPart → Type 0) (r : ℕ) → r < 9 → Below R r → (other : LayoutPart)
    → (place other).0 < r → R other
below_reads R r most known Json h = known.json h
below_reads R r most known WrongType h = known.wrong_type h
below_reads R r most known Expires h = known.expires h
below_reads R r most known Keys h = known.keys h
below_reads R r most known Steps h = known.steps h
below_reads R r most known (Step n) h = known.step h n
below_reads R r most known Inspects h = known.inspects h
below_reads R r most known (Inspect n) h = known.inspect h n
below_reads R r most known (DuplicateName name) h = absurd (omega arith)

-- a row with one place
pub alone : (R : LayoutPart → Type 0) (r : ℕ) → r < 9 → Below R r → (other : LayoutPart)
    → Precedes (place other) (r, 0) → R other
alone R r most known other (inl h) = below_reads R r most known other h
alone R r most known other (inr h) = absurd (omega (arith, h.1))

steps_before : (R : LayoutPart → Type 0) (n : ℕ) → ((m : ℕ) → m < n → R (Step m))
    → (other : LayoutPart) → (place other).0 ≡ 5 → (place other).1 < n → R other
steps_before R n before Json e h = absurd (omega arith)
steps_before R n before WrongType e h = absurd (omega arith)
steps_before R n before Expires e h = absurd (omega arith)
steps_before R n before Keys e h = absurd (omega arith)
steps_before R n before Steps e h = absurd (omega arith)
steps_before R n before (Step m) e h = before m h
steps_before R n before Inspects e h = absurd (omega arith)
steps_before R n before (Inspect m) e h = absurd (omega arith)
steps_before R n before (DuplicateName name) e h = absurd (omega arith)

inspections_before : (R : LayoutPart → Type 0) (n : ℕ) → ((m : ℕ) → m < n → R (Inspect m))
    → (other : LayoutPart) → (place other).0 ≡ 7 → (place other).1 < n → R other
inspections_before R n before Json e h = absurd (omega arith)
inspections_before R n before WrongType e h = absurd (omega arith)
inspections_before R n before Expires e h = absurd (omega arith)
inspections_before R n before Keys e h = absurd (omega arith)
inspections_before R n before Steps e h = absurd (omega arith)
inspections_before R n before (Step m) e h = absurd (omega arith)
inspections_before R n before Inspects e h = absurd (omega arith)
inspections_before R n before (Inspect m) e h = before m h
inspections_before R n before (DuplicateName name) e h = absurd (omega arith)

-- what stands before the steps
pub record IsHead (d : Data) : Type 0 where
  pub json : PartReads d Json
  pub wrong_type : PartReads d WrongType
  pub expires : PartReads d Expires
  pub keys : PartReads d Keys

head_below : (d : Data) (r : ℕ) → IsHead d → (4 < r → PartReads d Steps)
    → (5 < r → (n : ℕ) → PartReads d (Step n)) → (6 < r → PartReads d Inspects)
    → (7 < r → (n : ℕ) → PartReads d (Inspect n)) → Below (PartReads d) r
head_below d r head steps step inspects inspect =
    record {
      json = λ h. head.json;
      wrong_type = λ h. head.wrong_type;
      expires = λ h. head.expires;
      keys = λ h. head.keys;
      steps = steps;
      step = step;
      inspects = inspects;
      inspect = inspect;
    }

either : {A B C : Type 0} → (A → C) → (B → C) → A ⊎ B → C
either f g (inl a) = f a
either f g (inr b) = g b

pub steps_fault : (d : Data) → IsHead d → (e : LayoutFault) → IsStepsFault d e → IsLayoutFault d e
steps_fault d head (BadLayout part) (inl h) =
    subst (IsFirstPart place (PartReads d)) (sym h.0) (record {
      fails = h.1;
      before = alone (PartReads d) 4 (lit< tt) (head_below d 4 head (λ h. absurd (omega arith))
          (λ h. absurd (omega arith)) (λ h. absurd (omega arith)) (λ h. absurd (omega arith)));
    })
steps_fault d head (BadLayout part) (inr h) =
    subst (IsFirstPart place (PartReads d)) (sym h.1) (record {
      fails = h.2.1;
      before = λ other less. either
          (below_reads (PartReads d) 5 (lit< tt)
          (head_below d 5 head (λ g. h.2.0) (λ h. absurd (omega arith)) (λ h. absurd (omega arith))
          (λ h. absurd (omega arith))) other)
          (λ g. steps_before (PartReads d) h.0 h.2.2 other g.0 g.1) less;
    })
steps_fault d head OutOfMemory h = tt

pub inspections_fault : (d : Data) → IsHead d → (steps : List LayoutStep)
    → IsPartOr (IsList IsStep) [] (codes "steps") d steps → (e : LayoutFault)
    → IsInspectionsFault d e → IsLayoutFault d e
inspections_fault d head steps is (BadLayout part) (inl h) =
    let read = list_reads IsStep (codes "steps") d steps is in
    subst (IsFirstPart place (PartReads d)) (sym h.0) (record {
      fails = h.1;
      before = alone (PartReads d) 6 (lit< tt) (head_below d 6 head (λ g. read.0) (λ g. read.1)
          (λ h. absurd (omega arith)) (λ h. absurd (omega arith)));
    })
inspections_fault d head steps is (BadLayout part) (inr h) =
    let read = list_reads IsStep (codes "steps") d steps is in
    subst (IsFirstPart place (PartReads d)) (sym h.1) (record {
      fails = h.2.1;
      before = λ other less. either
          (below_reads (PartReads d) 7 (lit< tt) (head_below d 7 head (λ g. read.0) (λ g. read.1)
          (λ g. h.2.0) (λ h. absurd (omega arith))) other)
          (λ g. inspections_before (PartReads d) h.0 h.2.2 other g.0 g.1) less;
    })
inspections_fault d head steps is OutOfMemory h = tt

pub duplicate_fault : (d : Data) → IsHead d
    → (steps : List LayoutStep) (inspections : List Inspection)
    → IsPartOr (IsList IsStep) [] (codes "steps") d steps
    → IsPartOr (IsList IsInspection) [] (codes "inspect") d inspections → (name : List ℕ)
    → IsFirstRepeat (names_of steps inspections) name
    → IsLayoutFault d (BadLayout (DuplicateName name))
duplicate_fault d head steps inspections is_steps is_inspections name repeat =
    let step = list_reads IsStep (codes "steps") d steps is_steps in
    let inspection = list_reads IsInspection (codes "inspect") d inspections is_inspections in
    record {
      fails = λ reads. reads steps inspections is_steps is_inspections repeat;
      before = alone (PartReads d) 8 (lit< tt) (head_below d 8 head (λ g. step.0) (λ g. step.1)
          (λ g. inspection.0) (λ g. inspection.1));
    }

-- what fails first in the document, fails first in the bytes
pub fault_of_document : (bytes : List ℕ) (d : Data) (part : LayoutPart) → IsDocument bytes d
    → IsLayoutFault d (BadLayout part) → LayoutPartOf bytes part
fault_of_document bytes d part is h = record {
  fails = λ reads. h.fails (subst (λ e. PartReads e part) (same_document bytes reads.0 d reads.1 is)
      reads.2);
  before = λ other less. (d, is, h.before other less);
}

pub bad_of_document : (bytes : List ℕ) (d : Data) → IsDocument bytes d
    → (read : Result Layout LayoutFault) → MatchResult read (IsLayout d) (IsLayoutFault d)
    → IfErr read (λ e. (part : LayoutPart) → e ≡ BadLayout part → LayoutPartOf bytes part)
bad_of_document bytes d is (Ok layout) h = tt
bad_of_document bytes d is (Err e) h = λ part same. fault_of_document bytes d part is
    (subst (IsLayoutFault d) same h)
