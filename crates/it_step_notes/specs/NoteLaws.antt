-- How the findings on files relate to what counts for a step.
use Rattle.std.specs.Prelude.{◌≡◌, ◌≢◌, ℕ, List, All, Contains}
use Rattle.it_docs.specs.declared.layout.Layout.{Layout}
use Rattle.it_docs.specs.declared.step.Step.{Step}
use Rattle.it_chain.specs.Contents.{Contents, files_of}
use Rattle.it_chain.specs.ClaimedFiles.{IsClaimed}
use Rattle.it_chain.specs.CountedBodies.{Counted, Setting}
use Rattle.it_chain.specs.declared.bundle.File.{File}
use Rattle.it_step_notes.specs.StepNotes.{IsFinding}
use Rattle.it_step_notes.specs.declared.note.Finding.{Finding}
use Rattle.it_step_notes.specs.declared.note.Finding.TheVariants.{NoEnvelope, PayloadType}
use Rattle.it_step_notes.specs.declared.note.Finding.TheVariants.{NoSignature, Unsigned, Counts}
use Rattle.it_step_notes.specs.declared.note.Finding.TheVariants.{NeitherLinkNorLayout, OtherName}

module _ (setting : Setting) (layout : Layout) (bundle : Contents) (step : Step) (file : File)
  where
    -- what counts for the step under an id is in another file
    abbrev pub CountsNever : Type 0
    CountsNever = (id payload : List ℕ) (counted : Counted setting layout bundle step id payload)
        → counted.file ≢ file

    -- what is in the file counts for the step under an id
    pub record CountsUnder (id : List ℕ) : Type 0 where
      pub payload : List ℕ
      pub counted : Counted setting layout bundle step id payload
      pub file_is : counted.file ≡ file

    -- what a finding says about what counts
    abbrev pub Tells : Finding → Type 0
    Tells NoEnvelope = CountsNever
    Tells (PayloadType other) = CountsNever
    Tells (NoSignature others) = CountsNever
    Tells Unsigned = CountsNever
    Tells NeitherLinkNorLayout = CountsNever
    Tells (OtherName name) = CountsNever
    Tells (Counts ids) = All CountsUnder ids

-- what a finding on a file of the bundle that is claimed for the step says is true
abbrev pub FindingsTell : Type 0
FindingsTell =
    (setting : Setting) (layout : Layout) (bundle : Contents) (step : Step) (file : File)
    (finding : Finding) → Contains (files_of bundle) file → IsClaimed step.name file.name
    → IsFinding setting.panel layout step file.bytes finding
    → Tells setting layout bundle step file finding
