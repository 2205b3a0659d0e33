-- What the notes on a step of a layout over a bundle say (words of this project; what counts for a
-- step is defined in in-toto 1.0 sections 4.4 and 5.2).
use Rattle.std.specs.Prelude.{◌≡◌, ◌≢◌, ℕ, List, [], ◌++◌, None, All, Any, Contains}
use Rattle.std.specs.Prelude.{IsTrue, codes, nat_eq}
use Rattle.std.specs.FinMap.{get, keys}
use Rattle.std.specs.List.{ends_with, starts_with}
use Rattle.it_dsse.specs.Panel.{Panel}
use Rattle.it_dsse.specs.Envelope.{EnvelopeOf}
use Rattle.it_dsse.specs.Signed.{AreThose}
use Rattle.it_dsse.specs.declared.envelope.Envelope.{Envelope}
use Rattle.it_docs.specs.Layout.{LayoutOf}
use Rattle.it_docs.specs.Link.{LinkOf}
use Rattle.it_docs.specs.PayloadType.{in_toto_type}
use Rattle.it_docs.specs.declared.layout.Layout.{Layout}
use Rattle.it_docs.specs.declared.link.Link.{Link}
use Rattle.it_docs.specs.declared.step.Step.{Step}
use Rattle.it_chain.specs.Contents.{Contents, files_of}
use Rattle.it_chain.specs.ClaimedFiles.{IsClaimed}
use Rattle.it_chain.specs.CountedBodies.{Body, BodyOf}
use Rattle.it_chain.specs.Sublayouts.{folder_name}
use Rattle.it_chain.specs.declared.bundle.File.{File}
use Rattle.it_step_notes.specs.Signing.{IsNamedSigner, IsSignedUnder}
use Rattle.it_step_notes.specs.declared.note.Finding.{Finding}
use Rattle.it_step_notes.specs.declared.note.Finding.TheVariants.{NoEnvelope, PayloadType}
use Rattle.it_step_notes.specs.declared.note.Finding.TheVariants.{NoSignature, Unsigned, Counts}
use Rattle.it_step_notes.specs.declared.note.Finding.TheVariants.{NeitherLinkNorLayout, OtherName}
use Rattle.it_step_notes.specs.declared.note.StepNote.{StepNote}
use Rattle.it_step_notes.specs.declared.note.StepNote.TheVariants.{File as of_file, NoFile}
use Rattle.it_step_notes.specs.declared.note.StepNote.TheVariants.{NoKeyObject, NearlyClaims}

-- a name has this front and ends with `.link`
abbrev pub HasEnds : List ℕ → List ℕ → Type 0
HasEnds front name = IsTrue (starts_with nat_eq name front)
    × IsTrue (ends_with nat_eq name (codes ".link"))

-- a name begins with the step's name and a full stop, and ends with `.link`
abbrev pub IsNear : List ℕ → List ℕ → Type 0
IsNear step name = HasEnds (step ++ codes ".") name

-- the payload is neither a link nor a layout
pub record IsNeither (payload : List ℕ) : Type 0 where
  pub no_link : (link : Link) → ¬ LinkOf payload link
  pub no_layout : (layout : Layout) → ¬ LayoutOf payload layout

-- the payload is a link of this name, which is not the step's
pub record IsOtherLink (step payload name : List ℕ) : Type 0 where
  pub link : Link
  pub reads : LinkOf payload link
  pub name_is : link.name ≡ name
  pub other : name ≢ step

-- why a payload is not a body for a step
abbrev pub IsNoBody : List ℕ → List ℕ → Finding → Type 0
IsNoBody step payload NeitherLinkNorLayout = IsNeither payload
IsNoBody step payload (OtherName name) = IsOtherLink step payload name
IsNoBody step payload _ = ⊥

module _ (panel : Panel) (layout : Layout) (step : Step) where
  -- the envelope is of the in-toto type, has a body for the step, and is signed under these ids, at
  -- least one, all of which the step lists
  pub record CountsFor (envelope : Envelope) (ids : List (List ℕ)) : Type 0 where
    pub some : ids ≢ []
    pub type_is : envelope.payload_type ≡ in_toto_type
    pub body : Body
    pub reads : BodyOf step.name envelope.payload body
    pub listed : All (Contains step.pubkeys) ids
    pub signed : All (IsSignedUnder panel layout envelope) ids

  -- the envelope is signed under no id that the step lists
  abbrev pub IsSignedByNone : Envelope → Type 0
  IsSignedByNone envelope = (id : List ℕ) → Contains step.pubkeys id
      → ¬ IsSignedUnder panel layout envelope id

  -- it is signed under none of these; these others are those of the layout's ids, each once, that
  -- its signatures name and under which it is signed
  pub record IsUnsigned (envelope : Envelope) (others : List (List ℕ)) : Type 0 where
    pub unsigned : IsSignedByNone envelope
    pub others_are : AreThose (IsNamedSigner panel layout envelope) (keys layout.keys) others

  -- what an envelope is for the step
  abbrev pub IsFindingOf : Envelope → Finding → Type 0
  IsFindingOf envelope NoEnvelope = ⊥
  IsFindingOf envelope (PayloadType other) =
      (envelope.payload_type ≡ other) × (other ≢ in_toto_type)
  IsFindingOf envelope (NoSignature others) = IsUnsigned envelope others
  IsFindingOf envelope Unsigned = IsSignedByNone envelope
  IsFindingOf envelope (Counts ids) = CountsFor envelope ids
  IsFindingOf envelope finding = IsNoBody step.name envelope.payload finding

  -- what bytes are for the step
  abbrev pub IsFinding : List ℕ → Finding → Type 0
  IsFinding bytes NoEnvelope = (envelope : Envelope) → ¬ EnvelopeOf bytes envelope
  IsFinding bytes finding = (envelope : Envelope) × EnvelopeOf bytes envelope
      × IsFindingOf envelope finding

module _ (panel : Panel) (layout : Layout) (bundle : Contents) (step : Step) where
  -- a file of the bundle with this name is claimed for the step, and this is the finding on it
  pub record HasFinding (name : List ℕ) (finding : Finding) : Type 0 where
    pub file : File
    pub stands : Contains (files_of bundle) file
    pub name_is : file.name ≡ name
    pub claimed : IsClaimed step.name file.name
    pub is_so : IsFinding panel layout step file.bytes finding

  -- the step lists an id for which the layout has no key
  pub record LacksKey (id : List ℕ) : Type 0 where
    pub listed : Contains step.pubkeys id
    pub unknown : get layout.keys id ≡ None

  -- the step lists an id, and no file has the name of its link (in-toto 1.0 section 4.4)
  pub record LacksFile (id name : List ℕ) : Type 0 where
    pub listed : Contains step.pubkeys id
    pub name_is : name ≡ folder_name step.name id ++ codes ".link"
    pub none : ¬ Any (λ file. file.name ≡ name) (files_of bundle)

  -- a file of the bundle has this name, which nearly claims it for the step, but does not
  pub record NearlyClaimed (name : List ℕ) : Type 0 where
    pub file : File
    pub stands : Contains (files_of bundle) file
    pub name_is : file.name ≡ name
    pub near : IsNear step.name name
    pub unclaimed : ¬ IsClaimed step.name name

  -- what a note says of the step
  abbrev pub Holds : StepNote → Type 0
  Holds (of_file name finding) = HasFinding name finding
  Holds (NoKeyObject id) = LacksKey id
  Holds (NoFile id name) = LacksFile id name
  Holds (NearlyClaims name) = NearlyClaimed name
