-- What the notes on the lines of provenance say (specific to this project; no standard covers
-- notes). What a line misses is a part of `Meets`, negated; what a line that is not an envelope
-- looks like is said of its document.
use Rattle.std.specs.Prelude.{◌≡◌, ◌≢◌, ◌<◌, ◌≤◌, ℕ, suc, List, Option, Some, None, Contains}
use Rattle.std.specs.Prelude.{IfSome, IsSome, IsTrue, codes, length}
use Rattle.std.specs.FinMap.{get}
use Rattle.std.specs.List.{slice_get}
use Rattle.serde_json.specs.Data.{Data}
use Rattle.serde_json.specs.Find.{as_array}
use Rattle.it_base.specs.Document.{IsDocument, member_at}
use Rattle.it_base.specs.Equal.{equal}
use Rattle.it_base.specs.Json.{Json}
use Rattle.it_base.specs.Parts.{IsPart}
use Rattle.it_base.specs.Text.{IsText}
use Rattle.it_base.specs.TreeOf.{field_at}
use Rattle.it_digest.specs.Compare.{Agree}
use Rattle.it_digest.specs.Sums.{lines_of}
use Rattle.it_digest.specs.declared.compare.DigestSet.{DigestSet}
use Rattle.it_dsse.specs.Envelope.{EnvelopeOf}
use Rattle.it_dsse.specs.Panel.{Panel}
use Rattle.it_dsse.specs.declared.envelope.Envelope.{Envelope}
use Rattle.it_dsse.specs.declared.key_object.KeyObject.{KeyObject}
use Rattle.it_hints.specs.SignedAs.{IsSignedAs}
use Rattle.it_docs.specs.PayloadType.{in_toto_type}
use Rattle.it_docs.specs.Statement.{StatementOf}
use Rattle.it_docs.specs.declared.policy.Builder.{Builder}
use Rattle.it_docs.specs.declared.policy.Expectation.{Expectation}
use Rattle.it_docs.specs.declared.statement.Provenance.{Provenance}
use Rattle.it_docs.specs.declared.statement.Statement.{Statement}
use Rattle.it_prov.specs.Meets.{SignedByBuilder}
use Rattle.it_prov_notes.specs.Values.{DifferAt}
use Rattle.it_prov_notes.specs.declared.note.Difference.{Difference}
use Rattle.it_prov_notes.specs.declared.note.HintedKey.{HintedKey}
use Rattle.it_prov_notes.specs.declared.note.ProvenanceNote.{ProvenanceNote}
use Rattle.it_prov_notes.specs.declared.note.Shape.{Shape}
use Rattle.it_prov_notes.specs.declared.note.Shape.TheVariants as shape
use Rattle.it_prov_notes.specs.declared.note.Shortfall.{Shortfall}
use Rattle.it_prov_notes.specs.declared.note.Shortfall.TheVariants as shortfall

-- ---- the lines, and what is read of them
-- the line of this number, counted from 1
pub record IsLine (provenance : List ℕ) (number : ℕ) (line : List ℕ) : Type 0 where
  pub place : ℕ
  pub stands : slice_get (lines_of provenance) place ≡ Some line
  pub number_is : number ≡ suc place

-- a line is an envelope with this Statement
pub record IsStatementOn (line : List ℕ) (envelope : Envelope) (statement : Statement) : Type 0
  where
    pub is_line : EnvelopeOf line envelope
    pub reads : StatementOf envelope.payload statement

-- a line is an envelope with this provenance
pub record IsProvenanceOn (line : List ℕ) (envelope : Envelope) (provenance : Provenance) : Type 0
  where
    pub statement : Statement
    pub states : IsStatementOn line envelope statement
    pub provenance_is : statement.provenance ≡ Some provenance

-- a line is an envelope of which P holds
abbrev pub OfEnvelope : (Envelope → Type 0) → List ℕ → Type 0
OfEnvelope P line = (envelope : Envelope) × EnvelopeOf line envelope × P envelope

-- a line is an envelope with a Statement of which P holds
abbrev pub OfStatement : (Statement → Type 0) → List ℕ → Type 0
OfStatement P line = (envelope : Envelope) × (statement : Statement)
    × IsStatementOn line envelope statement × P statement

-- a line is an envelope with provenance, and P holds of both
abbrev pub OfProvenance : (Envelope → Provenance → Type 0) → List ℕ → Type 0
OfProvenance P line = (envelope : Envelope) × (provenance : Provenance)
    × IsProvenanceOn line envelope provenance × P envelope provenance

-- ---- what a line that is not an envelope looks like
-- bytes are a document of which P holds
abbrev pub IsDocumentThat : (Data → Type 0) → List ℕ → Type 0
IsDocumentThat P bytes = (d : Data) × IsDocument bytes d × P d

-- the member `_type` of a document is this text
abbrev pub IsTyped : List ℕ → Data → Type 0
IsTyped text d = IsPart IsText (codes "_type") d text

abbrev pub LooksLike : List ℕ → Shape → Type 0
LooksLike line shape.NoDocument = (d : Data) → ¬ IsDocument line d
LooksLike line shape.List = IsDocumentThat (λ d. IsSome (as_array d)) line
LooksLike line shape.Bundle = IsDocumentThat (λ d. IsSome (member_at (codes "dsseEnvelope") d)) line
LooksLike line (shape.Typed text) = IsDocumentThat (IsTyped text) line
LooksLike line shape.Other = Unit {0}

-- ---- what an envelope misses
-- none of the expected builders signed it
abbrev pub NoneSigned : Panel → Expectation → Envelope → Type 0
NoneSigned panel expectation envelope = (builder : Builder)
    → Contains expectation.builders builder → ¬ SignedByBuilder panel envelope builder

-- a signature that is tried for this key id is by a key of one of the builders
pub record IsHinted (panel : Panel) (builders : List Builder) (envelope : Envelope)
    (hinted : HintedKey) : Type 0 where
  pub builder : Builder
  pub object : KeyObject
  pub is_builder : Contains builders builder
  pub is_key : get builder.keys hinted.id ≡ Some object
  pub signed_as : IsSignedAs panel envelope hinted.id object hinted.keyid

-- none of the expected builders signed it, and where a key is named, it made a signature all the
-- same
abbrev pub IsNotSigned : Panel → Expectation → Option HintedKey → Envelope → Type 0
IsNotSigned panel expectation hinted envelope = NoneSigned panel expectation envelope
    × IfSome hinted (IsHinted panel expectation.builders envelope)

-- none of the expected builders signed it, and its payload has more than 256 KiB (this project's
-- choice)
abbrev pub IsTooLarge : Panel → Expectation → Envelope → Type 0
IsTooLarge panel expectation envelope =
    NoneSigned panel expectation envelope × (262144 < length envelope.payload)

-- its payload is of this type, not that of in-toto
abbrev pub IsOfOtherType : List ℕ → Envelope → Type 0
IsOfOtherType found envelope = (found ≡ envelope.payload_type) × (found ≢ in_toto_type)

-- its payload is not a Statement; its type is this one, where one is given
pub record HasNoStatement (found : Option (List ℕ)) (envelope : Envelope) : Type 0 where
  pub none : (statement : Statement) → ¬ StatementOf envelope.payload statement
  pub type_is : IfSome found (λ text. IsDocumentThat (IsTyped text) envelope.payload)

-- the predicate of a Statement, which is of this type, is not provenance
abbrev pub HasNoProvenance : List ℕ → Statement → Type 0
HasNoProvenance found statement =
    (found ≡ statement.predicate_type) × (statement.provenance ≡ None)

-- no subject of a Statement has the digests
abbrev pub NoneAgrees : DigestSet → Statement → Type 0
NoneAgrees digests statement =
    (subject : DigestSet) → Contains statement.subjects subject → ¬ Agree subject digests

-- ---- what provenance misses
-- an expected builder signed the envelope
pub record HasSigned (panel : Panel) (expectation : Expectation) (envelope : Envelope)
    (builder : Builder) : Type 0 where
  pub is_expected : Contains expectation.builders builder
  pub signed : SignedByBuilder panel envelope builder

-- an expected builder with the wanted id signed, and none with the id that the provenance names
pub record BuilderDiffers (panel : Panel) (expectation : Expectation) (found wanted : List ℕ)
    (envelope : Envelope) (provenance : Provenance) : Type 0 where
  pub builder : Builder
  pub signed : HasSigned panel expectation envelope builder
  pub wanted_is : wanted ≡ builder.id
  pub found_is : found ≡ provenance.builder
  pub none_has_it : (other : Builder) → HasSigned panel expectation envelope other
      → found ≢ other.id

-- the build is not of the wanted type
pub record BuildTypeDiffers (expectation : Expectation) (found wanted : List ℕ)
    (provenance : Provenance) : Type 0 where
  pub wanted_is : wanted ≡ expectation.build_type
  pub found_is : found ≡ provenance.build_type
  pub differ : found ≢ wanted

-- a parameter is expected under a name, and none is there
pub record IsParameterMissing (expectation : Expectation) (name : List ℕ) (provenance : Provenance)
    : Type 0 where
  pub wanted : Json
  pub is_expected : field_at name expectation.parameters ≡ Some wanted
  pub none_stands : field_at name provenance.parameters ≡ None

-- a parameter is expected under a name, and an unequal one is there, which differs from it at a
-- place
pub record IsParameterUnequal (expectation : Expectation) (name : List ℕ)
    (difference : Difference) (provenance : Provenance) : Type 0 where
  pub wanted : Json
  pub given : Json
  pub is_expected : field_at name expectation.parameters ≡ Some wanted
  pub stands : field_at name provenance.parameters ≡ Some given
  pub unequal : ¬ IsTrue (equal given wanted)
  pub differ : DifferAt given wanted difference

-- a parameter is under a name that is neither expected nor ignored
pub record IsParameterUnexpected (expectation : Expectation) (name : List ℕ)
    (provenance : Provenance) : Type 0 where
  pub given : Json
  pub stands : field_at name provenance.parameters ≡ Some given
  pub none_expected : field_at name expectation.parameters ≡ None
  pub not_ignored : ¬ Contains expectation.ignore name

-- an expected builder that the provenance names signed and has this level, no such builder has a
-- greater one, and it is less than the wanted one
pub record LevelIsLow (panel : Panel) (expectation : Expectation) (found wanted : ℕ)
    (envelope : Envelope) (provenance : Provenance) : Type 0 where
  pub builder : Builder
  pub signed : HasSigned panel expectation envelope builder
  pub built_by : provenance.builder ≡ builder.id
  pub found_is : found ≡ builder.level
  pub wanted_is : wanted ≡ expectation.level
  pub greatest : (other : Builder) → HasSigned panel expectation envelope other
      → provenance.builder ≡ other.id → other.level ≤ found
  pub is_low : found < wanted

-- ---- the notes
-- a line misses this
abbrev pub Misses : Panel → Expectation → DigestSet → List ℕ → Shortfall → Type 0
Misses panel expectation digests line (shortfall.NoEnvelope looks) =
    ((envelope : Envelope) → ¬ EnvelopeOf line envelope) × LooksLike line looks
Misses panel expectation digests line (shortfall.NotSigned hinted) =
    OfEnvelope (IsNotSigned panel expectation hinted) line
Misses panel expectation digests line shortfall.TooLarge =
    OfEnvelope (IsTooLarge panel expectation) line
Misses panel expectation digests line (shortfall.OtherPayloadType found) =
    OfEnvelope (IsOfOtherType found) line
Misses panel expectation digests line (shortfall.NoStatement found) =
    OfEnvelope (HasNoStatement found) line
Misses panel expectation digests line (shortfall.NoProvenance found) =
    OfStatement (HasNoProvenance found) line
Misses panel expectation digests line shortfall.NoSubject =
    OfStatement (NoneAgrees digests) line
Misses panel expectation digests line (shortfall.OtherBuilder found wanted) =
    OfProvenance (BuilderDiffers panel expectation found wanted) line
Misses panel expectation digests line (shortfall.OtherBuildType found wanted) =
    OfProvenance (λ _. BuildTypeDiffers expectation found wanted) line
Misses panel expectation digests line (shortfall.MissingParameter name) =
    OfProvenance (λ _. IsParameterMissing expectation name) line
Misses panel expectation digests line (shortfall.UnequalParameter name difference) =
    OfProvenance (λ _. IsParameterUnequal expectation name difference) line
Misses panel expectation digests line (shortfall.UnexpectedParameter name) =
    OfProvenance (λ _. IsParameterUnexpected expectation name) line
Misses panel expectation digests line (shortfall.LowLevel found wanted) =
    OfProvenance (LevelIsLow panel expectation found wanted) line

-- what a note says is true: the line with its number misses this
pub record Holds (panel : Panel) (expectation : Expectation) (digests : DigestSet)
    (provenance : List ℕ) (note : ProvenanceNote) : Type 0 where
  pub line : List ℕ
  pub is_line : IsLine provenance note.line line
  pub misses : Misses panel expectation digests line note.shortfall
