-- What counts for a step by the files that are claimed for it. Nothing here is trusted.
use Rattle.std.specs.Prelude.{◌≡◌, ℕ, List, Option, Some, None, Contains}
use Rattle.std.specs.FinMap.{get, insert}
use Rattle.std.specs.List.{AllZip}
use Rattle.it_base.specs.Finds.{Finds}
use Rattle.it_base.specs.Table.{Named}
use Rattle.it_dsse.specs.Panel.{Panel}
use Rattle.it_dsse.specs.Signed.{AreThose, IsSigner}
use Rattle.it_dsse.specs.declared.envelope.Envelope.{Envelope}
use Rattle.it_dsse.specs.declared.key_object.KeyObject.{KeyObject}
use Rattle.it_chain.specs.Candidate.{IsCandidate}
use Rattle.it_chain.specs.CountedBodies.{Body, BodyOf}
use Rattle.it_chain.specs.declared.bundle.File.{File}
use Rattle.it_json_report.specs.declared.evidence.CountedKey.{CountedKey}
use Rattle.it_step_evidence.specs.Exactly.{AreExactly}
use Rattle.it_valid_signatures.specs.FirstPlace.{IsSignedAt}

-- the key under an id signed the envelope in a file, whose payload is a body for the step
pub record HoldsBody (panel : Panel) (step id : List ℕ) (object : KeyObject) (file : File)
    : Type 0 where
  pub envelope : Envelope
  pub body : Body
  pub is_candidate : IsCandidate file.bytes envelope
  pub signed : IsSigner panel envelope object id
  pub reads : BodyOf step envelope.payload body

-- and at a place of the envelope stands its first signature by this key
pub record HoldsAt (panel : Panel) (step id : List ℕ) (object : KeyObject) (file : File)
    (place : ℕ) : Type 0 where
  pub envelope : Envelope
  pub body : Body
  pub is_candidate : IsCandidate file.bytes envelope
  pub signed : IsSignedAt panel envelope id object place
  pub reads : BodyOf step envelope.payload body

-- the places with one more under a name, if there is one
abbrev pub with_place : List ℕ → Option ℕ → Named ℕ → Named ℕ
with_place name None places = places
with_place name (Some place) places = insert places name place

module _ (panel : Panel) (step : List ℕ) (files : List File) where
  -- one of the files has this name and holds a body that a signer signed
  pub record IsNameFor (signer : List ℕ × KeyObject) (name : List ℕ) : Type 0 where
    pub file : File
    pub stands : Contains files file
    pub name_is : file.name ≡ name
    pub holds : HoldsBody panel step signer.0 signer.1 file

  -- the same with the place of the signature in its envelope
  pub record IsPlaceFor (signer : List ℕ × KeyObject) (name : List ℕ) (place : ℕ)
      : Type 0 where
    pub file : File
    pub stands : Contains files file
    pub name_is : file.name ≡ name
    pub holds : HoldsAt panel step signer.0 signer.1 file place

  -- such a place under each name of files that hold a body which a signer signed
  abbrev pub ArePlaces : List ℕ × KeyObject → Named ℕ → Type 0
  ArePlaces signer places =
      (name : List ℕ) → Finds (IsPlaceFor signer name) (get places name)

  -- some file holds a body that a signer signed
  abbrev pub SignsSome : List ℕ × KeyObject → Type 0
  SignsSome signer = (name : List ℕ) × IsNameFor signer name

  -- a signer's id with the names of the files, and with the places of its signatures
  pub record IsKey (signer : List ℕ × KeyObject) (key : CountedKey) : Type 0 where
    pub id_is : key.id ≡ signer.0
    pub files_are : AreExactly (IsNameFor signer) key.files
    pub signatures_are : AllZip (IsPlaceFor signer) key.files key.signatures

  -- the same where it signed some, or none
  abbrev pub IsKeyOrNone : List ℕ × KeyObject → Option CountedKey → Type 0
  IsKeyOrNone signer None = ¬ SignsSome signer
  IsKeyOrNone signer (Some key) = SignsSome signer × IsKey signer key

  -- the keys of those signers that signed some
  pub record AreKeys (signers : List (List ℕ × KeyObject)) (keys : List CountedKey)
      : Type 0 where
    pub counted : List (List ℕ × KeyObject)
    pub are_those : AreThose SignsSome signers counted
    pub each : AllZip IsKey counted keys
