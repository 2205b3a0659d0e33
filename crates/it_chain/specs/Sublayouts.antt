-- Where the files of a sublayout are (in-toto 1.0 section 4.4; the name of the folder is this
-- profile's choice), and which sublayouts count (in-toto 1.0 section 5.2).
use Rattle.std.specs.Prelude.{◌≡◌, ℕ, List, ◌++◌, Contains, Some, take, codes, unwrap_or}
use Rattle.std.specs.Prelude.{encode_utf8_all}
use Rattle.std.specs.FinMap.{get}
use Rattle.std.specs.Str.{chars}
use Rattle.it_dsse.specs.Envelope.{EnvelopeOf}
use Rattle.it_dsse.specs.declared.envelope.Envelope.{Envelope}
use Rattle.it_dsse.specs.declared.key_object.KeyObject.{KeyObject}
use Rattle.it_docs.specs.Layout.{LayoutOf}
use Rattle.it_docs.specs.PayloadType.{in_toto_type}
use Rattle.it_docs.specs.declared.layout.Layout.{Layout}
use Rattle.it_docs.specs.declared.step.Step.{Step}
use Rattle.it_chain.specs.ClaimedFiles.{IsClaimed}
use Rattle.it_chain.specs.Contents.{Contents, empty, files_of, folder_at}
use Rattle.it_chain.specs.declared.bundle.File.{File}

-- the first characters of a text, or all of a shorter one; a character is a Unicode scalar value
abbrev pub first_characters : ℕ → List ℕ → List ℕ
first_characters n text = encode_utf8_all (take n (chars text))

-- the name of the folder that a sublayout's files are in: the step's name, a full stop, and the
-- first 8 characters of the key id
abbrev pub folder_name : List ℕ → List ℕ → List ℕ
folder_name step id = step ++ codes "." ++ first_characters 8 id

-- that folder of a bundle; a missing one is empty
abbrev pub folder_of : List ℕ → List ℕ → Contents → Contents
folder_of step id bundle = unwrap_or (folder_at (folder_name step id) bundle) empty

-- who signed what: for which envelope, object and id the object's key under the id signed the
-- envelope
abbrev pub Signing : Type 1
Signing = Envelope → KeyObject → List ℕ → Type 0

-- a layout counts for a step of another under a key id: some file is claimed for the step, a key
-- that the step lists and the layout has signed it, and its payload is this layout
pub record IsSublayout (Signs : Signing) (layout : Layout) (bundle : Contents) (step : Step)
    (id : List ℕ) (sublayout : Layout) : Type 0 where
  pub file : File
  pub envelope : Envelope
  pub object : KeyObject
  pub is_step : Contains layout.steps step
  pub stands : Contains (files_of bundle) file
  pub claimed : IsClaimed step.name file.name
  pub is_envelope : EnvelopeOf file.bytes envelope
  pub type_is : envelope.payload_type ≡ in_toto_type
  pub listed : Contains step.pubkeys id
  pub known : get layout.keys id ≡ Some object
  pub signed : Signs envelope object id
  pub is_layout : LayoutOf envelope.payload sublayout
