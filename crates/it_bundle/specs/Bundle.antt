-- Bundles (Sigstore's `Bundle`, in its JSON form).
use Rattle.std.specs.Prelude.{ℕ, List, codes}
use Rattle.serde_json.specs.Data.{Data}
use Rattle.it_base.specs.Document.{OfDocument, member_at}
use Rattle.it_base.specs.Parts.{IsPart}
use Rattle.it_base.specs.Table.{Stands}
use Rattle.it_dsse.specs.Envelope.{IsEnvelope}
use Rattle.it_dsse.specs.declared.envelope.Envelope.{Envelope}
use Rattle.it_bundle.specs.Material.{IsMaterial}
use Rattle.it_bundle.specs.Version.{IsVersion}
use Rattle.it_bundle.specs.declared.bundle.SigstoreBundle.{SigstoreBundle}

-- a bundle in a document: an envelope of a version, and what proves who signed it. A document that
-- is an envelope itself is no bundle (this profile's choice), and one without an envelope is none
pub record IsSigstoreBundle (d : Data) (bundle : SigstoreBundle) : Type 0 where
  pub no_envelope : (envelope : Envelope) → ¬ IsEnvelope d envelope
  pub version : IsPart IsVersion (codes "mediaType") d bundle.version
  pub envelope : IsPart IsEnvelope (codes "dsseEnvelope") d bundle.envelope
  pub material : Stands (IsMaterial bundle.version) (member_at (codes "verificationMaterial") d)
      bundle.material

-- the bytes are a document that is this bundle
abbrev pub BundleOf : List ℕ → SigstoreBundle → Type 0
BundleOf = OfDocument IsSigstoreBundle
