-- What a bundle holds besides its envelope (Sigstore's `VerificationMaterial`). All members that
-- are not named here are ignored, RFC 3161 timestamps among them (this profile's choice).
use Rattle.serde_json.specs.Data.{Data}
use Rattle.it_bundle.specs.Certificate.{IsBundleCertificate}
use Rattle.it_bundle.specs.Entries.{IsEntries}
use Rattle.it_bundle.specs.declared.material.Material.{Material}
use Rattle.it_bundle.specs.declared.version.BundleVersion.{BundleVersion}

-- the material of a bundle of a version
pub record IsMaterial (version : BundleVersion) (d : Data) (material : Material) : Type 0 where
  pub certificate : IsBundleCertificate version d material.certificate
  pub entries : IsEntries d material.entries
