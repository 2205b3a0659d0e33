-- Authorities (Sigstore's `CertificateAuthority`).
use Rattle.std.specs.Prelude.{ℕ, ◌<◌, ◌≤◌, List, length, codes}
use Rattle.serde_json.specs.Data.{Data}
use Rattle.it_base.specs.Base64Text.{IsBase64}
use Rattle.it_base.specs.Parts.{IsPart}
use Rattle.it_base.specs.Sequence.{IsList}
use Rattle.it_trust_root.specs.Window.{IsWindow}
use Rattle.it_trust_root.specs.declared.authority.Authority.{Authority}

-- the bytes of a certificate (`X509Certificate`)
abbrev pub IsRawBytes : Data → List ℕ → Type 0
IsRawBytes = IsPart IsBase64 (codes "rawBytes")

-- an authority in a document: its certificates, 1 to 8 (this profile's choice), and its window
pub record IsAuthority (d : Data) (authority : Authority) : Type 0 where
  pub certificates : IsPart (IsPart (IsList IsRawBytes) (codes "certificates")) (codes "certChain")
      d authority.certificates
  pub some : 0 < length authority.certificates
  pub few : length authority.certificates ≤ 8
  pub window : IsPart IsWindow (codes "validFor") d authority.window
