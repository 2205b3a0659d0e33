-- Trusted roots (Sigstore's `TrustedRoot`).
use Rattle.std.specs.Prelude.{◌⊎◌, ℕ, List, codes}
use Rattle.serde_json.specs.Data.{Data}
use Rattle.it_base.specs.Document.{OfDocument}
use Rattle.it_base.specs.Parts.{IsPart}
use Rattle.it_base.specs.Text.{IsText}
use Rattle.it_trust_root.specs.Authority.{IsAuthority}
use Rattle.it_trust_root.specs.Log.{IsRootLog}
use Rattle.it_trust_root.specs.ShortList.{IsShortList}
use Rattle.it_trust_root.specs.declared.root.TrustedRoot.{TrustedRoot}

-- the two media types of a trusted root, the older and the newer
abbrev pub IsMediaType : Data → Type 0
IsMediaType d =
    IsPart IsText (codes "mediaType") d
    (codes "application/vnd.dev.sigstore.trustedroot+json;version=0.1")
    ⊎ IsPart IsText (codes "mediaType") d
    (codes "application/vnd.dev.sigstore.trustedroot.v0.1+json")

-- a trusted root in a document
pub record IsRoot (d : Data) (root : TrustedRoot) : Type 0 where
  pub media_type : IsMediaType d
  pub logs : IsShortList IsRootLog (codes "tlogs") d root.logs
  pub authorities : IsShortList IsAuthority (codes "certificateAuthorities") d root.authorities
  pub certificate_logs : IsShortList IsRootLog (codes "ctlogs") d root.certificate_logs

-- the bytes are a document that is this trusted root
abbrev pub RootOf : List ℕ → TrustedRoot → Type 0
RootOf = OfDocument IsRoot
