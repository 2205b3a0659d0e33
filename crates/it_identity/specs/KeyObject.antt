-- Key objects that describe identities (TAP 18; in-toto 1.0 section 4.2).
use Rattle.std.specs.Prelude.{codes}
use Rattle.serde_json.specs.Data.{Data}
use Rattle.it_base.specs.Parts.{IsPart}
use Rattle.it_base.specs.Text.{IsText}
use Rattle.it_identity.specs.Identity.{IsIdentity}
use Rattle.it_identity.specs.declared.identity.Identity.{Identity}

-- the identity that a key object describes: by its scheme and two members of its `keyval` alone.
-- Its `keytype` and all other members have no part in it (this profile's choice)
pub record DescribesIdentity (d : Data) (identity : Identity) : Type 0 where
  pub scheme : IsPart IsText (codes "scheme") d (codes "Fulcio")
  pub name : IsPart (IsPart IsText (codes "identity")) (codes "keyval") d identity.name
  pub issuer : IsPart (IsPart IsText (codes "issuer")) (codes "keyval") d identity.issuer
  pub is_identity : IsIdentity identity
