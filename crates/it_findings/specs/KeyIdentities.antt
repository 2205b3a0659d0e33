-- Key objects that describe identities (TAP 18; in-toto 1.0 section 4.2).
use Rattle.std.specs.Prelude.{◌≡◌, codes}
use Rattle.it_dsse.specs.declared.key_object.KeyObject.{KeyObject}
use Rattle.it_identity.specs.Identity.{IsShort}

-- the object describes an identity: by its scheme, its identity and its issuer alone, whatever its
-- other members are (this profile's choice)
pub record HasIdentity (object : KeyObject) : Type 0 where
  pub scheme : object.scheme ≡ codes "Fulcio"
  pub identity : IsShort object.identity
  pub issuer : IsShort object.issuer
