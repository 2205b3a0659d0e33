-- Why no check knows a key object (in-toto 1.0 section 4.2; which schemes checks know, and which
-- keys they take, is this profile's choice).
use Rattle.std.specs.Prelude.{◌≡◌, ◌⊎◌, ℕ, List, None, Some, Ok, IsTrue, codes}
use Rattle.std.specs.Result.{result_ok}
use Rattle.hex.specs.Hex.{decode_sized}
use Rattle.it_dsse.specs.declared.key_object.KeyObject.{KeyObject}
use Rattle.it_ed25519.specs.PublicKey.{IsPublicKey}
use Rattle.it_identity.specs.Identity.{IsShort}
use Rattle.it_p256.specs.Key.{Key as P256Key, IsKey as IsP256Key, info_of as p256_info}
use Rattle.it_p384.specs.Key.{Key as P384Key, IsKey as IsP384Key, info_of as p384_info}
use Rattle.it_pem.specs.PublicKeyText.{info_in}
use Rattle.it_rsa.specs.Info.{info_of as rsa_info}
use Rattle.it_rsa.specs.Key.{Key as RsaKey, IsKey as IsRsaKey}
use Rattle.it_public_keys.specs.Keys.{IsKey}
use Rattle.it_public_keys.specs.KeyText.{describes}
use Rattle.it_public_keys.specs.Laws.{IsPublicScheme}
use Rattle.it_public_keys.specs.declared.key.Key.{Key}
use Rattle.it_key_notes.specs.declared.reason.Reason.{Reason}
use Rattle.it_key_notes.specs.declared.reason.Reason.TheVariants.{OtherScheme, NoSecret, PublicKey}
use Rattle.it_key_notes.specs.declared.reason.Reason.TheVariants.{NoDigits, NoEd25519Key}
use Rattle.it_key_notes.specs.declared.reason.Reason.TheVariants.{NoPemText, NoP256Key, NoP384Key}
use Rattle.it_key_notes.specs.declared.reason.Reason.TheVariants.{NoRsaKey, Identity, NoIdentity}

-- the scheme of a ring's keys, one of those of public keys, or that of identities
abbrev pub IsCheckedScheme : List ℕ → Type 0
IsCheckedScheme scheme =
    (scheme ≡ codes "hmac-sha256") ⊎ IsPublicScheme scheme ⊎ (scheme ≡ codes "Fulcio")

-- a scheme whose keys are PEM texts
abbrev pub IsPemScheme : List ℕ → Type 0
IsPemScheme scheme =
    (scheme ≡ codes "ecdsa-sha2-nistp256") ⊎ (scheme ≡ codes "ecdsa-sha2-nistp384")
    ⊎ (scheme ≡ codes "rsassa-pss-sha256")

module _ (object : KeyObject) where
  -- the object has this scheme, which no check knows
  pub record IsOfOther (scheme : List ℕ) : Type 0 where
    pub scheme_is : scheme ≡ object.scheme
    pub other : ¬ IsCheckedScheme scheme

  -- the object describes a public key
  pub record IsPublic : Type 0 where
    pub key : Key
    pub is_key : IsKey key
    pub described : IsTrue (describes object key)

  -- it lacks the 64 hexadecimal digits of an Ed25519 key
  pub record HasNoDigits : Type 0 where
    pub scheme_is : object.scheme ≡ codes "ed25519"
    pub none : result_ok (decode_sized object.public 32) ≡ None

  -- its digits are no key (RFC 8032, section 5.1.3), or one of small order
  pub record HasNoEd25519Key : Type 0 where
    pub bytes : List ℕ
    pub scheme_is : object.scheme ≡ codes "ed25519"
    pub digits_are : decode_sized object.public 32 ≡ Ok bytes
    pub no_key : ¬ IsPublicKey bytes

  -- it has no readable PEM text of a public key (RFC 7468, section 13)
  pub record HasNoPemText : Type 0 where
    pub scheme_is : IsPemScheme object.scheme
    pub none : info_in object.public ≡ None

  -- its PEM text is no P-256 key (RFC 5480, section 2)
  pub record HasNoP256Key : Type 0 where
    pub info : List ℕ
    pub scheme_is : object.scheme ≡ codes "ecdsa-sha2-nistp256"
    pub info_is : info_in object.public ≡ Some info
    pub no_key : (key : P256Key) → IsP256Key key → info ≡ p256_info key → ⊥

  -- its PEM text is no P-384 key (RFC 5480, section 2)
  pub record HasNoP384Key : Type 0 where
    pub info : List ℕ
    pub scheme_is : object.scheme ≡ codes "ecdsa-sha2-nistp384"
    pub info_is : info_in object.public ≡ Some info
    pub no_key : (key : P384Key) → IsP384Key key → info ≡ p384_info key → ⊥

  -- its PEM text is no RSA key that is accepted (RFC 3279, section 2.3.1)
  pub record HasNoRsaKey : Type 0 where
    pub info : List ℕ
    pub scheme_is : object.scheme ≡ codes "rsassa-pss-sha256"
    pub info_is : info_in object.public ≡ Some info
    pub no_key : (key : RsaKey) → IsRsaKey key → info ≡ rsa_info key → ⊥

  -- it describes an identity (TAP 18)
  pub record IsOfIdentity : Type 0 where
    pub scheme_is : object.scheme ≡ codes "Fulcio"
    pub name : IsShort object.identity
    pub issuer : IsShort object.issuer

  -- its scheme is that of identities, and it describes none
  pub record HasNoIdentity : Type 0 where
    pub scheme_is : object.scheme ≡ codes "Fulcio"
    pub none : IsShort object.identity → IsShort object.issuer → ⊥

  -- the reason holds
  abbrev pub IsReason : Reason → Type 0
  IsReason (OtherScheme scheme) = IsOfOther scheme
  IsReason NoSecret = object.scheme ≡ codes "hmac-sha256"
  IsReason PublicKey = IsPublic
  IsReason NoDigits = HasNoDigits
  IsReason NoEd25519Key = HasNoEd25519Key
  IsReason NoPemText = HasNoPemText
  IsReason NoP256Key = HasNoP256Key
  IsReason NoP384Key = HasNoP384Key
  IsReason NoRsaKey = HasNoRsaKey
  IsReason Identity = IsOfIdentity
  IsReason NoIdentity = HasNoIdentity
