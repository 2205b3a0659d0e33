-- Which objects describe a public key.
use Rattle.std.proofs.Common.{◌≡◌, ℕ, List, Ok, Some, codes, refl}
use Rattle.std.proofs.lemmas.Slice.Eq.{bytes_eq-Decides}
use Rattle.hex.specs.Hex.{decode_sized}
use Rattle.it_dsse.specs.declared.key_object.KeyObject.{KeyObject}
use Rattle.it_ed25519.specs.PublicKey.{IsPublicKey}
use Rattle.it_p256.specs.Key.{Key as P256Key, IsKey as IsP256Key, info_of as p256_info}
use Rattle.it_p384.specs.Key.{Key as P384Key, IsKey as IsP384Key, info_of as p384_info}
use Rattle.it_pem.specs.PublicKeyText.{info_in}
use Rattle.it_rsa.specs.Info.{info_of as rsa_info}
use Rattle.it_rsa.specs.Key.{Key as RsaKey, IsKey as IsRsaKey}
use Rattle.it_public_keys.specs.declared.key.Key.TheVariants.{Ed25519, P256, P384, Rsa}
use Rattle.it_key_notes.specs.Reasons.{IsPublic}

module _ (object : KeyObject) where
  pub ed25519_described : (bytes : List ℕ) → object.scheme ≡ codes "ed25519"
      → decode_sized object.public 32 ≡ Ok bytes → IsPublicKey bytes → IsPublic object
  ed25519_described bytes scheme digits is = record {
    key = Ed25519 bytes;
    is_key = is;
    described = rw (scheme, digits) ((bytes_eq-Decides bytes bytes).1 refl);
  }

  pub p256_described : (info : List ℕ) (key : P256Key)
      → object.scheme ≡ codes "ecdsa-sha2-nistp256" → info_in object.public ≡ Some info
      → IsP256Key key → info ≡ p256_info key → IsPublic object
  p256_described info key scheme text is same = record {
    key = P256 key;
    is_key = is;
    described = rw (scheme, text) ((bytes_eq-Decides info (p256_info key)).1 same);
  }

  pub p384_described : (info : List ℕ) (key : P384Key)
      → object.scheme ≡ codes "ecdsa-sha2-nistp384" → info_in object.public ≡ Some info
      → IsP384Key key → info ≡ p384_info key → IsPublic object
  p384_described info key scheme text is same = record {
    key = P384 key;
    is_key = is;
    described = rw (scheme, text) ((bytes_eq-Decides info (p384_info key)).1 same);
  }

  pub rsa_described : (info : List ℕ) (key : RsaKey)
      → object.scheme ≡ codes "rsassa-pss-sha256" → info_in object.public ≡ Some info
      → IsRsaKey key → info ≡ rsa_info key → IsPublic object
  rsa_described info key scheme text is same = record {
    key = Rsa key;
    is_key = is;
    described = rw (scheme, text) ((bytes_eq-Decides info (rsa_info key)).1 same);
  }
