-- The key of an object beside what the object describes.
use Rattle.std.proofs.Common.{◌≡◌, ◌∙◌, ◌↔◌, ℕ, ◌&&◌, List, Bool, true, false, IsTrue, Option, Some, None}
use Rattle.std.proofs.Common.{codes, if◌then◌else◌, option_and_then, ap, refl, sym, subst}
use Rattle.std.specs.Result.{result_ok}
use Rattle.std.specs.Str.{bytes_eq}
use Rattle.std.proofs.lemmas.Slice.Eq.{bytes_eq-Decides}
use Rattle.hex.specs.Hex.{decode_sized}
use Rattle.it_dsse.specs.declared.key_object.KeyObject.{KeyObject}
use Rattle.it_p256.specs.Key.{info_of as p256_info}
use Rattle.it_p384.specs.Key.{info_of as p384_info}
use Rattle.it_pem.specs.PublicKeyText.{info_in}
use Rattle.it_rsa.specs.Info.{info_of as rsa_info}
use Rattle.it_public_keys.specs.DecodedKeys.{ed25519_key, key_in, p256_key, p384_key}
use Rattle.it_public_keys.specs.DecodedKeys.{rsa_key}
use Rattle.it_public_keys.specs.KeyText.{are_bytes, describes}
use Rattle.it_public_keys.specs.Keys.{IsKey}
use Rattle.it_public_keys.specs.declared.key.Key.{Key}
use Rattle.it_public_keys.specs.declared.key.Key.TheVariants.{Ed25519, P256, P384, Rsa}
use Rattle.it_public_keys.proofs.DecodedKeys.{ed25519_decoded, ed25519_there, p256_decoded}
use Rattle.it_public_keys.proofs.DecodedKeys.{p256_there, p384_decoded, p384_there}
use Rattle.it_public_keys.proofs.DecodedKeys.{rsa_decoded, rsa_there}

-- the key of four schemes, and whether the object has a key's scheme and gives it
module _ (ed25519 p256 p384 rsa : Bool) (digits info : Option (List ℕ)) where
  abbrev taken : Option Key
  taken = if ed25519 then option_and_then ed25519_key digits
      else (if p256 then option_and_then p256_key info
      else (if p384 then option_and_then p384_key info
      else (if rsa then option_and_then rsa_key info else None)))

  abbrev given : Key → Bool
  given (Ed25519 bytes) = ed25519 && are_bytes digits bytes
  given (P256 key) = p256 && are_bytes info (p256_info key)
  given (P384 key) = p384 && are_bytes info (p384_info key)
  given (Rsa key) = rsa && are_bytes info (rsa_info key)

same_bytes : (bytes others : List ℕ) → bytes ≡ others → bytes_eq bytes others ≡ true
same_bytes bytes others = (bytes_eq-Decides bytes others).1

-- what is taken is given
taken_given : (ed25519 p256 p384 rsa : Bool) (digits info : Option (List ℕ)) (key : Key)
    → taken ed25519 p256 p384 rsa digits info ≡ Some key
    → IsKey key × IsTrue (given ed25519 p256 p384 rsa digits info key)
taken_given true p256 p384 rsa None info key e = cc
taken_given true p256 p384 rsa (Some bytes) info key e =
    let found = ed25519_decoded bytes key e in
    subst (λ k. IsKey k × IsTrue (given true p256 p384 rsa (Some bytes) info k)) found.key_is
    (found.is, same_bytes bytes bytes refl)
taken_given false true p384 rsa digits None key e = cc
taken_given false true p384 rsa digits (Some text) key e =
    let found = p256_decoded text key e in
    subst (λ k. IsKey k × IsTrue (given false true p384 rsa digits (Some text) k)) found.key_is
    (found.is, same_bytes text (p256_info found.numbers) found.info_is)
taken_given false false true rsa digits None key e = cc
taken_given false false true rsa digits (Some text) key e =
    let found = p384_decoded text key e in
    subst (λ k. IsKey k × IsTrue (given false false true rsa digits (Some text) k)) found.key_is
    (found.is, same_bytes text (p384_info found.numbers) found.info_is)
taken_given false false false true digits None key e = cc
taken_given false false false true digits (Some text) key e =
    let found = rsa_decoded text key e in
    subst (λ k. IsKey k × IsTrue (given false false false true digits (Some text) k)) found.key_is
    (found.is, same_bytes text (rsa_info found.numbers) found.info_is)
taken_given false false false false digits info key e = cc

-- no two of the schemes are one
record AreApart (ed25519 p256 p384 rsa : Bool) : Type 0 where
  p256_alone : p256 ≡ true → ed25519 ≡ false
  p384_alone : p384 ≡ true → (ed25519 ≡ false) × (p256 ≡ false)
  rsa_alone : rsa ≡ true → (ed25519 ≡ false) × (p256 ≡ false) × (p384 ≡ false)

-- and what is given is taken, where no two schemes are one
given_taken : (ed25519 p256 p384 rsa : Bool) (digits info : Option (List ℕ)) (key : Key)
    → AreApart ed25519 p256 p384 rsa → IsKey key
    → IsTrue (given ed25519 p256 p384 rsa digits info key)
    → taken ed25519 p256 p384 rsa digits info ≡ Some key
given_taken true p256 p384 rsa None info (Ed25519 bytes) alone is fit = cc
given_taken true p256 p384 rsa (Some found) info (Ed25519 bytes) alone is fit =
    let same : found ≡ bytes = (bytes_eq-Decides found bytes).0 fit in
    ap ed25519_key same ∙ ed25519_there bytes is
given_taken false p256 p384 rsa digits info (Ed25519 bytes) alone is fit = cc
given_taken true true p384 rsa digits info (P256 key) alone is fit =
    let clash : true ≡ false = alone.p256_alone refl in absurd (cc)
given_taken false true p384 rsa digits None (P256 key) alone is fit = cc
given_taken false true p384 rsa digits (Some text) (P256 key) alone is fit =
    p256_there text key is ((bytes_eq-Decides text (p256_info key)).0 fit)
given_taken ed25519 false p384 rsa digits info (P256 key) alone is fit = cc
given_taken true p256 true rsa digits info (P384 key) alone is fit =
    let clash : true ≡ false = (alone.p384_alone refl).0 in absurd (cc)
given_taken false true true rsa digits info (P384 key) alone is fit =
    let clash : true ≡ false = (alone.p384_alone refl).1 in absurd (cc)
given_taken false false true rsa digits None (P384 key) alone is fit = cc
given_taken false false true rsa digits (Some text) (P384 key) alone is fit =
    p384_there text key is ((bytes_eq-Decides text (p384_info key)).0 fit)
given_taken ed25519 p256 false rsa digits info (P384 key) alone is fit = cc
given_taken true p256 p384 true digits info (Rsa key) alone is fit =
    let clash : true ≡ false = (alone.rsa_alone refl).0 in absurd (cc)
given_taken false true p384 true digits info (Rsa key) alone is fit =
    let clash : true ≡ false = (alone.rsa_alone refl).1 in absurd (cc)
given_taken false false true true digits info (Rsa key) alone is fit =
    let clash : true ≡ false = (alone.rsa_alone refl).2 in absurd (cc)
given_taken false false false true digits None (Rsa key) alone is fit = cc
given_taken false false false true digits (Some text) (Rsa key) alone is fit =
    rsa_there text key is ((bytes_eq-Decides text (rsa_info key)).0 fit)
given_taken ed25519 p256 p384 false digits info (Rsa key) alone is fit = cc

-- one text is not another
apart : (text one other : List ℕ) → bytes_eq one other ≡ false → bytes_eq text one ≡ true
    → bytes_eq text other ≡ false
apart text one other differ is =
    ap (λ t. bytes_eq t other) ((bytes_eq-Decides text one).0 is) ∙ differ

schemes_apart : (scheme : List ℕ)
    → AreApart (bytes_eq scheme (codes "ed25519")) (bytes_eq scheme (codes "ecdsa-sha2-nistp256"))
    (bytes_eq scheme (codes "ecdsa-sha2-nistp384")) (bytes_eq scheme (codes "rsassa-pss-sha256"))
schemes_apart scheme = record {
  p256_alone = apart scheme (codes "ecdsa-sha2-nistp256") (codes "ed25519") refl;
  p384_alone = λ is. (
    apart scheme (codes "ecdsa-sha2-nistp384") (codes "ed25519") refl is,
    apart scheme (codes "ecdsa-sha2-nistp384") (codes "ecdsa-sha2-nistp256") refl is,
  );
  rsa_alone = λ is. (
    apart scheme (codes "rsassa-pss-sha256") (codes "ed25519") refl is,
    apart scheme (codes "rsassa-pss-sha256") (codes "ecdsa-sha2-nistp256") refl is,
    apart scheme (codes "rsassa-pss-sha256") (codes "ecdsa-sha2-nistp384") refl is,
  );
}

module _ (object : KeyObject) where
  given_as : (key : Key) → describes object key
      ≡ given (bytes_eq object.scheme (codes "ed25519"))
      (bytes_eq object.scheme (codes "ecdsa-sha2-nistp256"))
      (bytes_eq object.scheme (codes "ecdsa-sha2-nistp384"))
      (bytes_eq object.scheme (codes "rsassa-pss-sha256"))
      (result_ok (decode_sized object.public 32)) (info_in object.public) key
  given_as (Ed25519 bytes) = refl
  given_as (P256 key) = refl
  given_as (P384 key) = refl
  given_as (Rsa key) = refl

  pub decoded_is_described : (key : Key)
      → (key_in object ≡ Some key) ↔ (IsKey key × IsTrue (describes object key))
  decoded_is_described key = (
    λ e. (let both = taken_given (bytes_eq object.scheme (codes "ed25519"))
        (bytes_eq object.scheme (codes "ecdsa-sha2-nistp256"))
        (bytes_eq object.scheme (codes "ecdsa-sha2-nistp384"))
        (bytes_eq object.scheme (codes "rsassa-pss-sha256"))
        (result_ok (decode_sized object.public 32)) (info_in object.public) key e in
        (both.0, given_as key ∙ both.1)),
    λ both. given_taken (bytes_eq object.scheme (codes "ed25519"))
        (bytes_eq object.scheme (codes "ecdsa-sha2-nistp256"))
        (bytes_eq object.scheme (codes "ecdsa-sha2-nistp384"))
        (bytes_eq object.scheme (codes "rsassa-pss-sha256"))
        (result_ok (decode_sized object.public 32)) (info_in object.public) key
        (schemes_apart object.scheme) both.0 (sym (given_as key) ∙ both.1),
  )
