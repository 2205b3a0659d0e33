-- Objects that describe RSA keys.
use Rattle.std.proofs.Common.{◌≡◌, ◌≢◌, ◌↔◌, ℕ, Bool, IsTrue, List, Option, Some, None, IfSome, Result, Ok, Err, IfOk, codes, subst, true}
use Rattle.std.proofs.lemmas.Bool.{and_from}
use Rattle.std.proofs.lemmas.Slice.Eq.{bytes_eq-Decides}
use Rattle.it_dsse.specs.declared.key_object.KeyObject.{KeyObject}
use Rattle.it_pem.specs.PublicKeyText.{info_in}
use Rattle.it_public_keys.specs.KeyText.{are_bytes}
use Rattle.it_public_keys.specs.declared.key.Key.TheVariants.{Rsa}
use Rattle.it_rsa.specs.Info.{info_of}
use Rattle.it_rsa.specs.Key.{Key}
use Rattle.it_rsa_forms.specs.Info.{IsInfoOf}
use Rattle.it_rsa_forms.specs.Pkcs1.{IsPkcs1Signature}
use Rattle.it_rsa_forms.specs.Pss.{IsPssOfSalt}
use Rattle.it_key_commands.specs.SignatureFlaw.{IsOtherSalt, IsPkcs1}
use Rattle.it_key_commands.specs.Signers.{Describes}

-- the key of the bytes in the object's text
rsa_described : (object : KeyObject) (info : List ℕ) (key : Key)
    → object.scheme ≡ codes "rsassa-pss-sha256" → Some info ≡ info_in object.public
    → IsInfoOf info key → Describes object (Rsa key)
rsa_described object info key scheme found has = record {
  written = and_from _ _ ((bytes_eq-Decides object.scheme (codes "rsassa-pss-sha256")).1 scheme)
      (subst (λ text. are_bytes text (info_of key) ≡ true) found
      ((bytes_eq-Decides info (info_of key)).1 has.info_is));
  is_key = has.is_key;
}

module _ (object : KeyObject) (info message signature : List ℕ)
    (scheme : object.scheme ≡ codes "rsassa-pss-sha256") (found : Some info ≡ info_in object.public)
  where
    -- what is said of a signature by the bytes of a key is said by the object
    pub pkcs1_by_object : {E : Type 0} (r : Result Bool E)
        → IfOk r (λ is. IsTrue is
        ↔ ((key : Key) × IsInfoOf info key × IsPkcs1Signature key message signature))
        → IfOk r (λ is. IsTrue is → IsPkcs1 object message signature)
    pkcs1_by_object (Ok is) told = λ yes.
        let by = told.0 yes in
        record {
          key = by.0;
          described = rsa_described object info by.0 scheme found by.1;
          signs = by.2;
        }
    pkcs1_by_object (Err e) told = tt

    pub salt_by_object : {E : Type 0} (r : Result (Option ℕ) E)
        → IfOk r (λ told. IfSome told (λ salt. (key : Key) × IsInfoOf info key
        × IsPssOfSalt key message signature salt × (salt ≢ 32)))
        → IfOk r (λ told. IfSome told (IsOtherSalt object message signature))
    salt_by_object (Ok (Some salt)) by = record {
      key = by.0;
      described = rsa_described object info by.0 scheme found by.1;
      signs = by.2;
      other = by.3;
    }
    salt_by_object (Ok None) by = tt
    salt_by_object (Err e) by = tt
