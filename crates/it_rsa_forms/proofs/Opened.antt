-- Signatures, and the encoded messages that they open to.
use Rattle.std.proofs.Common.{◌≡◌, ◌∙◌, ◌-◌, ◌*◌, ◌≤◌, ◌↔◌, Bool, IsTrue, ℕ, List, Option, None, Some, MatchOption, Result, Ok, Err, IfOk, ap, arith, length, subst, sym}
use Rattle.sha2.specs.Sha256.{sha256}
use Rattle.it_numbers.specs.Bytes.{big_bytes}
use Rattle.it_numbers.proofs.Big.{length-big_bytes}
use Rattle.it_rsa.specs.Key.{Key}
use Rattle.it_rsa.specs.Signature.{em_bits, em_length, representative}
use Rattle.it_rsa_forms.specs.Info.{IsInfoOf}
use Rattle.it_rsa_forms.specs.Pkcs1.{IsPkcs1Signature, encoding_of}
use Rattle.it_rsa_forms.specs.Pss.{IsEncodedOfSalt, IsPssOfSalt}
use Rattle.it_rsa_forms.specs.inside.Opening.{OpensTo}
use Rattle.it_rsa_forms.proofs.KeyBytes.{one_key}

module _ (info signature em : List ℕ) (opens : OpensTo info signature em) where
  pub em_long : length em ≡ length opens.key.modulus
  em_long = ap length opens.em_is ∙ length-big_bytes (length opens.key.modulus)
      (representative opens.key signature)

  pub em_least : 256 ≤ length em
  em_least = let least = opens.has.is_key.least in omega (arith, em_long, least)

  pub em_most : length em ≤ 512
  em_most = let most = opens.has.is_key.most in omega (arith, em_long, most)

  -- the encoding of an RSASSA-PKCS1-v1_5 signature is the one of that size
  pub pkcs1_judged : {E : Type 0} (message : List ℕ) (r : Result Bool E)
      → IfOk r (λ is. IsTrue is ↔ (em ≡ encoding_of (sha256 message) (length em)))
      → IfOk r (λ is. IsTrue is
      ↔ ((key : Key) × IsInfoOf info key × IsPkcs1Signature key message signature))
  pkcs1_judged message (Ok is) judged =
      let key = opens.key in
      let size = ap (encoding_of (sha256 message)) em_long in (
        λ yes. (
          key,
          opens.has,
          record {
            long = opens.number.long;
            below = opens.number.below;
            encoded = sym opens.em_is ∙ judged.0 yes ∙ size;
          },
        ),
        λ found.
            let same : IsPkcs1Signature key message signature =
            subst (λ k. IsPkcs1Signature k message signature)
            (one_key info found.0 key found.1 opens.has) found.2 in
            judged.1 (opens.em_is ∙ same.encoded ∙ sym size),
      )
  pkcs1_judged message (Err e) judged = tt

  bits_are : 8 * length em - 1 ≡ em_bits opens.key
  bits_are = ap (λ (n : ℕ). 8 * n - 1) em_long

  bytes_are : em ≡ big_bytes (em_length opens.key) (representative opens.key signature)
  bytes_are =
      let least = opens.has.is_key.least in
      let size : em_length opens.key ≡ length opens.key.modulus = omega (arith, least) in
      opens.em_is ∙ ap (λ (n : ℕ). big_bytes n (representative opens.key signature)) (sym size)

  of_em : (salt : ℕ) (digest : List ℕ) → IsEncodedOfSalt salt digest em (8 * length em - 1)
      → IsEncodedOfSalt salt digest
      (big_bytes (em_length opens.key) (representative opens.key signature)) (em_bits opens.key)
  of_em salt digest encoded =
      subst (λ (e : List ℕ). IsEncodedOfSalt salt digest e (em_bits opens.key)) bytes_are
      (subst (λ (n : ℕ). IsEncodedOfSalt salt digest em n) bits_are encoded)

  to_em : (salt : ℕ) (digest : List ℕ) → IsEncodedOfSalt salt digest
      (big_bytes (em_length opens.key) (representative opens.key signature)) (em_bits opens.key)
      → IsEncodedOfSalt salt digest em (8 * length em - 1)
  to_em salt digest encoded =
      subst (λ (n : ℕ). IsEncodedOfSalt salt digest em n) (sym bits_are)
      (subst (λ (e : List ℕ). IsEncodedOfSalt salt digest e (em_bits opens.key)) (sym bytes_are)
      encoded)

  -- and that of an RSASSA-PSS signature has its salt
  pss_found : (message : List ℕ) (found : Option ℕ)
      → MatchOption found
      ((salt : ℕ) → IsEncodedOfSalt salt (sha256 message) em (8 * length em - 1) → ⊥)
      (λ salt. IsEncodedOfSalt salt (sha256 message) em (8 * length em - 1))
      → MatchOption found
      ((key : Key) (salt : ℕ) → IsInfoOf info key → IsPssOfSalt key message signature salt → ⊥)
      (λ salt. (key : Key) × IsInfoOf info key × IsPssOfSalt key message signature salt)
  pss_found message None none = λ key salt has is.
      let same : IsPssOfSalt opens.key message signature salt =
      subst (λ k. IsPssOfSalt k message signature salt) (one_key info key opens.key has opens.has)
      is in
      none salt (to_em salt (sha256 message) same.encoded)
  pss_found message (Some salt) found = (
    opens.key,
    opens.has,
    record {
      long = opens.number.long;
      below = opens.number.below;
      encoded = of_em salt (sha256 message) found;
    },
  )

  pub pss_judged : {E : Type 0} (message : List ℕ) (r : Result (Option ℕ) E)
      → IfOk r (λ found. MatchOption found
      ((salt : ℕ) → IsEncodedOfSalt salt (sha256 message) em (8 * length em - 1) → ⊥)
      (λ salt. IsEncodedOfSalt salt (sha256 message) em (8 * length em - 1)))
      → IfOk r (λ found. MatchOption found
      ((key : Key) (salt : ℕ) → IsInfoOf info key → IsPssOfSalt key message signature salt → ⊥)
      (λ salt. (key : Key) × IsInfoOf info key × IsPssOfSalt key message signature salt))
  pss_judged message (Ok found) judged = pss_found message found judged
  pss_judged message (Err e) judged = tt
