-- The test of an RSASSA-PSS signature beside its definition.
use Rattle.std.proofs.Common.{◌≡◌, ℕ, ◌-◌, ◌<◌, ◌^◌, List, refl, length, drop, replicate, slice_index}
use Rattle.std.proofs.Common.{nat_eq, ◌++◌}
use Rattle.std.specs.Bool.{Decides}
use Rattle.std.proofs.lemmas.Bool.Decides.{Decides-and, Decides-below_and, Decides-eqb}
use Rattle.std.proofs.lemmas.Bool.Decides.{Decides-like, Decides-ltb}
use Rattle.std.proofs.lemmas.Slice.Eq.{bytes_eq-Decides}
use Rattle.sha2.specs.Sha256.{sha256}
use Rattle.it_numbers.specs.Bytes.{big, big_bytes}
use Rattle.it_rsa.specs.Encoding.{IsEncoded, IsOpened, data_of, hash_of, low_bits}
use Rattle.it_rsa.specs.Key.{Key}
use Rattle.it_rsa.specs.Signature.{IsSignatureOfDigest, em_bits, em_length, representative}
use Rattle.it_public_keys.specs.RsaTest.{are_zeros, is_encoded, is_opened, is_rsa_signature}
use Rattle.it_public_keys.proofs.P256Tests.{le_decides}

zeros_decide : (bytes : List ℕ) (n : ℕ)
    → Decides (are_zeros bytes n) ((k : ℕ) → k < n → slice_index bytes k ≡ 0)
unfolding are_zeros
zeros_decide bytes n =
    Decides-below_and (λ k. nat_eq (slice_index bytes k) 0) (λ k. slice_index bytes k ≡ 0)
    (are_zeros bytes) (λ k. Decides-eqb (slice_index bytes k) 0) refl (λ k. refl) n

opened_decides : (digest db hash : List ℕ) → Decides (is_opened digest db hash)
    (IsOpened digest db hash)
unfolding is_opened
opened_decides digest db hash =
    Decides-like (is_opened digest db hash)
    (λ h. record { zeros = h.0; one = h.1.0; agrees = h.1.1 })
    (λ is. (is.zeros, (is.one, is.agrees)))
    (Decides-and _ _ (zeros_decide db (length db - 33))
    (Decides-and _ _ (Decides-eqb (slice_index db (length db - 33)) 1)
    (bytes_eq-Decides (sha256 (replicate 8 0 ++ digest ++ drop (length db - 32) db)) hash)))

encoded_decides : (digest em : List ℕ) (bits : ℕ) → Decides (is_encoded digest em bits)
    (IsEncoded digest em bits)
unfolding is_encoded
encoded_decides digest em bits =
    Decides-like (is_encoded digest em bits)
    (λ h. record { room = h.0; trailer = h.1.0; top_clear = h.1.1.0; opened = h.1.1.1 })
    (λ is. (is.room, (is.trailer, (is.top_clear, is.opened))))
    (Decides-and _ _ (le_decides 66 (length em))
    (Decides-and _ _ (Decides-eqb (slice_index em (length em - 1)) 0xbc)
    (Decides-and _ _ (Decides-ltb (slice_index em 0) (2 ^ low_bits em bits))
    (opened_decides digest (data_of em bits) (hash_of em)))))

pub rsa_decides : (key : Key) (digest signature : List ℕ)
    → Decides (is_rsa_signature key digest signature) (IsSignatureOfDigest key digest signature)
unfolding is_rsa_signature
rsa_decides key digest signature =
    Decides-like (is_rsa_signature key digest signature)
    (λ h. record { long = h.0; below = h.1.0; encoded = h.1.1 })
    (λ is. (is.long, (is.below, is.encoded)))
    (Decides-and _ _ (Decides-eqb (length signature) (length key.modulus))
    (Decides-and _ _ (Decides-ltb (big signature) (big key.modulus))
    (encoded_decides digest (big_bytes (em_length key) (representative key signature))
    (em_bits key))))
