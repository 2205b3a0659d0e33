-- What a certificate log signed (RFC 6962, section 3.2: digitally-signed, with the entry of a
-- precertificate).
use Rattle.std.specs.Prelude.{ℕ, ◌/◌, ◌%◌, List, [], ◌∷◌, ◌++◌, length}
use Rattle.sha2.specs.Sha256.{sha256}
use Rattle.it_certificate_log.specs.Counted.{counted}
use Rattle.it_certificate_log.specs.Timestamp.{Stamp}

-- a number below 2 ^ 24, highest byte first
abbrev pub three_bytes : ℕ → List ℕ
three_bytes n = (n / 65536) ∷ (n / 256 % 256) ∷ (n % 256) ∷ []

-- version 1 and the kind of the signature, both 0; the moment; the kind of the entry, 1; the
-- SHA-256 of the issuer's key, which is a SubjectPublicKeyInfo; after its length what the
-- certificate's own signature is of, without its timestamps; and the extensions of the timestamp
abbrev pub signed_text : List ℕ → List ℕ → Stamp → List ℕ
signed_text issuer_key bare s = 0 ∷ 0 ∷ [] ++ s.moment ++ 0 ∷ 1 ∷ [] ++ sha256 issuer_key
    ++ three_bytes (length bare) ++ bare ++ counted s.extensions
