-- Public keys in a SubjectPublicKeyInfo, in DER (X.690).
use Rattle.std.specs.Prelude.{ℕ, ◌^◌, List, [], ◌∷◌, ◌++◌, length, nat_lt, if◌then◌else◌}
use Rattle.it_numbers.specs.Bytes.{big_bytes}
use Rattle.it_rsa.specs.Key.{Key}

-- contents of 256 to 65,535 bytes after their tag and their length (X.690, section 8.1.3.5): 130
-- says that the length has two bytes
abbrev pub long_form : ℕ → List ℕ → List ℕ
long_form tag contents = tag ∷ 130 ∷ big_bytes 2 (length contents) ++ contents

-- the algorithm rsaEncryption, 1.2.840.113549.1.1.1, with NULL (RFC 3279, section 2.3.1)
abbrev pub rsa_encryption : List ℕ
rsa_encryption = 48 ∷ 13 ∷ 6 ∷ 9 ∷ 42 ∷ 134 ∷ 72 ∷ 134 ∷ 247 ∷ 13 ∷ 1 ∷ 1 ∷ 1 ∷ 5 ∷ 0 ∷ []

-- a SEQUENCE of two INTEGERs (RFC 8017, section A.1.1). A 0 comes before the modulus, since its
-- first bit is set and it is not negative
abbrev pub key_sequence : List ℕ → List ℕ → List ℕ
key_sequence modulus exponent = long_form 48 (long_form 2 (0 ∷ modulus)
    ++ (2 ∷ length exponent ∷ exponent))

-- a SEQUENCE of the algorithm and a BIT STRING of that sequence, with no unused bits (RFC 5280,
-- section 4.1.2.7)
unfoldable pub info_with : List ℕ → List ℕ → List ℕ
info_with modulus exponent = long_form 48 (rsa_encryption ++ long_form 3
    (0 ∷ key_sequence modulus exponent))

-- the fewest bytes that hold a number below 2 ^ 31 with a first bit that is 0 (X.690, section 8.3)
abbrev pub integer_length : ℕ → ℕ
integer_length n =
    (if nat_lt n (2 ^ 7) then 1 else (if nat_lt n (2 ^ 15) then 2 else
    (if nat_lt n (2 ^ 23) then 3 else 4)))

abbrev pub exponent_bytes : ℕ → List ℕ
exponent_bytes exponent = big_bytes (integer_length exponent) exponent

-- the SubjectPublicKeyInfo of a key
abbrev pub info_of : Key → List ℕ
info_of key = info_with key.modulus (exponent_bytes key.exponent)
