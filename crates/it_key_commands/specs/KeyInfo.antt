-- Public keys as a SubjectPublicKeyInfo (RFC 5280, section 4.1.2.7), in DER (X.690).
use Rattle.std.specs.Prelude.{◌≡◌, ◌≢◌, ◌==◌, ℕ, List, [], ◌∷◌, ◌++◌, Bool, drop, if◌then◌else◌}
use Rattle.std.specs.Prelude.{length, nat_eq, slice_index}
use Rattle.std.specs.List.{starts_with}
use Rattle.it_p256.specs.Key.{info_of as p256_info, key_identifier}
use Rattle.it_p384.specs.Key.{info_of as p384_info}
use Rattle.it_rsa.specs.Info.{info_of as rsa_info}
use Rattle.it_public_keys.specs.Keys.{IsKey}
use Rattle.it_public_keys.specs.declared.key.Key.{Key}
use Rattle.it_public_keys.specs.declared.key.Key.TheVariants.{Ed25519, P256, P384, Rsa}

-- the SubjectPublicKeyInfo of an Ed25519 key (RFC 8410, section 4): two lengths, the algorithm
-- 1.3.101.112, and the 32 bytes of the key
abbrev pub ed25519_info : List ℕ → List ℕ
ed25519_info key =
    (48 ∷ 42 ∷ 48 ∷ 5 ∷ 6 ∷ 3 ∷ 43 ∷ 101 ∷ 112 ∷ 3 ∷ 33 ∷ 0 ∷ []) ++ key

-- the SubjectPublicKeyInfo of a key, by its kind
abbrev pub key_info : Key → List ℕ
key_info (Ed25519 key) = ed25519_info key
key_info (P256 key) = p256_info key
key_info (P384 key) = p384_info key
key_info (Rsa key) = rsa_info key

-- it is not a key's info
abbrev pub IsNoKeyInfo : List ℕ → Type 0
IsNoKeyInfo info = (key : Key) → IsKey key → info ≢ key_info key

-- it does not have the form of an Ed25519 key
abbrev pub IsNoEd25519Info : List ℕ → Type 0
IsNoEd25519Info info = (bytes : List ℕ) → length bytes ≡ 32 → info ≢ ed25519_info bytes

-- how many bytes a tag and a length take (X.690, section 8.1.3): two, or one or two more where 129
-- or 130 says that the length itself takes that many
abbrev pub header_length : ℕ → ℕ
header_length n = if n == 129 then 3 else (if n == 130 then 4 else 2)

-- what follows the tag and the length with which bytes begin
unfoldable pub contents_of : List ℕ → List ℕ
contents_of bytes = drop (header_length (slice_index bytes 1)) bytes

-- the first object identifier of a SubjectPublicKeyInfo, which names the algorithm of its key, is
-- this one
abbrev pub names_algorithm : List ℕ → List ℕ → Bool
names_algorithm info identifier =
    starts_with nat_eq (contents_of (contents_of info)) identifier

-- rsaEncryption, 1.2.840.113549.1.1.1 (RFC 3279, section 2.3.1)
abbrev pub rsa_identifier : List ℕ
rsa_identifier = 6 ∷ 9 ∷ 42 ∷ 134 ∷ 72 ∷ 134 ∷ 247 ∷ 13 ∷ 1 ∷ 1 ∷ 1 ∷ []

-- it names RSA, or elliptic-curve keys (RFC 5480, section 2.1.1)
abbrev pub names_rsa : List ℕ → Bool
names_rsa info = names_algorithm info rsa_identifier

abbrev pub names_curves : List ℕ → Bool
names_curves info = names_algorithm info key_identifier

-- the same of keys of a curve, of which the object identifier follows: of P-256, P-384 and P-521
-- (RFC 5480, section 2.1.1.1), and of secp256k1 (SEC 2, appendix A.2)
abbrev pub names_p256 : List ℕ → Bool
names_p256 info = names_algorithm info
    (key_identifier ++ 6 ∷ 8 ∷ 42 ∷ 134 ∷ 72 ∷ 206 ∷ 61 ∷ 3 ∷ 1 ∷ 7 ∷ [])

abbrev pub names_p384 : List ℕ → Bool
names_p384 info = names_algorithm info (key_identifier ++ 6 ∷ 5 ∷ 43 ∷ 129 ∷ 4 ∷ 0 ∷ 34 ∷ [])

abbrev pub names_p521 : List ℕ → Bool
names_p521 info = names_algorithm info (key_identifier ++ 6 ∷ 5 ∷ 43 ∷ 129 ∷ 4 ∷ 0 ∷ 35 ∷ [])

abbrev pub names_secp256k1 : List ℕ → Bool
names_secp256k1 info = names_algorithm info (key_identifier ++ 6 ∷ 5 ∷ 43 ∷ 129 ∷ 4 ∷ 0 ∷ 10 ∷ [])
