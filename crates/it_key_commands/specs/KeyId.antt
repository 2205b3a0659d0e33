-- The ids of keys, as in-toto's tools form them (securesystemslib, to which in-toto 1.0 leaves
-- them): the SHA-256 of a canonical JSON text.
use Rattle.std.specs.Prelude.{ℕ, List, [], ◌∷◌, ◌++◌, ◌==◌, ◌||◌, codes, length, if◌then◌else◌}
use Rattle.std.specs.List.{flat_map}
use Rattle.hex.specs.Hex.{encode_lower}
use Rattle.sha2.specs.Sha256.{sha256}
use Rattle.it_dsse.specs.declared.key_object.KeyObject.{KeyObject}

-- a byte of a text, with a backslash before it if it is a quotation mark or a backslash
abbrev pub escaped : ℕ → List ℕ
escaped byte = if byte == 34 || byte == 92 then 92 ∷ byte ∷ [] else byte ∷ []

-- a text between quotation marks
unfoldable pub quoted : List ℕ → List ℕ
quoted text = codes "\"" ++ flat_map escaped text ++ codes "\""

-- the members of the `keyval` of a key object: the public key, or those of an identity, where
-- there is one (TAP 18)
abbrev pub keyval_text : KeyObject → List ℕ
keyval_text object =
    if length object.identity == 0 then codes "\"public\":" ++ quoted object.public
    else codes "\"identity\":" ++ quoted object.identity
    ++ codes ",\"issuer\":" ++ quoted object.issuer

-- the canonical JSON text of a key object: its members and the hash algorithms of its id, in the
-- order of their bytes, with no space
unfoldable pub id_text : KeyObject → List ℕ
id_text object =
    codes "{\"keyid_hash_algorithms\":[\"sha256\",\"sha512\"],\"keytype\":"
    ++ quoted object.keytype
    ++ codes ",\"keyval\":{" ++ keyval_text object
    ++ codes "},\"scheme\":" ++ quoted object.scheme ++ codes "}"

-- the id of a key object, in lower-case hexadecimal digits
unfoldable pub key_id : KeyObject → List ℕ
key_id object = encode_lower (sha256 (id_text object))
