-- Digest sets in documents (in-toto Attestation v1, DigestSet).
use Rattle.std.specs.Prelude.{◌≡◌, ℕ, List, IsTrue, is_some, Option, Some, None, MatchOption}
use Rattle.std.specs.Prelude.{option_and_then}
use Rattle.std.specs.Result.{result_ok}
use Rattle.hex.specs.Hex.{decode_sized}
use Rattle.serde_json.specs.Data.{Data}
use Rattle.serde_json.specs.Find.{as_object, as_str}
use Rattle.it_base.specs.Document.{member_at}
use Rattle.it_digest.specs.DigestSet.{Algorithm, name_of, size_of, value_in}
use Rattle.it_digest.specs.declared.compare.DigestSet.{DigestSet}

-- the part is a text of exactly two hexadecimal digits (RFC 4648 section 8, either case) for each
-- of n bytes, and these are the bytes
abbrev pub IsDigest : ℕ → Data → List ℕ → Type 0
IsDigest n d bytes =
    option_and_then (λ text. result_ok (decode_sized text n)) (as_str d) ≡ Some bytes

-- the member of this name is such a digest, or there is no such member
abbrev pub HasDigest : ℕ → List ℕ → Data → Option (List ℕ) → Type 0
HasDigest n name d digest =
    MatchOption (member_at name d) (digest ≡ None)
    (λ v. (bytes : List ℕ) × (digest ≡ Some bytes) × IsDigest n v bytes)

-- a digest set in a document: each algorithm's value is the digest under its name; other algorithms
-- are ignored, whatever their value
pub record IsDigestSet (d : Data) (set : DigestSet) : Type 0 where
  pub is_object : IsTrue (is_some (as_object d))
  pub digests : (algorithm : Algorithm)
      → HasDigest (size_of algorithm) (name_of algorithm) d (value_in algorithm set)
