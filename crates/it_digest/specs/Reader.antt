-- The digest of what a reader gives. `old` and `new` are the bytes that the reader has left before
-- and after, where they are known.
use Rattle.std.specs.Prelude.{◌≡◌, ℕ, ◌<◌, ◌≤◌, List, length, Option}
use Rattle.std.specs.Io.KnownBytes.{Consumes, IsAtEnd}
use Rattle.sha2.specs.Sha256.{sha256}
use Rattle.sha2.specs.Sha512.{sha384, sha512}
use Rattle.it_digest.specs.DigestSet.{Algorithm, in_sha256, in_sha384, in_sha512}

-- the digest of some bytes under an algorithm (FIPS 180-4)
abbrev pub digest_by : Algorithm → List ℕ → List ℕ
digest_by in_sha256 bytes = sha256 bytes
digest_by in_sha384 bytes = sha384 bytes
digest_by in_sha512 bytes = sha512 bytes

-- the reader reached its end, gave at most limit bytes on the way, and this is their digest
pub record IsDigestOfRest (algorithm : Algorithm) (old new : Option (List ℕ)) (limit : ℕ)
    (digest : List ℕ) : Type 0 where
  pub bytes : List ℕ
  pub given : Consumes old new bytes
  pub at_end : IsAtEnd new
  pub within_limit : length bytes ≤ limit
  pub digest_is : digest ≡ digest_by algorithm bytes

-- the reader gave more than limit bytes
pub record GaveMoreThan (old new : Option (List ℕ)) (limit : ℕ) : Type 0 where
  pub bytes : List ℕ
  pub given : Consumes old new bytes
  pub beyond_limit : limit < length bytes

-- the reader gave at most limit bytes
pub record GaveAtMost (old new : Option (List ℕ)) (limit : ℕ) : Type 0 where
  pub bytes : List ℕ
  pub given : Consumes old new bytes
  pub within_limit : length bytes ≤ limit
