-- A line of a digest list, as `sha256sum` and `sha512sum` of the GNU core utilities write it.
use Rattle.std.specs.Prelude.{◌≡◌, ℕ, List, ◌++◌, Option, codes, Contains}
use Rattle.hex.specs.Hex.{encode_lower}
use Rattle.it_digest.specs.DigestSet.{Algorithm}
use Rattle.it_digest.specs.Reader.{IsDigestOfRest}
use Rattle.it_outcome.specs.declared.outcome.RunFault.{RunFault}
use Rattle.it_outcome.specs.declared.outcome.RunFault.TheVariants.{
  BadName,
  Digest,
  OutOfMemory,
  Write,
}

-- the digest in lower-case hexadecimal digits, two spaces, the name as it is given, a line feed
abbrev pub digest_line : List ℕ → List ℕ → List ℕ
digest_line digest name = encode_lower digest ++ codes "  " ++ name ++ codes "\n"

-- the name cannot be in a digest list: it has a line feed
abbrev pub HasLineFeed : List ℕ → Type 0
HasLineFeed name = Contains name 10

-- the text is the line of what the reader gave, by an algorithm: old and new are the bytes that it
-- has left before and after, where they are known
pub record IsDigestLine (algorithm : Algorithm) (old new : Option (List ℕ)) (limit : ℕ)
    (name text : List ℕ) : Type 0 where
  pub digest : List ℕ
  pub digest_is : IsDigestOfRest algorithm old new limit digest
  pub text_is : text ≡ digest_line digest name
  pub listable : ¬ HasLineFeed name

-- a fault that the command may have: one of its output, or that the name or the file has no line
abbrev pub IsDigestFault : RunFault → Type 0
IsDigestFault Write = Unit {0}
IsDigestFault OutOfMemory = Unit {0}
IsDigestFault BadName = Unit {0}
IsDigestFault (Digest fault) = Unit {0}
IsDigestFault other = ⊥
