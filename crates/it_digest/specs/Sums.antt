-- Digest lists as `sha256sum` and `sha512sum` of the GNU core utilities write them: a line for each
-- file, with two hexadecimal digits for each byte of its digest, a space, a space (text) or a star
-- (binary), and the file's path. This profile's choices: digits of either case, paths in UTF-8, no
-- escaped paths, no path twice.
use Rattle.std.specs.Prelude.{◌≡◌, ◌≢◌, ◌⊎◌, ℕ, ◌-◌, ◌*◌, ◌==◌, if◌then◌else◌, List, [], ◌∷◌, ◌++◌}
use Rattle.std.specs.Prelude.{length, take, codes, Some, AllPairs}
use Rattle.std.specs.List.{AllZip, onto_first}
use Rattle.std.specs.Str.{IsUtf8}
use Rattle.std.specs.FinMap.{from_entries}
use Rattle.it_base.specs.HexadecimalText.{hexadecimal_decoded}
use Rattle.it_digest.specs.declared.compare.DigestSet.{DigestSet}
use Rattle.it_digest.specs.declared.sums.ListAlgorithm.{ListAlgorithm}
use Rattle.it_digest.specs.declared.sums.ListAlgorithm.TheVariants.{Sha256, Sha512}
use Rattle.it_digest.specs.Artifacts.{ArtifactMap}
use Rattle.it_digest.specs.DigestSet.{Algorithm, in_sha256, in_sha512, only, size_of}

-- the algorithm of a list's digests
abbrev pub algorithm_of : ListAlgorithm → Algorithm
algorithm_of Sha256 = in_sha256
algorithm_of Sha512 = in_sha512

-- how many digits a digest has
abbrev pub digit_count : Algorithm → ℕ
digit_count algorithm = 2 * size_of algorithm

-- the lines of a file: each ends with a line feed, which the last one may lack
abbrev pub lines_of : List ℕ → List (List ℕ)
lines_of [] = []
lines_of (byte ∷ rest) = if byte == 10 then [] ∷ lines_of rest else onto_first byte (lines_of rest)

-- a line is cut in two: the digits of a digest, which is all that this set has, and this text
pub record IsCut (algorithm : Algorithm) (line : List ℕ) (cut : DigestSet × List ℕ)
    : Type 0 where
  pub digits : List ℕ
  pub digest : List ℕ
  pub written : line ≡ digits ++ cut.1
  pub digits_many : length digits ≡ digit_count algorithm
  pub digest_is : hexadecimal_decoded digits ≡ Some digest
  pub digests_are : cut.0 ≡ only algorithm digest

-- what follows the digits: two spaces, or a space and a star, and then a path, which is not empty
pub record IsMarkedPath (text path : List ℕ) : Type 0 where
  pub written : (text ≡ codes "  " ++ path) ⊎ (text ≡ codes " *" ++ path)
  pub named : path ≢ []
  pub in_utf8 : IsUtf8 path

-- a line gives this path the digest that its digits encode
pub record IsSum (algorithm : Algorithm) (line : List ℕ) (entry : List ℕ × DigestSet)
    : Type 0 where
  pub text : List ℕ
  pub cut : IsCut algorithm line (entry.1, text)
  pub path_is : IsMarkedPath text entry.0

-- the lines give these entries, one each, and no path occurs twice
pub record AreSums (algorithm : Algorithm) (lines : List (List ℕ))
    (entries : List (List ℕ × DigestSet)) : Type 0 where
  pub each_gives : AllZip (IsSum algorithm) lines entries
  pub paths_differ : AllPairs (λ e f. e.0 ≢ f.0) entries

-- the map that a digest list describes
pub record SumsOf (algorithm : Algorithm) (bytes : List ℕ) (sums : ArtifactMap) : Type 0 where
  pub entries : List (List ℕ × DigestSet)
  pub are_sums : AreSums algorithm (lines_of bytes) entries
  pub map_is : sums ≡ from_entries entries

-- the first bad line, counted from 1: the lines before it are good, and with it they are not
pub record IsFirstBadLine (algorithm : Algorithm) (bytes : List ℕ) (number : ℕ) : Type 0 where
  pub entries : List (List ℕ × DigestSet)
  pub good_before : AreSums algorithm (take (number - 1) (lines_of bytes)) entries
  pub bad : (more : List (List ℕ × DigestSet))
      → ¬ AreSums algorithm (take number (lines_of bytes)) more
