-- Digest sets as words for people (this project's words).
use Rattle.std.specs.Prelude.{ℕ, List, [], ◌++◌, Option, None, Some, codes}
use Rattle.hex.specs.Hex.{encode_lower}
use Rattle.it_digest.specs.declared.compare.DigestSet.{DigestSet}

-- the digest under an algorithm, if any: the algorithm's name and the lower-case hexadecimal digits
abbrev pub digest_form : List ℕ → Option (List ℕ) → List ℕ
digest_form name None = []
digest_form name (Some digest) = codes " " ++ name ++ codes " " ++ encode_lower digest

-- the name of the algorithm alone, if there is a digest under it
abbrev pub algorithm_form : List ℕ → Option (List ℕ) → List ℕ
algorithm_form name None = []
algorithm_form name (Some digest) = codes " " ++ name

-- all digests of a set
unfoldable pub digests_form : DigestSet → List ℕ
digests_form set =
    digest_form (codes "sha256") set.sha256 ++ digest_form (codes "sha384") set.sha384
    ++ digest_form (codes "sha512") set.sha512

-- the names of the algorithms of a set
unfoldable pub algorithms_form : DigestSet → List ℕ
algorithms_form set =
    algorithm_form (codes "sha256") set.sha256 ++ algorithm_form (codes "sha384") set.sha384
    ++ algorithm_form (codes "sha512") set.sha512
