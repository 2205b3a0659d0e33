-- The digest list that alone gave a file its digests.
use Rattle.std.specs.Prelude.{ℕ, List, Option, Some, None}
use Rattle.std.specs.Option.{option_map}
use Rattle.it_digest.specs.declared.compare.DigestSet.{DigestSet}
use Rattle.it_digest.specs.declared.sums.ListAlgorithm.{ListAlgorithm}
use Rattle.it_digest.specs.declared.sums.ListAlgorithm.TheVariants.{Sha256, Sha512}
use Rattle.it_strict.specs.declared.listed_once.ListedOnce.{ListedOnce}

-- by which values there are
abbrev pub list_giving : Option (List ℕ) → Option (List ℕ) → Option ListAlgorithm
list_giving (Some digest) None = Some Sha256
list_giving None (Some digest) = Some Sha512
list_giving (Some digest) (Some other) = None
list_giving None None = None

abbrev pub only_list : DigestSet → Option ListAlgorithm
only_list digests = list_giving digests.sha256 digests.sha512

-- a path, with the list that alone names it, if one does
abbrev pub once_at : List ℕ → Option ListAlgorithm → Option ListedOnce
once_at path list = option_map (λ naming. record { path = path; list = naming }) list

-- a delivered file, where one list alone gave its digests
abbrev pub once_in : List ℕ × DigestSet → Option ListedOnce
once_in file = once_at file.0 (only_list file.1)
