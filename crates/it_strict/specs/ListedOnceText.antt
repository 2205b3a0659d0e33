-- Paths that one of two digest lists alone names, as lines (this project's words).
use Rattle.std.specs.Prelude.{ℕ, List, ◌++◌, length, take, codes}
use Rattle.std.specs.List.{flat_map}
use Rattle.it_check.specs.FindingLine.{more_form}
use Rattle.it_check.specs.Pieces.{told_form}
use Rattle.it_digest.specs.declared.sums.ListAlgorithm.{ListAlgorithm}
use Rattle.it_digest.specs.declared.sums.ListAlgorithm.TheVariants.{Sha256, Sha512}
use Rattle.it_strict.specs.declared.listed_once.ListedOnce.{ListedOnce}

-- a digest list as a document, named as the option that hands it in
unfoldable pub list_document : ListAlgorithm → List ℕ
list_document Sha256 = codes "sums"
list_document Sha512 = codes "sums512"

-- that the other list does not name a path, which follows
unfoldable pub unnamed_form : ListAlgorithm → List ℕ
unnamed_form Sha256 = codes "the digest list by SHA-512 does not name "
unnamed_form Sha512 = codes "the digest list by SHA-256 does not name "

-- what is said of a path that one list alone names
abbrev pub once_sentence : ListedOnce → List ℕ
once_sentence once = told_form (unnamed_form once.list) once.path (codes "")

-- the beginning of its line: the document and the name of what is found; a digest list has no
-- places
unfoldable pub once_start : ListAlgorithm → List ℕ
once_start list = list_document list ++ codes " " ++ codes "listed-once" ++ codes ": "

-- its line: such a beginning, and this sentence
unfoldable pub once_line : ListedOnce → List ℕ
once_line once = once_start once.list ++ once_sentence once ++ codes "\n"

-- the lines of the first 40, and how many there are where there are more
unfoldable pub once_text : List ListedOnce → List ℕ
once_text listed =
    flat_map once_line (take 40 listed) ++ more_form (codes "files listed once") (length listed)
