use Rattle.std.proofs.Common.{◌≡◌, ◌++◌, List, filter_map, ℕ}
use Rattle.std.specs.FinMap.{entries}
use Rattle.it_digest.specs.Artifacts.{path_entries}
use Rattle.it_digest.specs.declared.compare.DigestSet.{DigestSet}
use Rattle.it_strict.specs.inside.OneList.{once_in}
use Rattle.it_strict.proofs.listed_once.of_one_list.Given as goal

-- what is found among the files so far, and what is left
abbrev pub invariant-loop-path : goal.invariant-loop-path
invariant-loop-path l =
    (done : List (List ℕ × DigestSet))
    × (entries l.delivered ≡ done ++ path_entries l.path-iterator)
    × (l.found.items ≡ filter_map once_in done)
