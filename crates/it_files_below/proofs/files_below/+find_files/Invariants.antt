use Rattle.std.proofs.Common.{◌≡◌, ◌++◌, ℕ, List, map, string_bytes, take}
use Rattle.it_files_below.specs.FilesBelow.{HasFiles}
use Rattle.it_files_below.proofs.files_below.+find_files.Given as goal

abbrev pub decreases-find_files : goal.decreases-find_files
decreases-find_files g l = l.levels

-- the files of the entries so far were added
abbrev pub invariant-loop-entry : goal.invariant-loop-entry
invariant-loop-entry g l = (found : List (List ℕ))
    × HasFiles (g.R.Disk.holdings l.rt) l.folder (take l.entry-index l.entry-items) found
    × (map string_bytes l.files.items ≡ map string_bytes l.fn.files.items ++ found)
