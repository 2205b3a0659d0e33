-- Links within the limit, one more after another.
use Rattle.std.proofs.Common.{ℕ, List, [], ◌∷◌, ◌++◌, ⊎_elim, Contains, subst}
use Rattle.std.proofs.lemmas.List.Elements.{Contains-append_cases, Contains-append_left}
use Rattle.std.proofs.lemmas.List.Elements.{Contains-append_right, Contains-push_cases}
use Rattle.std.specs.Cmp.Lexicographic.{slice_cmp}
use Rattle.std.specs.Ordering.{nat_cmp, match_ordering}
use Rattle.std.specs.declared.cmp.Ordering.{Ordering}
use Rattle.std.specs.declared.cmp.Ordering.TheVariants.{Less, Equal, Greater}
use Rattle.it_base.proofs.Members.{in_none}
use Rattle.it_chain.specs.AllFiles.{all_files, folder_files}
use Rattle.it_chain.specs.Contents.{Contents, contents_of, Folders, no_folders, folder, put}
use Rattle.it_chain.specs.Contents.{with_file, with_folder}
use Rattle.it_chain.specs.declared.bundle.File.{File}
use Rattle.it_limits.specs.Limit.{IsWithinLimit}
use Rattle.it_limits.specs.Links.{AreFilesWithin}

-- each of some files is within the limit
abbrev AreWithin : List File → Type 0
AreWithin files = (file : File) → Contains files file → IsWithinLimit file.bytes

both_within : (files more : List File) → AreWithin files → AreWithin more
    → AreWithin (files ++ more)
both_within files more first second file among =
    ⊎_elim (first file) (second file) (Contains-append_cases files more file among)

left_within : (files more : List File) → AreWithin (files ++ more) → AreWithin files
left_within files more all file among = all file (Contains-append_left files more file among)

right_within : (files more : List File) → AreWithin (files ++ more) → AreWithin more
right_within files more all file among = all file (Contains-append_right files more file among)

one_within : (file : File) → IsWithinLimit file.bytes → AreWithin (file ∷ [])
one_within file within other among =
    ⊎_elim (λ none. absurd (in_none other none))
    (λ same. subst (λ (f : File). IsWithinLimit f.bytes) same within)
    (Contains-push_cases [] file other among)

pub file_within : (file : File) (links : Contents) → IsWithinLimit file.bytes
    → AreFilesWithin links → AreFilesWithin (with_file file links)
file_within file (contents_of files below) within all =
    both_within (files ++ file ∷ []) (folder_files below)
    (both_within files (file ∷ []) (left_within files (folder_files below) all)
    (one_within file within))
    (right_within files (folder_files below) all)

-- folders with one more in its place, by where that is
by_order : (order : Ordering) (name other : List ℕ) (added inner : Contents) (rest : Folders)
    → AreFilesWithin added → AreWithin (folder_files (folder other inner rest))
    → AreWithin (folder_files (put name added rest))
    → AreWithin (folder_files (match_ordering order (folder name added (folder other inner rest))
    (folder other added rest) (folder other inner (put name added rest))))
by_order Less name other added inner rest within all more =
    both_within (all_files added) (all_files inner ++ folder_files rest) within all
by_order Equal name other added inner rest within all more =
    both_within (all_files added) (folder_files rest) within
    (right_within (all_files inner) (folder_files rest) all)
by_order Greater name other added inner rest within all more =
    both_within (all_files inner) (folder_files (put name added rest))
    (left_within (all_files inner) (folder_files rest) all) more

put_within : (name : List ℕ) (added : Contents) (below : Folders) → AreFilesWithin added
    → AreWithin (folder_files below) → AreWithin (folder_files (put name added below))
put_within name added no_folders within all = both_within (all_files added) [] within all
put_within name added (folder other inner rest) within all =
    by_order (slice_cmp nat_cmp name other) name other added inner rest within all
    (put_within name added rest within
    (right_within (all_files inner) (folder_files rest) all))

pub folder_within : (name : List ℕ) (added links : Contents) → AreFilesWithin added
    → AreFilesWithin links → AreFilesWithin (with_folder name added links)
folder_within name added (contents_of files below) within all =
    both_within files (folder_files (put name added below))
    (left_within files (folder_files below) all)
    (put_within name added below within (right_within files (folder_files below) all))
