-- The files and folders of links, one file or folder more after another.
use Rattle.std.proofs.Common.{◌≡◌, ℕ, ◌+◌, ◌≤◌, List, [], ◌∷◌, arith}
use Rattle.std.proofs.lemmas.List.{length-append}
use Rattle.std.specs.Cmp.Lexicographic.{slice_cmp}
use Rattle.std.specs.Ordering.{nat_cmp, match_ordering}
use Rattle.std.specs.declared.cmp.Ordering.{Ordering}
use Rattle.std.specs.declared.cmp.Ordering.TheVariants.{Less, Equal, Greater}
use Rattle.it_chain.specs.Contents.{Contents, contents_of, Folders, no_folders, folder, put}
use Rattle.it_chain.specs.Contents.{with_file, with_folder}
use Rattle.it_chain.specs.declared.bundle.File.{File}
use Rattle.it_disk.specs.LinksCount.{count_of, folder_count}

pub file_counted : (file : File) (links : Contents)
    → count_of (with_file file links) ≡ count_of links + 1
file_counted file (contents_of files below) =
    let all = length-append files (file ∷ []) in
    omega (arith, all)

-- folders with one more in its place, by where that is
by_order : (order : Ordering) (name other : List ℕ) (added inner : Contents) (rest : Folders)
    → folder_count (put name added rest) ≤ 1 + count_of added + folder_count rest
    → folder_count (match_ordering order (folder name added (folder other inner rest))
    (folder other added rest) (folder other inner (put name added rest)))
    ≤ 1 + count_of added + folder_count (folder other inner rest)
by_order Less name other added inner rest more = omega arith
by_order Equal name other added inner rest more = omega arith
by_order Greater name other added inner rest more = omega (arith, more)

put_counted : (name : List ℕ) (added : Contents) (below : Folders)
    → folder_count (put name added below) ≤ 1 + count_of added + folder_count below
put_counted name added no_folders = omega arith
put_counted name added (folder other inner rest) =
    by_order (slice_cmp nat_cmp name other) name other added inner rest
    (put_counted name added rest)

pub folder_counted : (name : List ℕ) (added links : Contents)
    → count_of (with_folder name added links) ≤ count_of links + 1 + count_of added
folder_counted name added (contents_of files below) =
    let put = put_counted name added below in
    omega (arith, put)
