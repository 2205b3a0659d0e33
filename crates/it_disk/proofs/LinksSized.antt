-- The bytes of links, one file or folder more after another.
use Rattle.std.proofs.Common.{◌≡◌, ℕ, ◌+◌, ◌≤◌, List, [], ◌∷◌, ◌++◌, length, arith}
use Rattle.std.specs.Cmp.Lexicographic.{slice_cmp}
use Rattle.std.specs.Ordering.{nat_cmp, match_ordering}
use Rattle.std.specs.declared.cmp.Ordering.{Ordering}
use Rattle.std.specs.declared.cmp.Ordering.TheVariants.{Less, Equal, Greater}
use Rattle.it_chain.specs.AllFiles.{all_files, folder_files}
use Rattle.it_chain.specs.Contents.{Contents, contents_of, Folders, no_folders, folder, put}
use Rattle.it_chain.specs.Contents.{with_file, with_folder}
use Rattle.it_chain.specs.declared.bundle.File.{File}
use Rattle.it_disk.specs.LinksSize.{size_of, total_size}

size_append : (files more : List File)
    → total_size (files ++ more) ≡ total_size files + total_size more
size_append [] more = omega arith
size_append (file ∷ files) more = let e = size_append files more in omega (arith, e)

pub file_sized : (file : File) (links : Contents)
    → size_of (with_file file links) ≡ size_of links + length file.bytes
file_sized file (contents_of files below) =
    let all = size_append (files ++ file ∷ []) (folder_files below) in
    let before = size_append files (file ∷ []) in
    let old = size_append files (folder_files below) in
    omega (arith, all, before, old)

-- folders with one more in its place, by where that is
by_order : (order : Ordering) (name other : List ℕ) (added inner : Contents) (rest : Folders)
    → total_size (folder_files (put name added rest))
    ≤ size_of added + total_size (folder_files rest)
    → total_size (folder_files (match_ordering order (folder name added (folder other inner rest))
    (folder other added rest) (folder other inner (put name added rest))))
    ≤ size_of added + total_size (folder_files (folder other inner rest))
by_order Less name other added inner rest more =
    let all = size_append (all_files added) (all_files inner ++ folder_files rest) in
    omega (arith, all)
by_order Equal name other added inner rest more =
    let all = size_append (all_files added) (folder_files rest) in
    let old = size_append (all_files inner) (folder_files rest) in
    omega (arith, all, old)
by_order Greater name other added inner rest more =
    let all = size_append (all_files inner) (folder_files (put name added rest)) in
    let old = size_append (all_files inner) (folder_files rest) in
    omega (arith, all, old, more)

put_sized : (name : List ℕ) (added : Contents) (below : Folders)
    → total_size (folder_files (put name added below))
    ≤ size_of added + total_size (folder_files below)
put_sized name added no_folders = let all = size_append (all_files added) [] in omega (arith, all)
put_sized name added (folder other inner rest) =
    by_order (slice_cmp nat_cmp name other) name other added inner rest (put_sized name added rest)

pub folder_sized : (name : List ℕ) (added links : Contents)
    → size_of (with_folder name added links) ≤ size_of links + size_of added
folder_sized name added (contents_of files below) =
    let all = size_append files (folder_files (put name added below)) in
    let old = size_append files (folder_files below) in
    let put = put_sized name added below in
    omega (arith, all, old, put)
