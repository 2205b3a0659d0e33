-- The links of a folder, one entry after another.
use Rattle.std.proofs.Common.{◌≡◌, ◌+◌, ◌++◌, ◌∷◌, [], ℕ, List, Bool, IsTrue, subst, sym}
use Rattle.std.specs.Path.{path_join}
use Rattle.it_chain.specs.Contents.{Contents, with_file, with_folder}
use Rattle.it_limits.specs.Limit.{IsOverLimit, IsWithinLimit}
use Rattle.it_disk.specs.Walks.{AreLinks, HaveLinks, Seen, and_file, and_folder, and_left_out}
use Rattle.it_disk.specs.declared.folders.Kind.{Kind}
use Rattle.it_disk.specs.declared.folders.Kind.TheVariants.{File, Folder}

module _ (seen : Seen) (limited : Bool) (depth : ℕ) (folder name : List ℕ) (kind : Kind)
    (before : List (List ℕ × Kind)) (links : Contents)
    (have : HaveLinks seen limited depth folder before links) where
  abbrev WithKind : Kind → Contents → Type 0
  WithKind k all = HaveLinks seen limited depth folder (before ++ (name, k) ∷ []) all

  module _ (bytes : List ℕ) (is : kind ≡ File) (held : seen.file (path_join folder name) bytes) where
    pub file_kept : (IsTrue limited → IsWithinLimit bytes)
        → WithKind kind (with_file (record { name = name; bytes = bytes }) links)
    file_kept within =
        subst (λ k. WithKind k (with_file (record { name = name; bytes = bytes }) links)) (sym is)
        (and_file have name bytes held within)

    pub file_left : (count : ℕ) → IsTrue limited → IsOverLimit bytes count → WithKind kind links
    file_left count holds over =
        subst (λ k. WithKind k links) (sym is)
        (and_left_out have name bytes held holds (λ within. within count over))

  pub folder_kept : (below : ℕ) (inner : Contents) → depth ≡ below + 1 → kind ≡ Folder
      → AreLinks seen (path_join folder name) below limited inner
      → WithKind kind (with_folder name inner links)
  folder_kept below inner deep is inside =
      subst (λ k. WithKind k (with_folder name inner links)) (sym is)
      (subst (λ d. HaveLinks seen limited d folder (before ++ (name, Folder) ∷ [])
      (with_folder name inner links)) (sym deep)
      (and_folder (subst (λ d. HaveLinks seen limited d folder before links) deep have) name
      inside.is_folder inside.have))
