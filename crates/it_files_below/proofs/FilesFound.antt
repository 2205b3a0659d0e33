-- One more entry of a folder, with its files.
use Rattle.std.proofs.Common.{◌≡◌, ◌∙◌, ◌∷◌, ◌++◌, ℕ, List, [], append_assoc, ap, subst, sym}
use Rattle.it_files_below.specs.FilesBelow.{HasFiles, HoldsFiles, and_file, and_folder, path_in}
use Rattle.it_disk.specs.Reading.{Holdings}
use Rattle.it_disk.specs.declared.folders.Kind.TheVariants.{File, Folder}
use Rattle.it_disk.specs.declared.listing.Listed.{Listed}

module _ (disk : Holdings) (folder path : List ℕ) (before after : List Listed) (entry : Listed)
    (found : List (List ℕ)) (more : after ≡ before ++ entry ∷ [])
    (named : path ≡ path_in folder entry.name) (has : HasFiles disk folder before found) where
  pub with_file : entry.kind ≡ File → HasFiles disk folder after (found ++ path ∷ [])
  with_file is =
      subst (λ entries. HasFiles disk folder entries (found ++ path ∷ [])) (sym more)
      (subst (λ file. HasFiles disk folder (before ++ entry ∷ []) (found ++ file ∷ []))
      (sym named) (and_file has entry is))

  pub with_folder : (below : List (List ℕ)) → entry.kind ≡ Folder → HoldsFiles disk path below
      → HasFiles disk folder after (found ++ below)
  with_folder below is holds =
      let inside = subst (λ p. HoldsFiles disk p below) named holds in
      subst (λ entries. HasFiles disk folder entries (found ++ below)) (sym more)
      (and_folder has entry is inside.holds inside.has)

-- texts to which first some and then more were added
pub added_more : (start now after found more : List (List ℕ)) → now ≡ start ++ found
    → after ≡ now ++ more → after ≡ start ++ (found ++ more)
added_more start now after found more before next =
    next ∙ ap (λ texts. texts ++ more) before ∙ append_assoc start found more
