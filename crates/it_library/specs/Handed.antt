-- What a caller hands over: words, and files in memory (this project's choice).
use Rattle.std.specs.Prelude.{◌≡◌, ◌++◌, ◌∷◌, ℕ, List, [], All, Contains, flat_map, length, map}
use Rattle.std.specs.List.Sorted.{IsPermutation}
use Rattle.it_memory.specs.Files.{AreApart}

-- the bytes are these texts, each ended by a zero byte, of which the texts have none
pub record AreEnded (bytes : List ℕ) (texts : List (List ℕ)) : Type 0 where
  pub bytes_are : bytes ≡ flat_map (λ text. text ++ 0 ∷ []) texts
  pub no_zero : All (λ text. ¬ Contains text 0) texts

-- the files, each a path and bytes, whose paths are each ended by a zero byte, with how many bytes
-- each has, and these bytes file after file
pub record AreFiles (paths sizes contents : List ℕ) (files : List (List ℕ × List ℕ))
    : Type 0 where
  pub paths_are : AreEnded paths (map (λ file. file.0) files)
  pub sizes_are : sizes ≡ map (λ file. length file.1) files
  pub contents_are : contents ≡ flat_map (λ file. file.1) files

-- the words and the files are these; the order of the files does not matter, no two have one path,
-- and none lies below another
pub record AreHanded (words paths sizes contents : List ℕ) (texts : List (List ℕ))
    (ordered : List (List ℕ × List ℕ)) : Type 0 where
  pub are_words : AreEnded words texts
  pub files : List (List ℕ × List ℕ)
  pub are_files : AreFiles paths sizes contents files
  pub same_files : IsPermutation files ordered
  pub apart : AreApart ordered
