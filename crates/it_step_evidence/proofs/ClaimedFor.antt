-- The files that are claimed for a step, one file more.
use Rattle.std.proofs.Common.{◌≡◌, ◌<◌, ◌+◌, ◌∙◌, ℕ, List, [], ◌∷◌, ◌++◌, take, get_or, length, map}
use Rattle.std.proofs.Common.{Bor, sym, ap}
use Rattle.std.proofs.lemmas.List.{map-append, take_more}
use Rattle.it_dsse.proofs.Keeping.{keep_last, pass_last}
use Rattle.it_chain.specs.inside.ClaimedFiles.{AreClaimed}
use Rattle.it_chain.specs.ClaimedFiles.{IsClaimed}
use Rattle.it_chain.specs.declared.bundle.File.{File}

abbrev pub lent : Bor File → File
lent file = file.now

module _ (step : List ℕ) (files : List File) (i : ℕ) (file : File) (below : i < length files)
    (here : file ≡ get_or files i file) (found : List (Bor File))
    (before : AreClaimed step (take i files) (map lent found)) where
  abbrev Claims : File → Type 0
  Claims f = IsClaimed step f.name

  one_more : take (i + 1) files ≡ take i files ++ file ∷ []
  one_more = take_more files i file below ∙ ap (λ f. take i files ++ f ∷ []) (sym here)

  pub claimed_last : (new : Bor File) → new.now ≡ file → IsClaimed step file.name
      → AreClaimed step (take (i + 1) files) (map lent (found ++ new ∷ []))
  claimed_last new same claimed =
      rw (one_more, map-append lent found (new ∷ []), same)
      (keep_last Claims (take i files) (map lent found) file before claimed)

  pub passed_by : ¬ IsClaimed step file.name → AreClaimed step (take (i + 1) files) (map lent found)
  passed_by unclaimed =
      rw one_more (pass_last Claims (take i files) (map lent found) file before unclaimed)
