-- Which files are found for a step by its name. Nothing here is trusted.
use Rattle.std.specs.Prelude.{ℕ, List}
use Rattle.it_dsse.specs.Signed.{AreThose}
use Rattle.it_chain.specs.ClaimedFiles.{IsClaimed}
use Rattle.it_chain.specs.declared.bundle.File.{File}
use Rattle.it_chain.specs.declared.claimed_files.Claims.{Claims}
use Rattle.it_chain.specs.inside.Places.{items_at, places_under}

-- the files whose names claim them for a step, in their order, and no others
abbrev pub AreClaimed : List ℕ → List File → List File → Type 0
AreClaimed step = AreThose (λ file. IsClaimed step file.name)

-- the files at some places
abbrev pub files_at : List File → List ℕ → List File
files_at = items_at

-- under each step's name are the places of the files that are claimed for the step
abbrev pub ClaimsIn : List File → Claims → Type 0
ClaimsIn files claims =
    (step : List ℕ) → AreClaimed step files (files_at files (places_under claims.by_step step))
