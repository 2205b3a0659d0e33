-- How the files by which something counts relate to what counts.
use Rattle.std.specs.Prelude.{◌↔◌, ℕ, List}
use Rattle.it_docs.specs.declared.layout.Layout.{Layout}
use Rattle.it_docs.specs.declared.step.Step.{Step}
use Rattle.it_chain.specs.Contents.{Contents}
use Rattle.it_chain.specs.CountedBodies.{Setting}
use Rattle.it_step_evidence.specs.CountsBy.{CountsBy, CountsUnder}

-- something counts under a key id exactly where it counts by a file of some name
abbrev pub FilesCount : Type 0
FilesCount =
    (setting : Setting) (layout : Layout) (bundle : Contents) (step : Step) (id : List ℕ)
    → ((name : List ℕ) × CountsBy setting layout bundle step id name)
    ↔ CountsUnder setting layout bundle step id
