-- Lines for people (this project's words).
use Rattle.std.specs.Prelude.{ℕ, List, [], ◌++◌, codes}
use Rattle.it_report.specs.Name.{cut_form}

-- a name between two texts, in the form of a report
unfoldable pub told_form : List ℕ → List ℕ → List ℕ → List ℕ
told_form before name after = before ++ cut_form name ++ after

-- a key id of a step of the layout
unfoldable pub key_form : List ℕ → List ℕ → List ℕ
key_form id step =
    told_form (codes "layout: for key ") id [] ++ told_form (codes " of step ") step []
