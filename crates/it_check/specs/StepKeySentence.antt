-- What is said of findings on the keys of steps (this project's words).
use Rattle.std.specs.Prelude.{ℕ, List, ◌++◌, codes, decimal}
use Rattle.it_findings.specs.declared.finding.StepPlace.{StepPlace}
use Rattle.it_check.specs.Pieces.{quoted, told_form}
use Rattle.it_part_notes.specs.SumLine.{numbered_form}

-- how many different keys a step needs, and how many it lists
unfoldable pub threshold_form : ℕ → ℕ → List ℕ
threshold_form threshold ids =
    decimal threshold
    ++ numbered_form (codes " different keys and lists ") ids (codes ", so that it never passes")

unfoldable pub high_threshold_sentence : StepPlace → ℕ → ℕ → List ℕ
high_threshold_sentence step threshold ids =
    told_form (codes "step ") step.name (codes " needs ") ++ threshold_form threshold ids

abbrev pub no_threshold_sentence : ℕ → List ℕ
no_threshold_sentence place =
    numbered_form (codes "step ") place
    (codes " has no threshold, so that one key is enough for it")

-- the beginning of a sentence on a key id of a step
unfoldable pub on_key : StepPlace → List ℕ → List ℕ
on_key step id =
    told_form (codes "step ") step.name (codes " lists the key id ") ++ quoted id

unfoldable pub unknown_key_sentence : StepPlace → List ℕ → List ℕ
unknown_key_sentence step id = on_key step id ++ codes ", for which the layout has no key object"

unfoldable pub repeated_key_sentence : StepPlace → List ℕ → List ℕ
repeated_key_sentence step id =
    on_key step id ++ codes ", which it lists before that already and which counts once"
