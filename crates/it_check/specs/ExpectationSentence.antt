-- What is said of findings on the expectations of a policy (this project's words).
use Rattle.std.specs.Prelude.{ℕ, List, ◌++◌, codes}
use Rattle.it_check.specs.Pieces.{told_form}
use Rattle.it_part_notes.specs.SumLine.{numbered_form}

abbrev pub no_builders_sentence : ℕ → List ℕ
no_builders_sentence place =
    numbered_form (codes "expectation ") place
    (codes " has no builders, so that no provenance meets it")

abbrev pub no_level_sentence : ℕ → List ℕ
no_level_sentence place =
    numbered_form (codes "expectation ") place
    (codes " asks for level 0, which every builder reaches")

unfoldable pub unreachable_level_sentence : ℕ → ℕ → List ℕ
unreachable_level_sentence place level =
    numbered_form (codes "expectation ") place (codes " asks for level ")
    ++ numbered_form (codes "") level (codes ", which none of its builders reaches")

unfoldable pub unequal_number_sentence : ℕ → List ℕ → List ℕ
unequal_number_sentence place name =
    numbered_form (codes "expectation ") place (codes " has in the parameter ")
    ++ told_form (codes "") name
    (codes " a number that is no whole number of 64 bits, so that no provenance meets it")

abbrev pub unused_expectation_sentence : ℕ → List ℕ
unused_expectation_sentence place =
    numbered_form (codes "expectation ") place
    (codes " is unused, since earlier ones apply to each delivered file that it matches")
