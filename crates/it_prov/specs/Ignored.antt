-- Which parameter names the expectations allow to be ignored, as sets made for a search (specific
-- to this project; no standard covers it).
use Rattle.std.specs.Prelude.{◌≡◌, ℕ, List, Bool, map}
use Rattle.std.specs.Borrow.{Bor}
use Rattle.std.specs.BTreeMap.{is_at}
use Rattle.std.specs.BTreeSet.{BTreeSet}
use Rattle.std.specs.Cmp.Lexicographic.{slice_cmp}
use Rattle.std.specs.List.{list_any}
use Rattle.std.specs.Ordering.{nat_cmp}
use Rattle.std.specs.Str.{bytes_eq}
use Rattle.it_docs.specs.declared.policy.Expectation.{Expectation}

-- whether a name is one of these
abbrev pub is_one_of : List (List ℕ) → List ℕ → Bool
is_one_of names name = list_any (bytes_eq name) names

-- whether a name is one of these lent names
abbrev pub is_among : List (Bor (List ℕ)) → List ℕ → Bool
is_among lent name = list_any (is_at (λ key. slice_cmp nat_cmp name key.now)) lent

-- for each expectation, in their order, there is a set of the names that it allows to be ignored
abbrev pub AreIgnored : List Expectation → List (BTreeSet (Bor (List ℕ))) → Type 0
AreIgnored expectations sets =
    (name : List ℕ)
    → map (λ set. is_among set.keys name) sets
    ≡ map (λ expectation. is_one_of expectation.ignore name) expectations
