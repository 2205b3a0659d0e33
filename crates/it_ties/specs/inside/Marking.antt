-- Marks on the paths of products that rules tie to a step (in-toto 1.0, section 4.3.3). Nothing
-- here is trusted.
use Rattle.std.specs.Prelude.{◌≡◌, ◌↔◌, ◌⊎◌, ℕ, List, Bool, Some, IsTrue}
use Rattle.std.specs.Borrow.{Bor}
use Rattle.std.specs.List.{slice_get}
use Rattle.it_docs.specs.declared.rule.Rule.{Rule}
use Rattle.it_docs.specs.declared.rule.Side.TheVariants.{Products}
use Rattle.it_docs.specs.declared.step.Step.{Step}
use Rattle.it_rules.specs.Item.{Links, Recorded}
use Rattle.it_rules.specs.Marks.{is_marked}
use Rattle.it_rules.specs.Rules.{Claims}
use Rattle.it_ties.specs.Ties.{IsTied, Ties}

-- each path has a mark where the rules tie it
abbrev pub AreTied : List Step → List Rule → Recorded → Links → List (Bor (List ℕ)) → List Bool
    → Type 0
AreTied steps rules item links paths marks =
    (i : ℕ) (path : Bor (List ℕ)) → slice_get paths i ≡ Some path
    → IsTrue (is_marked marks i) ↔ IsTied steps rules item links path.now

-- what a rule makes of the mark of a path: whether it ties it, where it claims it
abbrev pub IsMarkedBy : List Step → Rule → Recorded → Links → List ℕ → Bool → Bool → Type 0
IsMarkedBy steps rule item links path old new =
    (Claims rule Products item links path × (IsTrue new ↔ Ties steps rule))
    ⊎ ((¬ Claims rule Products item links path) × (new ≡ old))

-- what a rule makes of the marks of paths
abbrev pub AreMarkedBy : List Step → Rule → Recorded → Links → List (Bor (List ℕ)) → List Bool
    → List Bool → Type 0
AreMarkedBy steps rule item links paths old new =
    (i : ℕ) (path : Bor (List ℕ)) → slice_get paths i ≡ Some path
    → IsMarkedBy steps rule item links path.now (is_marked old i) (is_marked new i)
