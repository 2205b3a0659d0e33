-- The names that a layout's steps and inspections have, as they are looked up.
use Rattle.std.specs.Prelude.{ℕ, List, All, IsTrue, is_some}
use Rattle.std.specs.FinMap.{get}
use Rattle.it_base.specs.Table.{Named}
use Rattle.it_docs.specs.declared.layout.Layout.{Layout}
use Rattle.it_docs.specs.declared.step.Inspection.{Inspection}
use Rattle.it_docs.specs.declared.step.Step.{Step}

-- the names have this one
abbrev pub HasName : Named (Unit {0}) → List ℕ → Type 0
HasName names name = IsTrue (is_some (get names name))

-- the names have all those of others
abbrev pub HasNamesOf : Named (Unit {0}) → Named (Unit {0}) → Type 0
HasNamesOf others names = (name : List ℕ) → HasName others name → HasName names name

-- the names have all those of the layout's steps and inspections
pub record AreNamesOf (layout : Layout) (names : Named (Unit {0})) : Type 0 where
  pub steps : All (λ (s : Step). HasName names s.name) layout.steps
  pub inspections : All (λ (i : Inspection). HasName names i.name) layout.inspections
