-- Which paths are tied to a step of a layout by the artifact rules on products (in-toto 1.0,
-- section 4.3.3; what is called tied is a word of this project).
use Rattle.std.specs.Prelude.{◌≡◌, ◌↔◌, ℕ, List, Some, Any, Contains}
use Rattle.std.specs.List.{slice_get}
use Rattle.it_docs.specs.declared.rule.Rule.{Rule}
use Rattle.it_docs.specs.declared.rule.Rule.TheVariants.{Match}
use Rattle.it_docs.specs.declared.rule.Side.TheVariants.{Products}
use Rattle.it_docs.specs.declared.step.Step.{Step}
use Rattle.it_rules.specs.Item.{Links, Recorded}
use Rattle.it_rules.specs.Rules.{AreSorted, Claims, IsFree, Stands}

-- a step has this name
abbrev pub NamesStep : List Step → List ℕ → Type 0
NamesStep steps name = Any (λ (step : Step). step.name ≡ name) steps

-- the rule ties what it claims to a step: MATCH WITH PRODUCTS FROM a step
abbrev pub Ties : List Step → Rule → Type 0
Ties steps (Match pattern source Products target from) = NamesStep steps from
Ties steps rule = ⊥

-- some rule that ties what it claims to a step claims the path of a product, which no rule before
-- it claims
pub record IsTied (steps : List Step) (rules : List Rule) (item : Recorded) (links : Links)
    (path : List ℕ) : Type 0 where
  pub place : ℕ
  pub rule : Rule
  pub stands : slice_get rules place ≡ Some rule
  pub ties : Ties steps rule
  pub is_free : IsFree rules Products item links place path
  pub claims : Claims rule Products item links path

-- these are the paths of the products that are not tied to a step, in order
pub record AreUntied (steps : List Step) (rules : List Rule) (item : Recorded) (links : Links)
    (paths : List (List ℕ)) : Type 0 where
  pub in_order : AreSorted paths
  pub exact : (path : List ℕ) → Contains paths path
      ↔ (Stands item.products path × ¬ IsTied steps rules item links path)
