-- How the rules of steps are judged. Nothing here is trusted.
use Rattle.std.specs.Prelude.{◌≡◌, ◌⊎◌, ℕ, List, [], ◌∷◌, Option, None, Some}
use Rattle.std.specs.List.{AllByRecursion}
use Rattle.it_docs.specs.declared.step.Step.{Step}
use Rattle.it_docs.specs.declared.rule.Side.{Side}
use Rattle.it_docs.specs.declared.rule.Side.TheVariants.{Materials, Products}
use Rattle.it_rules.specs.Item.{Links}
use Rattle.it_rules.specs.Rules.{IsFirstFault, RulesHold}
use Rattle.it_chain.specs.First.{here}
use Rattle.it_chain.specs.StepRules.{StepRulesHold, recorded_in, rules_on}
use Rattle.it_chain.specs.declared.chain.StepResult.{StepResult}
use Rattle.it_chain.specs.declared.refusal.ChainFault.TheVariants.{RuleFailed}
use Rattle.it_chain.specs.declared.refusal.ChainRefusal.{ChainRefusal}
use Rattle.it_chain.specs.declared.refusal.RuleItem.TheVariants.{Step as of_step}

module _ (links : Links) where
  -- the rules of a step hold on a side of its record
  abbrev pub SideHolds : Step → Side → StepResult → Type 0
  SideHolds step side found = RulesHold (rules_on side step) side (recorded_in found) links

  -- the refusal by the first rule of a step that fails on a side of its record
  abbrev pub SideFails : Step → Side → StepResult → ChainRefusal → Type 0
  SideFails step side found refusal =
      (index : ℕ) × (path : List ℕ)
      × IsFirstFault (rules_on side step) side (recorded_in found) links index path
      × (refusal ≡ here (RuleFailed (of_step step.name) side index path))

  abbrev pub IsSideRuled : Step → Side → StepResult → Option ChainRefusal → Type 0
  IsSideRuled step side found None = SideHolds step side found
  IsSideRuled step side found (Some refusal) = SideFails step side found refusal

  -- the first side that fails
  abbrev pub IsFirstRuled : List (Step × StepResult) → ChainRefusal → Type 0
  IsFirstRuled [] refusal = ⊥
  IsFirstRuled (p ∷ ps) refusal =
      SideFails p.0 Materials p.1 refusal
      ⊎ (SideHolds p.0 Materials p.1
      × (SideFails p.0 Products p.1 refusal
      ⊎ (SideHolds p.0 Products p.1 × IsFirstRuled ps refusal)))

  abbrev pub AreRuled : List (Step × StepResult) → Option ChainRefusal → Type 0
  AreRuled pairs None = AllByRecursion (λ p. StepRulesHold links p.0 p.1) pairs
  AreRuled pairs (Some refusal) = IsFirstRuled pairs refusal
