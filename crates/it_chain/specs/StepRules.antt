-- The artifact rules of a layout's steps (in-toto 1.0 section 4.3.3; section 5.2, verifying the
-- final product).
use Rattle.std.specs.Prelude.{List, map}
use Rattle.it_docs.specs.declared.step.Step.{Step}
use Rattle.it_docs.specs.declared.rule.Rule.{Rule}
use Rattle.it_docs.specs.declared.rule.Side.{Side}
use Rattle.it_docs.specs.declared.rule.Side.TheVariants.{Materials, Products}
use Rattle.it_rules.specs.Item.{Recorded, Links}
use Rattle.it_rules.specs.Rules.{RulesHold}
use Rattle.it_chain.specs.declared.chain.StepResult.{StepResult}

-- the artifacts of a step's record
abbrev pub recorded_in : StepResult → Recorded
recorded_in result = record { materials = result.materials; products = result.products }

-- the records of steps, each under its step's name
abbrev pub links_in : List StepResult → Links
links_in results = map (λ result. (result.name, recorded_in result)) results

-- the rules that a step has for a side
abbrev pub rules_on : Side → Step → List Rule
rules_on Materials step = step.expected_materials
rules_on Products step = step.expected_products

-- the rules of a step hold for its record on both sides
pub record StepRulesHold (links : Links) (step : Step) (result : StepResult) : Type 0 where
  pub materials : RulesHold step.expected_materials Materials (recorded_in result) links
  pub products : RulesHold step.expected_products Products (recorded_in result) links
