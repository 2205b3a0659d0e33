-- Where artifact rules stand (in-toto 1.0 section 4.3.3; the rules on what is delivered are this
-- profile's choice).
use Rattle.std.specs.Prelude.{◌≡◌, ℕ, List, [], ◌++◌, Contains, codes, decimal}
use Rattle.it_docs.specs.declared.layout.Layout.{Layout}
use Rattle.it_docs.specs.declared.rule.Rule.{Rule}
use Rattle.it_docs.specs.declared.rule.Side.{Side}
use Rattle.it_docs.specs.declared.rule.Side.TheVariants.{Materials, Products}
use Rattle.it_docs.specs.declared.step.Inspection.{Inspection}
use Rattle.it_docs.specs.declared.step.Step.{Step}
use Rattle.it_chain.specs.StepRules.{rules_on}
use Rattle.it_chain.specs.declared.refusal.RuleItem.{RuleItem}
use Rattle.it_chain.specs.declared.refusal.RuleItem.TheVariants.{Step as of_step}
use Rattle.it_chain.specs.declared.refusal.RuleItem.TheVariants.{Inspection as of_inspection}
use Rattle.it_chain.specs.declared.refusal.RuleItem.TheVariants.{Deliver as of_delivery}
use Rattle.it_report.specs.Report.{side_form}
use Rattle.it_rule_notes.specs.Line.{told_form}
use Rattle.it_rule_notes.specs.declared.rule_place.RulePlace.{RulePlace}

-- the rules that an inspection has for a side
abbrev pub inspection_rules : Side → Inspection → List Rule
inspection_rules Materials inspection = inspection.expected_materials
inspection_rules Products inspection = inspection.expected_products

-- what is delivered has rules on products only
abbrev pub AreDeliverRules : List Rule → Side → List Rule → Type 0
AreDeliverRules deliver Materials rules = ⊥
AreDeliverRules deliver Products rules = rules ≡ deliver

-- the rules of an item on a side: of a step or an inspection of the layout, or of the policy on
-- what is delivered
abbrev pub AreRulesAt : Layout → List Rule → RuleItem → Side → List Rule → Type 0
AreRulesAt layout deliver (of_step name) side rules =
    (step : Step) × Contains layout.steps step × (step.name ≡ name) × (rules ≡ rules_on side step)
AreRulesAt layout deliver (of_inspection name) side rules =
    (inspection : Inspection) × Contains layout.inspections inspection × (inspection.name ≡ name)
    × (rules ≡ inspection_rules side inspection)
AreRulesAt layout deliver of_delivery side rules = AreDeliverRules deliver side rules

-- the document that holds the rules of an item (this project's words)
abbrev pub document_form : RuleItem → List ℕ
document_form (of_step name) = codes "layout"
document_form (of_inspection name) = codes "layout"
document_form of_delivery = codes "policy"

abbrev pub item_form : RuleItem → List ℕ
item_form (of_step name) = told_form (codes " of step ") name []
item_form (of_inspection name) = told_form (codes " of inspection ") name []
item_form of_delivery = codes " of the delivery"

-- where a rule stands, for people (this project's words)
abbrev pub place_form : RulePlace → List ℕ
place_form place =
    document_form place.item ++ codes ": rule " ++ decimal place.index ++ codes " of the "
    ++ side_form place.side ++ item_form place.item
