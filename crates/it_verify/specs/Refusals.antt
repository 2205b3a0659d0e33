-- How a fault becomes the refusal of the delivery (this profile's choice).
use Rattle.std.specs.Prelude.{◌≡◌, ℕ, List, []}
use Rattle.it_docs.specs.declared.rule.Rule.{Rule}
use Rattle.it_docs.specs.declared.rule.Side.{Side}
use Rattle.it_rules.specs.Item.{Links, Recorded}
use Rattle.it_rules.specs.Rules.{IsFirstFault}
use Rattle.it_chain.specs.declared.refusal.ChainFault.{ChainFault}
use Rattle.it_chain.specs.declared.refusal.ChainFault.TheVariants as chain
use Rattle.it_chain.specs.declared.refusal.ChainRefusal.{ChainRefusal}
use Rattle.it_chain.specs.declared.refusal.RuleItem.{RuleItem}
use Rattle.it_report.specs.declared.refusal.Fault.{Fault}
use Rattle.it_report.specs.declared.refusal.Fault.TheVariants.{Expired, TwoPayloads, TooDeep}
use Rattle.it_report.specs.declared.refusal.Fault.TheVariants.{Threshold, Disagree}
use Rattle.it_report.specs.declared.refusal.Fault.TheVariants.{InspectionInSublayout, RuleFailed}
use Rattle.it_report.specs.declared.refusal.Refusal.{Refusal}

-- the refusal for a fault that concerns no sublayout
abbrev pub whole : Fault → Refusal
whole fault = record { at = []; fault = fault }

-- a fault of the layout or of a sublayout, as a fault of the delivery
abbrev pub fault_of : ChainFault → Fault
fault_of chain.Expired = Expired
fault_of (chain.TwoPayloads step id) = TwoPayloads step id
fault_of chain.TooDeep = TooDeep
fault_of (chain.Threshold step found needed) = Threshold step found needed
fault_of (chain.Disagree step id) = Disagree step id
fault_of chain.InspectionInSublayout = InspectionInSublayout
fault_of (chain.RuleFailed item side index path) = RuleFailed item side index path

abbrev pub refusal_of : ChainRefusal → Refusal
refusal_of refusal = record { at = refusal.at; fault = fault_of refusal.fault }

-- a rule on a side of an item fails; the refusal has the index and path of the first
abbrev pub ItemRulesFail : Links → RuleItem → Side → List Rule → Recorded → Refusal → Type 0
ItemRulesFail links whose side rules recorded refusal =
    (index : ℕ) × (path : List ℕ) × IsFirstFault rules side recorded links index path
    × (refusal ≡ whole (RuleFailed whose side index path))
