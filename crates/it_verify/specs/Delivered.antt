-- The delivered files under the artifact rules of the policy (this profile's choice).
use Rattle.std.specs.FinMap.{empty}
use Rattle.std.specs.Prelude.{List}
use Rattle.it_digest.specs.Artifacts.{ArtifactMap}
use Rattle.it_docs.specs.declared.rule.Rule.{Rule}
use Rattle.it_docs.specs.declared.rule.Side.TheVariants.{Products}
use Rattle.it_rules.specs.Item.{Links, Recorded}
use Rattle.it_chain.specs.declared.refusal.RuleItem.TheVariants.{Deliver}
use Rattle.it_report.specs.declared.refusal.Refusal.{Refusal}
use Rattle.it_verify.specs.Refusals.{ItemRulesFail}

-- the delivered files as an item: products, made from no materials
abbrev pub delivery : ArtifactMap → Recorded
delivery delivered = record { materials = empty; products = delivered }

-- a rule on what is delivered fails; the refusal has the index and path of the first
abbrev pub DeliverFails : Links → List Rule → ArtifactMap → Refusal → Type 0
DeliverFails links rules delivered = ItemRulesFail links Deliver Products rules (delivery delivered)
