-- What inspections recorded, and their artifact rules (in-toto 1.0 section 5.2, verifying the final
-- product).
use Rattle.std.specs.List.{find}
use Rattle.std.specs.Prelude.{◌≡◌, ◌≢◌, ◌⊎◌, ℕ, List, [], ◌∷◌, Option, None, option_map, Some}
use Rattle.std.specs.Str.{bytes_eq}
use Rattle.it_docs.specs.Link.{LinkOf}
use Rattle.it_docs.specs.declared.link.Link.{Link}
use Rattle.it_docs.specs.declared.rule.Rule.{Rule}
use Rattle.it_docs.specs.declared.rule.Side.{Side}
use Rattle.it_docs.specs.declared.rule.Side.TheVariants.{Materials, Products}
use Rattle.it_docs.specs.declared.step.Inspection.{Inspection}
use Rattle.it_rules.specs.Item.{Links, Recorded}
use Rattle.it_rules.specs.Rules.{RulesHold}
use Rattle.it_chain.specs.declared.refusal.RuleItem.TheVariants.{Inspection as of_inspection}
use Rattle.it_report.specs.declared.refusal.Fault.TheVariants.{RecordMissing, BadRecord}
use Rattle.it_report.specs.declared.refusal.Refusal.{Refusal}
use Rattle.it_verify.specs.Refusals.{whole, ItemRulesFail}
use Rattle.it_verify.specs.declared.inputs.Inputs.{Inputs}

-- the first record of a name (this profile's choice)
abbrev pub record_at : List ℕ → Inputs → Option (List ℕ)
record_at name inputs =
    option_map (λ found. found.1) (find (λ given. bytes_eq given.0 name) inputs.records)

-- an inspection recorded this: the first record of its name is a link of that name. Inspections are
-- not run here (this profile's choice)
pub record HasRecorded (inputs : Inputs) (inspection : Inspection) (link : Link) : Type 0 where
  pub bytes : List ℕ
  pub is_first : record_at inspection.name inputs ≡ Some bytes
  pub reads : LinkOf bytes link
  pub name_is : link.name ≡ inspection.name

-- an inspection has no record, or one that is not a link of its name
abbrev pub RecordFails : Inputs → Inspection → Refusal → Type 0
RecordFails inputs inspection refusal =
    ((record_at inspection.name inputs ≡ None) × (refusal ≡ whole (RecordMissing inspection.name)))
    ⊎ ((record_at inspection.name inputs ≢ None)
    × ((link : Link) → ¬ HasRecorded inputs inspection link)
    × (refusal ≡ whole (BadRecord inspection.name)))

-- the artifacts of a link
abbrev pub recorded_in : Link → Recorded
recorded_in link = record { materials = link.materials; products = link.products }

-- the rules that an inspection has for a side
abbrev pub inspection_rules_on : Side → Inspection → List Rule
inspection_rules_on Materials inspection = inspection.expected_materials
inspection_rules_on Products inspection = inspection.expected_products

-- the rules of an inspection hold for what it recorded, on both sides
abbrev pub InspectionRulesHold : Links → Inspection → Link → Type 0
InspectionRulesHold links inspection link =
    (side : Side) → RulesHold (inspection_rules_on side inspection) side (recorded_in link) links

-- both sides of each inspection with its record, materials first
abbrev pub sides_of : Inspection × Link → List (Side × (Inspection × Link))
sides_of judged = (Materials, judged) ∷ (Products, judged) ∷ []

-- a rule of an inspection fails on a side; the refusal has the index and path of the first
abbrev pub InspectionFails : Links → Side × (Inspection × Link) → Refusal → Type 0
InspectionFails links (side, (inspection, link)) refusal =
    ItemRulesFail links (of_inspection inspection.name) side (inspection_rules_on side inspection)
    (recorded_in link) refusal
