-- What the notes on a layout say (in-toto 1.0 section 4.3; that there are notes, and which, is a
-- word of this project).
use Rattle.std.specs.Prelude.{◌≡◌, ℕ, List, None, Contains}
use Rattle.std.specs.FinMap.{get}
use Rattle.it_docs.specs.declared.layout.Layout.{Layout}
use Rattle.it_docs.specs.declared.rule.Rule.{Rule}
use Rattle.it_docs.specs.declared.rule.Side.{Side}
use Rattle.it_docs.specs.declared.rule.Side.TheVariants.{Materials, Products}
use Rattle.it_docs.specs.declared.step.Inspection.{Inspection as LayoutInspection}
use Rattle.it_docs.specs.declared.step.Step.{Step as LayoutStep}
use Rattle.it_member_notes.specs.RuleListNotes.{IsOfRules}
use Rattle.it_member_notes.specs.declared.layout_note.Item.{Item}
use Rattle.it_member_notes.specs.declared.layout_note.Item.TheVariants.{Step, Inspection}
use Rattle.it_member_notes.specs.declared.layout_note.LayoutNote.{LayoutNote}
use Rattle.it_member_notes.specs.declared.layout_note.LayoutNote.TheVariants.{NoKeyObject, Rules}
use Rattle.it_member_notes.specs.declared.rule_list_note.RuleListNote.{RuleListNote}

-- the rules of a step, and of an inspection, on a side
abbrev pub rules_of_step : Side → LayoutStep → List Rule
rules_of_step Materials step = step.expected_materials
rules_of_step Products step = step.expected_products

abbrev pub rules_of_inspection : Side → LayoutInspection → List Rule
rules_of_inspection Materials inspection = inspection.expected_materials
rules_of_inspection Products inspection = inspection.expected_products

-- these are the rules on a side of the layout's step or inspection
abbrev pub AreRulesOf : Layout → Item → Side → List Rule → Type 0
AreRulesOf layout (Step name) side rules =
    (step : LayoutStep) × Contains layout.steps step × (step.name ≡ name)
    × (rules ≡ rules_of_step side step)
AreRulesOf layout (Inspection name) side rules =
    (inspection : LayoutInspection) × Contains layout.inspections inspection
    × (inspection.name ≡ name) × (rules ≡ rules_of_inspection side inspection)

-- the note is true of the rules on a side of the layout's step or inspection
pub record HasRules (layout : Layout) (item : Item) (side : Side) (note : RuleListNote)
    : Type 0 where
  pub rules : List Rule
  pub are_rules : AreRulesOf layout item side rules
  pub is_so : IsOfRules layout rules note

-- a step of the layout may be signed for by a key id, for which the layout has no key object
pub record HasNoKeyObject (layout : Layout) (step id : List ℕ) : Type 0 where
  pub of : LayoutStep
  pub in_layout : Contains layout.steps of
  pub named : of.name ≡ step
  pub may_sign : Contains of.pubkeys id
  pub no_object : get layout.keys id ≡ None

-- the note is true of the layout
abbrev pub Holds : Layout → LayoutNote → Type 0
Holds layout (Rules item side note) = HasRules layout item side note
Holds layout (NoKeyObject step id) = HasNoKeyObject layout step id
