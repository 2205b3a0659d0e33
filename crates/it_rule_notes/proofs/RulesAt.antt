-- The rules at a place are one list at most.
use Rattle.std.proofs.Common.{◌≡◌, ◌∙◌, List, [], Contains, ap, append-nil, map, subst, sym}
use Rattle.std.proofs.lemmas.Map.Made.{AllPairs-from_IsDistinct}
use Rattle.std.proofs.lemmas.Slice.Eq.{bytes_eq-Decides}
use Rattle.it_docs.specs.Step.{names_of}
use Rattle.it_docs.specs.declared.layout.Layout.{Layout}
use Rattle.it_docs.specs.declared.rule.Rule.{Rule}
use Rattle.it_docs.specs.declared.rule.Side.{Side}
use Rattle.it_docs.specs.declared.rule.Side.TheVariants.{Materials, Products}
use Rattle.it_docs.specs.declared.step.Inspection.{Inspection}
use Rattle.it_docs.specs.declared.step.Step.{Step}
use Rattle.it_chain.specs.StepRules.{rules_on}
use Rattle.it_chain.specs.declared.refusal.RuleItem.{RuleItem}
use Rattle.it_chain.specs.declared.refusal.RuleItem.TheVariants.{Step as of_step}
use Rattle.it_chain.specs.declared.refusal.RuleItem.TheVariants.{Inspection as of_inspection}
use Rattle.it_chain.specs.declared.refusal.RuleItem.TheVariants.{Deliver as of_delivery}
use Rattle.it_rule_notes.specs.RulePlace.{AreRulesAt, inspection_rules}
use Rattle.it_docs.proofs.OneName.{Differ, differ_back, one_named}

module _ (layout : Layout) where
  names : Differ (names_of layout.steps layout.inspections)
  names = AllPairs-from_IsDistinct bytes_eq-Decides (names_of layout.steps layout.inspections)
      layout.names_differ

  one_step : (x y : Step) → Contains layout.steps x → Contains layout.steps y → x.name ≡ y.name
      → x ≡ y
  one_step = one_named (λ (s : Step). s.name)
      (map (λ (i : Inspection). i.name) layout.inspections) layout.steps names

  one_inspection : (x y : Inspection) → Contains layout.inspections x
      → Contains layout.inspections y → x.name ≡ y.name → x ≡ y
  one_inspection =
      let of_inspections = map (λ (i : Inspection). i.name) layout.inspections in
      one_named (λ (i : Inspection). i.name) [] layout.inspections
      (subst Differ (sym (append-nil of_inspections))
      (differ_back (map (λ (s : Step). s.name) layout.steps) of_inspections names))

  pub one_rules : (deliver : List Rule) (item : RuleItem) (side : Side) (a b : List Rule)
      → AreRulesAt layout deliver item side a → AreRulesAt layout deliver item side b → a ≡ b
  one_rules deliver (of_step name) side a b h k =
      h.3 ∙ ap (rules_on side) (one_step h.0 k.0 h.1 k.1 (h.2 ∙ sym k.2)) ∙ sym k.3
  one_rules deliver (of_inspection name) side a b h k =
      h.3 ∙ ap (inspection_rules side) (one_inspection h.0 k.0 h.1 k.1 (h.2 ∙ sym k.2)) ∙ sym k.3
  one_rules deliver of_delivery Materials a b h k = absurd h
  one_rules deliver of_delivery Products a b h k = h ∙ sym k
