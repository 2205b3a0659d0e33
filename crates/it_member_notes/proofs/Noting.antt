-- What makes the notes on a layout true.
use Rattle.std.proofs.Common.{◌≡◌, List, Option, Some, None, Bool, true}
use Rattle.std.proofs.Common.{false, is_some, Contains, refl}
use Rattle.it_docs.specs.declared.layout.Layout.{Layout}
use Rattle.it_docs.specs.declared.rule.Rule.{Rule}
use Rattle.it_docs.specs.declared.rule.Side.{Side}
use Rattle.it_docs.specs.declared.step.Step.{Step as LayoutStep}
use Rattle.it_member_notes.specs.LayoutNotes.{AreRulesOf, rules_of_step}
use Rattle.it_member_notes.specs.declared.layout_note.Item.{Item}
use Rattle.it_member_notes.specs.declared.layout_note.Item.TheVariants.{Step}

-- what is not there is nothing
pub none_is : {X : Type 0} (o : Option X) → is_some o ≡ false → o ≡ None
none_is None e = refl
none_is (Some x) e = absurd (cc)

-- what a test would have found does not hold where it fails
pub not_so : (b : Bool) (P : Type 0) → (P → b ≡ true) → b ≡ false → ¬ P
not_so b P found fails p = let finds = found p in absurd (cc)

-- the rules of a step, with all of it by its own name
pub are_rules_of_step : (layout : Layout) (item : Item) (side of_side : Side) (rules : List Rule)
    (step : LayoutStep) → Contains layout.steps step → item ≡ Step step.name → side ≡ of_side
    → rules ≡ rules_of_step of_side step → AreRulesOf layout item side rules
are_rules_of_step layout item side of_side rules step within named on are =
    rw (named, on) (step, within, refl, are)
