-- A part that fails leaves no record.
use Rattle.std.proofs.Common.{◌≡◌, ℕ, List, [], ◌∷◌, ◌++◌, codes, Bool, true, false, true≢false}
use Rattle.std.proofs.Common.{◌||◌, IsTrue, is_some, refl, sym, subst, ◌∙◌}
use Rattle.std.specs.List.{AllByRecursion, IsDistinct, list_any}
use Rattle.std.specs.Str.{bytes_eq}
use Rattle.std.proofs.lemmas.Cmp.{nat_list_eq_equiv}
use Rattle.serde_json.specs.Data.{Data, object}
use Rattle.serde_json.specs.Find.{as_object}
use Rattle.it_base.specs.Parts.{IsPart}
use Rattle.it_base.specs.Text.{IsText}
use Rattle.it_dsse.specs.KeyObject.{IsKeyObject}
use Rattle.it_docs.specs.Layout.{IsLayout, LayoutOf}
use Rattle.it_docs.specs.LayoutPart as layout_part
use Rattle.it_docs.specs.Policy.{IsExpectation, IsPolicy, PolicyOf}
use Rattle.it_docs.specs.PolicyPart as policy_part
use Rattle.it_docs.specs.Step.{IsInspection, IsStep, names_of}
use Rattle.it_base.specs.Table.{IsTable}
use Rattle.it_docs.specs.declared.layout.Layout.{Layout}
use Rattle.it_docs.specs.declared.layout_fault.LayoutPart.{LayoutPart}
use Rattle.it_docs.specs.declared.layout_fault.LayoutPart.TheVariants as l
use Rattle.it_docs.specs.declared.policy.Policy.{Policy}
use Rattle.it_docs.specs.declared.policy_fault.PolicyPart.{PolicyPart}
use Rattle.it_docs.specs.declared.policy_fault.PolicyPart.TheVariants as p
use Rattle.it_base.proofs.Lists.{list_reads}
use Rattle.it_docs.proofs.Same.{inspections_same, steps_same}

-- what has a member is an object
part_of_object : {X : Type 0} (P : Data → X → Type 0) (name : List ℕ) (d : Data) (x : X)
    → IsPart P name d x → IsTrue (is_some (as_object d))
part_of_object P name (object ms) x h = refl
part_of_object P name d x h = absurd h

apart_later : (name other : List ℕ) (front rest : List (List ℕ))
    → AllByRecursion (λ y. bytes_eq other y ≡ false) (front ++ name ∷ rest)
    → bytes_eq other name ≡ false
apart_later name other [] rest h = h.0
apart_later name other (f ∷ front) rest h = apart_later name other front rest h.1

or_false : (a b : Bool) → a ≡ false → (a || b) ≡ true → b ≡ true
or_false true b e f = absurd (true≢false e)
or_false false b e f = f

-- names that differ have no repeat
pub no_repeat : (name : List ℕ) (front rest : List (List ℕ))
    → IsDistinct bytes_eq (front ++ name ∷ rest) → list_any (bytes_eq name) front ≡ true → ⊥
unfolding IsDistinct
no_repeat name [] rest h there = true≢false (sym there)
no_repeat name (f ∷ front) rest h there =
    no_repeat name front rest h.1 (or_false (bytes_eq name f) (list_any (bytes_eq name) front)
    (nat_list_eq_equiv.symm name f ∙ apart_later name f front rest h.0) there)

pub layout_reads : (d : Data) (layout : Layout) → IsLayout d layout → (part : LayoutPart)
    → layout_part.PartReads d part
layout_reads d layout is l.Json = part_of_object IsText (codes "_type") d
    (codes "layout") is.type_is
layout_reads d layout is l.WrongType = is.type_is
layout_reads d layout is l.Expires = (layout.expires, is.expires)
layout_reads d layout is l.Keys = (layout.keys, is.keys)
layout_reads d layout is l.Steps = (list_reads IsStep (codes "steps") d layout.steps is.steps).0
layout_reads d layout is (l.Step n) = (list_reads IsStep (codes "steps") d layout.steps is.steps).1
    n
layout_reads d layout is l.Inspects =
    (list_reads IsInspection (codes "inspect") d layout.inspections is.inspections).0
layout_reads d layout is (l.Inspect n) =
    (list_reads IsInspection (codes "inspect") d layout.inspections is.inspections).1 n
layout_reads d layout is (l.DuplicateName name) =
    λ steps inspections are_steps are_inspections repeat.
    let same_steps = steps_same d steps layout.steps are_steps is.steps in
    let same_inspections = inspections_same d inspections layout.inspections are_inspections
    is.inspections in
    let names : names_of layout.steps layout.inspections ≡ repeat.front ++ name ∷ repeat.rest =
    sym (λ i. names_of (same_steps i) (same_inspections i)) ∙ repeat.names_are in
    no_repeat name repeat.front repeat.rest (subst (IsDistinct bytes_eq) names layout.names_differ)
    repeat.stood_before

pub no_layout : (bytes : List ℕ) (part : LayoutPart) → layout_part.LayoutPartOf bytes part
    → (layout : Layout) → LayoutOf bytes layout → ⊥
no_layout bytes part first layout is = first.fails (is.0, is.1, layout_reads is.0 layout is.2 part)

pub policy_reads : (d : Data) (policy : Policy) → IsPolicy d policy → (part : PolicyPart)
    → policy_part.PartReads d part
policy_reads d policy is p.Json = part_of_object (IsTable IsKeyObject) (codes "owners") d
    policy.owners is.owners
policy_reads d policy is p.Owners = (
  policy.owners,
  record {
    part = is.owners;
    some = policy.some_owner;
  },
)
policy_reads d policy is p.Deliver = (policy.deliver, is.deliver)
policy_reads d policy is p.Expectations =
    (list_reads IsExpectation (codes "expectations") d policy.expectations is.expectations).0
policy_reads d policy is (p.Expectation n) =
    (list_reads IsExpectation (codes "expectations") d policy.expectations is.expectations).1 n

pub no_policy : (bytes : List ℕ) (part : PolicyPart) → policy_part.PolicyPartOf bytes part
    → (policy : Policy) → PolicyOf bytes policy → ⊥
no_policy bytes part first policy is = first.fails (is.0, is.1, policy_reads is.0 policy is.2 part)
