-- What the members of a refusal tell of its fault.
use Rattle.std.proofs.Common.{◌≡◌, ◌<◌, ◌^◌, ℕ, List, [], ◌∷◌, Option, Some, None, IfSome}
use Rattle.std.proofs.Common.{codes, get_or, refl, ap, arith}
use Rattle.std.specs.Prelude.{decimal}
use Rattle.std.proofs.lemmas.List.{append_cancel_left}
use Rattle.it_chain.specs.declared.refusal.RuleItem.{RuleItem}
use Rattle.it_chain.specs.declared.refusal.RuleItem.TheVariants.{Step, Inspection, Deliver}
use Rattle.it_docs.specs.declared.layout_fault.LayoutPart.{LayoutPart}
use Rattle.it_docs.specs.declared.layout_fault.LayoutPart.TheVariants.{DuplicateName}
use Rattle.it_docs.specs.declared.policy_fault.PolicyPart.{PolicyPart}
use Rattle.it_docs.specs.declared.rule.Side.{Side}
use Rattle.it_docs.specs.declared.rule.Side.TheVariants.{Materials, Products}
use Rattle.it_report.specs.Fault.{number_of}
use Rattle.it_report.specs.Report.{layout_part_form, line, policy_part_form, side_form}
use Rattle.it_report.specs.ReportLaws.{FaultFits, LayoutPartFits, PolicyPartFits}
use Rattle.it_report.specs.declared.refusal.Fault.{Fault}
use Rattle.it_report.specs.declared.refusal.Fault.TheVariants.{BadPolicy, BadSums, BadSums512}
use Rattle.it_report.specs.declared.refusal.Fault.TheVariants.{BadMoment}
use Rattle.it_report.specs.declared.refusal.Fault.TheVariants.{NoFiles, BadEnvelope}
use Rattle.it_report.specs.declared.refusal.Fault.TheVariants.{WrongPayloadType, OwnerMissing}
use Rattle.it_report.specs.declared.refusal.Fault.TheVariants.{BadLayout, Expired, TwoPayloads}
use Rattle.it_report.specs.declared.refusal.Fault.TheVariants.{TooDeep, Threshold, Disagree}
use Rattle.it_report.specs.declared.refusal.Fault.TheVariants.{InspectionInSublayout, RuleFailed}
use Rattle.it_report.specs.declared.refusal.Fault.TheVariants.{RecordMissing, BadRecord}
use Rattle.it_report.specs.declared.refusal.Fault.TheVariants.{NoExpectation, NoProvenance}
use Rattle.it_report.proofs.FaultForms.{faults_tell}
use Rattle.it_json_report.specs.Json.{json_text}
use Rattle.it_json_report.specs.JsonReport.{best_members, fault_members, item_text}
use Rattle.it_json_report.specs.JsonReport.{layout_part_text}
use Rattle.it_json_report.proofs.MemberForms.{closing, number_member, text_member}
use Rattle.it_json_report.proofs.TextForms.{first}

-- ---- the texts of parts, items and sides
policy_parts_tell : (p q : PolicyPart) → PolicyPartFits p → PolicyPartFits q
    → policy_part_form p ≡ policy_part_form q → BadPolicy p ≡ BadPolicy q
policy_parts_tell p q h k same = faults_tell (BadPolicy p) (BadPolicy q) h k refl
    (ap (line (codes "part")) same)

-- parts whose texts are equal are written alike in lines
layout_forms : (p q : LayoutPart) → layout_part_text p ≡ layout_part_text q
    → layout_part_form p ≡ layout_part_form q
layout_forms (DuplicateName x) (DuplicateName y) same =
    let names : x ≡ y = append_cancel_left (codes "duplicate ") x y same in
    ap (λ name. layout_part_form (DuplicateName name)) names
layout_forms (DuplicateName x) q same = absurd (omega (arith, ap first same))
layout_forms p (DuplicateName y) same = absurd (omega (arith, ap first same))
layout_forms p q same = same

layout_parts_tell : (p q : LayoutPart) → LayoutPartFits p → LayoutPartFits q
    → layout_part_text p ≡ layout_part_text q → BadLayout p ≡ BadLayout q
layout_parts_tell p q h k same = faults_tell (BadLayout p) (BadLayout q) h k refl
    (ap (line (codes "part")) (layout_forms p q same))

items_tell : (a b : RuleItem) → item_text a ≡ item_text b → a ≡ b
items_tell (Step x) (Step y) same = ap Step (append_cancel_left (codes "step ") x y same)
items_tell (Inspection x) (Inspection y) same =
    ap Inspection (append_cancel_left (codes "inspection ") x y same)
items_tell Deliver Deliver same = refl
items_tell a b same = absurd (omega (arith, ap first same))

sides_tell : (a b : Side) → side_form a ≡ side_form b → a ≡ b
sides_tell Materials Materials same = refl
sides_tell Products Products same = refl
sides_tell a b same = absurd (omega (arith, ap first same))

-- ---- faults with several members
-- the members of a threshold from the second on
abbrev needing : ℕ → List (List ℕ × List ℕ)
needing needed = (codes "needed", decimal needed) ∷ []

abbrev finding : ℕ → ℕ → List (List ℕ × List ℕ)
finding found needed = (codes "found", decimal found) ∷ needing needed

-- the members of a rule from the second on
abbrev at_path : List ℕ → List (List ℕ × List ℕ)
at_path path = (codes "path", json_text path) ∷ []

abbrev at_index : ℕ → List ℕ → List (List ℕ × List ℕ)
at_index index path = (codes "rule", decimal index) ∷ at_path path

abbrev on_side : Side → ℕ → List ℕ → List (List ℕ × List ℕ)
on_side side index path = (codes "side", json_text (side_form side)) ∷ at_index index path

module _ (ps qs : List ℕ) where
  two_texts : (first_name name : List ℕ) (a b x y : List ℕ)
      → closing ((first_name, json_text a) ∷ (name, json_text b) ∷ []) ps ≡ closing
      ((first_name, json_text x) ∷ (name, json_text y) ∷ []) qs → (a ≡ x) × (b ≡ y)
  two_texts first_name name a b x y same =
      let parts = text_member first_name a x ((name, json_text b) ∷ []) ((name, json_text y) ∷ [])
      ps qs same in
      (parts.0, (text_member name b y [] [] ps qs parts.1).0)

  thresholds_tell : (a x : List ℕ) (found needed m n : ℕ) → (found < 2 ^ 64) × (needed < 2 ^ 64)
      → (m < 2 ^ 64) × (n < 2 ^ 64) → closing (fault_members (Threshold a found needed)) ps
      ≡ closing (fault_members (Threshold x m n)) qs → Threshold a found needed ≡ Threshold x m n
  thresholds_tell a x found needed m n h k same =
      let steps = text_member (codes "step") a x (finding found needed) (finding m n) ps qs same in
      let counts = number_member (codes "found") found m (needing needed) (needing n) ps qs h.0 k.0
      steps.1 in
      let most = number_member (codes "needed") needed n [] [] ps qs h.1 k.1 counts.1 in
      λ i. Threshold (steps.0 i) (counts.0 i) (most.0 i)

  rules_tell : (a x : RuleItem) (b y : Side) (m n : ℕ) (p q : List ℕ) → m < 2 ^ 64 → n < 2 ^ 64
      → closing (fault_members (RuleFailed a b m p)) ps ≡ closing
      (fault_members (RuleFailed x y n q)) qs → RuleFailed a b m p ≡ RuleFailed x y n q
  rules_tell a x b y m n p q h k same =
      let items = text_member (codes "item") (item_text a) (item_text x) (on_side b m p)
      (on_side y n q) ps qs same in
      let sides = text_member (codes "side") (side_form b) (side_form y) (at_index m p)
      (at_index n q) ps qs items.1 in
      let numbers = number_member (codes "rule") m n (at_path p) (at_path q) ps qs h k sides.1 in
      let paths = text_member (codes "path") p q [] [] ps qs numbers.1 in
      let item_same = items_tell a x items.0 in
      let side_same = sides_tell b y sides.0 in
      λ i. RuleFailed (item_same i) (side_same i) (numbers.0 i) (paths.0 i)

  bests_tell : (a b : Option ℕ) → IfSome a (λ level. level < 2 ^ 64)
      → IfSome b (λ level. level < 2 ^ 64) → closing (best_members a) ps ≡ closing
      (best_members b) qs → a ≡ b
  bests_tell None None h k same = refl
  bests_tell (Some m) (Some n) h k same =
      ap Some (number_member (codes "best") m n [] [] ps qs h k same).0
  bests_tell a b h k same = absurd (omega (arith, ap first same))

  provenances_tell : (x y : List ℕ) (a b : Option ℕ) → IfSome a (λ level. level < 2 ^ 64)
      → IfSome b (λ level. level < 2 ^ 64) → closing (fault_members (NoProvenance x a)) ps
      ≡ closing (fault_members (NoProvenance y b)) qs → NoProvenance x a ≡ NoProvenance y b
  provenances_tell x y a b h k same =
      let parts = text_member (codes "path") x y (best_members a) (best_members b) ps qs same in
      let best = bests_tell a b h k parts.1 in
      λ i. NoProvenance (parts.0 i) (best i)

  one_text : (name a b : List ℕ) → closing ((name, json_text a) ∷ []) ps ≡ closing
      ((name, json_text b) ∷ []) qs → a ≡ b
  one_text name a b same = (text_member name a b [] [] ps qs same).0

  -- ---- faults
  pub members_tell : (a b : Fault) → FaultFits a → FaultFits b → number_of a ≡ number_of b → closing
      (fault_members a) ps ≡ closing (fault_members b) qs → a ≡ b
  members_tell (BadPolicy p) (BadPolicy q) h k number same =
      policy_parts_tell p q h k (one_text (codes "part") (policy_part_form p) (policy_part_form q)
      same)
  members_tell (BadSums m) (BadSums n) h k number same =
      ap BadSums (number_member (codes "line") m n [] [] ps qs h k same).0
  members_tell (BadSums512 m) (BadSums512 n) h k number same =
      let lists = text_member (codes "list") (codes "sha512") (codes "sha512")
      ((codes "line", decimal m) ∷ []) ((codes "line", decimal n) ∷ []) ps qs same in
      ap BadSums512 (number_member (codes "line") m n [] [] ps qs h k lists.1).0
  members_tell (BadSums m) (BadSums512 n) h k number same =
      absurd (omega (arith, ap (λ text. get_or text 4 0) same))
  members_tell (BadSums512 m) (BadSums n) h k number same =
      absurd (omega (arith, ap (λ text. get_or text 4 0) same))
  members_tell BadMoment BadMoment h k number same = refl
  members_tell NoFiles NoFiles h k number same = refl
  members_tell BadEnvelope BadEnvelope h k number same = refl
  members_tell WrongPayloadType WrongPayloadType h k number same = refl
  members_tell (OwnerMissing x) (OwnerMissing y) h k number same =
      ap OwnerMissing (one_text (codes "key") x y same)
  members_tell (BadLayout p) (BadLayout q) h k number same =
      layout_parts_tell p q h k (one_text (codes "part") (layout_part_text p) (layout_part_text q)
      same)
  members_tell Expired Expired h k number same = refl
  members_tell (TwoPayloads a b) (TwoPayloads x y) h k number same =
      let parts = two_texts (codes "step") (codes "key") a b x y same in
      λ i. TwoPayloads (parts.0 i) (parts.1 i)
  members_tell TooDeep TooDeep h k number same = refl
  members_tell (Threshold a found needed) (Threshold x m n) h k number same =
      thresholds_tell a x found needed m n h k same
  members_tell (Disagree a b) (Disagree x y) h k number same =
      let parts = two_texts (codes "step") (codes "key") a b x y same in
      λ i. Disagree (parts.0 i) (parts.1 i)
  members_tell InspectionInSublayout InspectionInSublayout h k number same = refl
  members_tell (RuleFailed a b m p) (RuleFailed x y n q) h k number same =
      rules_tell a x b y m n p q h k same
  members_tell (RecordMissing x) (RecordMissing y) h k number same =
      ap RecordMissing (one_text (codes "inspection") x y same)
  members_tell (BadRecord x) (BadRecord y) h k number same =
      ap BadRecord (one_text (codes "inspection") x y same)
  members_tell (NoExpectation x) (NoExpectation y) h k number same =
      ap NoExpectation (one_text (codes "path") x y same)
  members_tell (NoProvenance x a) (NoProvenance y b) h k number same =
      provenances_tell x y a b h k same
  members_tell a b h k number same = absurd (omega (arith, number))
