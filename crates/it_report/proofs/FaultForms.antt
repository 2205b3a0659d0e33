-- What the lines of a refusal tell of its fault.
use Rattle.std.proofs.Common.{◌≡◌, ◌==◌, ◌<◌, ◌+◌, ◌^◌, ℕ, if◌then◌else◌, List, ◌++◌, Option, Some}
use Rattle.std.proofs.Common.{None, IfSome, codes, get_or, refl, sym, ap, ◌∙◌, append_assoc, arith}
use Rattle.std.proofs.Common.{lit≤}
use Rattle.std.specs.Prelude.{decimal}
use Rattle.std.proofs.lemmas.Fmt.{decimal_injective}
use Rattle.std.proofs.lemmas.List.{append_cancel_left}
use Rattle.it_chain.specs.declared.refusal.RuleItem.{RuleItem}
use Rattle.it_chain.specs.declared.refusal.RuleItem.TheVariants.{Step as of_step, Inspection}
use Rattle.it_chain.specs.declared.refusal.RuleItem.TheVariants.{Deliver as of_delivery}
use Rattle.it_docs.specs.declared.layout_fault.LayoutPart.{LayoutPart}
use Rattle.it_docs.specs.declared.layout_fault.LayoutPart.TheVariants.{Json as layout_json}
use Rattle.it_docs.specs.declared.layout_fault.LayoutPart.TheVariants.{WrongType, Expires, Keys}
use Rattle.it_docs.specs.declared.layout_fault.LayoutPart.TheVariants.{Steps, Step as step_at}
use Rattle.it_docs.specs.declared.layout_fault.LayoutPart.TheVariants.{Inspects, Inspect}
use Rattle.it_docs.specs.declared.layout_fault.LayoutPart.TheVariants.{DuplicateName}
use Rattle.it_docs.specs.declared.policy_fault.PolicyPart.{PolicyPart}
use Rattle.it_docs.specs.declared.policy_fault.PolicyPart.TheVariants.{Json as policy_json, Owners}
use Rattle.it_docs.specs.declared.policy_fault.PolicyPart.TheVariants.{Deliver, Expectations}
use Rattle.it_docs.specs.declared.policy_fault.PolicyPart.TheVariants.{Expectation}
use Rattle.it_docs.specs.declared.rule.Side.{Side}
use Rattle.it_docs.specs.declared.rule.Side.TheVariants.{Materials, Products}
use Rattle.it_report.specs.Fault.{number_of}
use Rattle.it_report.specs.Name.{name_form}
use Rattle.it_report.specs.Report.{best_lines, fault_lines, item_form, layout_part_form, line}
use Rattle.it_report.specs.Report.{policy_part_form, side_form}
use Rattle.it_report.specs.ReportLaws.{FaultFits, LayoutPartFits, PolicyPartFits}
use Rattle.it_report.specs.declared.refusal.Fault.{Fault}
use Rattle.it_report.specs.declared.refusal.Fault.TheVariants.{BadPolicy, BadSums, BadSums512}
use Rattle.it_report.specs.declared.refusal.Fault.TheVariants.{BadMoment}
use Rattle.it_report.specs.declared.refusal.Fault.TheVariants.{NoFiles, BadEnvelope}
use Rattle.it_report.specs.declared.refusal.Fault.TheVariants.{WrongPayloadType, OwnerMissing}
use Rattle.it_report.specs.declared.refusal.Fault.TheVariants.{BadLayout, Expired, TwoPayloads}
use Rattle.it_report.specs.declared.refusal.Fault.TheVariants.{TooDeep, Threshold, Disagree}
use Rattle.it_report.specs.declared.refusal.Fault.TheVariants.{InspectionInSublayout, RuleFailed}
use Rattle.it_report.specs.declared.refusal.Fault.TheVariants.{RecordMissing, BadRecord}
use Rattle.it_report.specs.declared.refusal.Fault.TheVariants.{NoExpectation, NoProvenance}
use Rattle.it_report.proofs.Cut.{Lacks, Lacks-append, Lacks-test}
use Rattle.it_report.proofs.Forms.{forms_tell, name_form-lacks}
use Rattle.it_report.proofs.LineForms.{last_name, last_number, last_tells, line_tells, name_then}
use Rattle.it_report.proofs.LineForms.{number_then}

-- ---- the forms of parts, items and sides
-- a number of a text: of those that the forms of parts begin with, no two have one
abbrev kind : List ℕ → ℕ
kind text = if get_or text 0 0 == 115 then get_or text 4 0 else (if get_or text 0 0 == 105 then 1000
    + get_or text 7 0 else (if get_or text 0 0 == 101 then 2000 + get_or text 11 0 else 3000
    + get_or text 0 0))

policy_parts_tell : (a b : PolicyPart) → PolicyPartFits a → PolicyPartFits b
    → policy_part_form a ≡ policy_part_form b → a ≡ b
policy_parts_tell policy_json policy_json h k same = refl
policy_parts_tell Owners Owners h k same = refl
policy_parts_tell Deliver Deliver h k same = refl
policy_parts_tell Expectations Expectations h k same = refl
policy_parts_tell (Expectation m) (Expectation n) h k same =
    ap Expectation (decimal_injective m n h k (append_cancel_left (codes "expectation ") (decimal m)
    (decimal n) same))
policy_parts_tell a b h k same = absurd (omega (arith, ap kind same))

layout_parts_tell : (a b : LayoutPart) → LayoutPartFits a → LayoutPartFits b
    → layout_part_form a ≡ layout_part_form b → a ≡ b
layout_parts_tell layout_json layout_json h k same = refl
layout_parts_tell WrongType WrongType h k same = refl
layout_parts_tell Expires Expires h k same = refl
layout_parts_tell Keys Keys h k same = refl
layout_parts_tell Steps Steps h k same = refl
layout_parts_tell (step_at m) (step_at n) h k same =
    ap step_at (decimal_injective m n h k (append_cancel_left (codes "step ") (decimal m)
    (decimal n) same))
layout_parts_tell Inspects Inspects h k same = refl
layout_parts_tell (Inspect m) (Inspect n) h k same =
    ap Inspect (decimal_injective m n h k (append_cancel_left (codes "inspect ") (decimal m)
    (decimal n) same))
layout_parts_tell (DuplicateName x) (DuplicateName y) h k same =
    ap DuplicateName (forms_tell x y (append_cancel_left (codes "duplicate ") (name_form x)
    (name_form y) same))
layout_parts_tell a b h k same = absurd (omega (arith, ap kind same))

items_tell : (a b : RuleItem) → item_form a ≡ item_form b → a ≡ b
items_tell (of_step x) (of_step y) same =
    ap of_step (forms_tell x y (append_cancel_left (codes "step ") (name_form x)
    (name_form y) same))
items_tell (Inspection x) (Inspection y) same =
    ap Inspection (forms_tell x y (append_cancel_left (codes "inspection ") (name_form x)
    (name_form y) same))
items_tell of_delivery of_delivery same = refl
items_tell a b same = absurd (omega (arith, ap (λ text. get_or text 0 0) same))

sides_tell : (a b : Side) → side_form a ≡ side_form b → a ≡ b
sides_tell Materials Materials same = refl
sides_tell Products Products same = refl
sides_tell a b same = absurd (omega (arith, ap (λ text. get_or text 0 0) same))

item_form-lacks : (item : RuleItem) → Lacks 10 (item_form item)
item_form-lacks (of_step name) = Lacks-append 10 (codes "step ") (name_form name)
    (Lacks-test 10 (codes "step ") refl) (name_form-lacks 10 name (lit≤ tt))
item_form-lacks (Inspection name) = Lacks-append 10 (codes "inspection ") (name_form name)
    (Lacks-test 10 (codes "inspection ") refl) (name_form-lacks 10 name (lit≤ tt))
item_form-lacks of_delivery = Lacks-test 10 (codes "deliver") refl

side_form-lacks : (side : Side) → Lacks 10 (side_form side)
side_form-lacks Materials = Lacks-test 10 (codes "materials") refl
side_form-lacks Products = Lacks-test 10 (codes "products") refl

-- ---- several lines
two_names : (word second : List ℕ) (a b x y : List ℕ) → line word (name_form a)
    ++ line second (name_form b) ≡ line word (name_form x) ++ line second (name_form y) → (a ≡ x)
    × (b ≡ y)
two_names word second a b x y same =
    let parts = name_then word a x (line second (name_form b)) (line second (name_form y)) same in
    (parts.0, last_name second b y parts.1)

thresholds_tell : (a x : List ℕ) (found needed m n : ℕ) → (found < 2 ^ 64) × (needed < 2 ^ 64)
    → (m < 2 ^ 64) × (n < 2 ^ 64) → fault_lines (Threshold a found needed) ≡ fault_lines
    (Threshold x m n) → Threshold a found needed ≡ Threshold x m n
thresholds_tell a x found needed m n h k same =
    let step = λ (name : List ℕ). line (codes "step") (name_form name) in
    let many = λ (count : ℕ). line (codes "found") (decimal count) in
    let most = λ (count : ℕ). line (codes "needed") (decimal count) in
    let names = name_then (codes "step") a x (many found ++ most needed) (many m ++ most n)
    (sym (append_assoc (step a) (many found) (most needed)) ∙ same
    ∙ append_assoc (step x) (many m) (most n)) in
    let counts = number_then (codes "found") found m (most needed) (most n) h.0 k.0 names.1 in
    let last = last_number (codes "needed") needed n h.1 k.1 counts.1 in
    λ i. Threshold (names.0 i) (counts.0 i) (last i)

rules_tell : (a x : RuleItem) (b y : Side) (m n : ℕ) (p q : List ℕ) → m < 2 ^ 64 → n < 2 ^ 64
    → fault_lines (RuleFailed a b m p) ≡ fault_lines (RuleFailed x y n q)
    → RuleFailed a b m p ≡ RuleFailed x y n q
rules_tell a x b y m n p q h k same =
    let item = λ (i : RuleItem). line (codes "item") (item_form i) in
    let side = λ (s : Side). line (codes "side") (side_form s) in
    let index = λ (k : ℕ). line (codes "rule") (decimal k) in
    let path = λ (t : List ℕ). line (codes "path") (name_form t) in
    let items = line_tells (codes "item") (item_form a) (item_form x)
    (side b ++ (index m ++ path p)) (side y ++ (index n ++ path q)) (item_form-lacks a)
    (item_form-lacks x)
    (sym (append_assoc (item a ++ side b) (index m) (path p) ∙ append_assoc (item a) (side b)
    (index m ++ path p)) ∙ same ∙ append_assoc (item x ++ side y) (index n) (path q)
    ∙ append_assoc (item x) (side y) (index n ++ path q)) in
    let sides = line_tells (codes "side") (side_form b) (side_form y) (index m ++ path p)
    (index n ++ path q) (side_form-lacks b) (side_form-lacks y) items.1 in
    let numbers = number_then (codes "rule") m n (path p) (path q) h k sides.1 in
    let item_same = items_tell a x items.0 in
    let side_same = sides_tell b y sides.0 in
    let path_same = last_name (codes "path") p q numbers.1 in
    λ i. RuleFailed (item_same i) (side_same i) (numbers.0 i) (path_same i)

bests_tell : (a b : Option ℕ) → IfSome a (λ level. level < 2 ^ 64)
    → IfSome b (λ level. level < 2 ^ 64) → best_lines a ≡ best_lines b → a ≡ b
bests_tell None None h k same = refl
bests_tell (Some m) (Some n) h k same = ap Some (last_number (codes "best") m n h k same)
bests_tell a b h k same = absurd (omega (arith, ap (λ text. get_or text 0 0) same))

provenances_tell : (x y : List ℕ) (a b : Option ℕ) → IfSome a (λ level. level < 2 ^ 64)
    → IfSome b (λ level. level < 2 ^ 64) → fault_lines (NoProvenance x a) ≡ fault_lines
    (NoProvenance y b) → NoProvenance x a ≡ NoProvenance y b
provenances_tell x y a b h k same =
    let parts = name_then (codes "path") x y (best_lines a) (best_lines b) same in
    let best = bests_tell a b h k parts.1 in
    λ i. NoProvenance (parts.0 i) (best i)

-- ---- faults
pub faults_tell : (a b : Fault) → FaultFits a → FaultFits b → number_of a ≡ number_of b
    → fault_lines a ≡ fault_lines b → a ≡ b
faults_tell (BadPolicy p) (BadPolicy q) h k number same =
    ap BadPolicy (policy_parts_tell p q h k (last_tells (codes "part") (policy_part_form p)
    (policy_part_form q) same))
faults_tell (BadSums m) (BadSums n) h k number same =
    ap BadSums (last_number (codes "line") m n h k same)
faults_tell (BadSums512 m) (BadSums512 n) h k number same =
    ap BadSums512 (last_number (codes "line") m n h k (append_cancel_left
    (line (codes "list") (codes "sha512")) (line (codes "line") (decimal m))
    (line (codes "line") (decimal n)) same))
faults_tell (BadSums m) (BadSums512 n) h k number same =
    absurd (omega (arith, ap (λ text. get_or text 2 0) same))
faults_tell (BadSums512 m) (BadSums n) h k number same =
    absurd (omega (arith, ap (λ text. get_or text 2 0) same))
faults_tell BadMoment BadMoment h k number same = refl
faults_tell NoFiles NoFiles h k number same = refl
faults_tell BadEnvelope BadEnvelope h k number same = refl
faults_tell WrongPayloadType WrongPayloadType h k number same = refl
faults_tell (OwnerMissing x) (OwnerMissing y) h k number same =
    ap OwnerMissing (last_name (codes "key") x y same)
faults_tell (BadLayout p) (BadLayout q) h k number same =
    ap BadLayout (layout_parts_tell p q h k (last_tells (codes "part") (layout_part_form p)
    (layout_part_form q) same))
faults_tell Expired Expired h k number same = refl
faults_tell (TwoPayloads a b) (TwoPayloads x y) h k number same = let parts =
    two_names (codes "step") (codes "key") a b x y same in λ i. TwoPayloads (parts.0 i) (parts.1 i)
faults_tell TooDeep TooDeep h k number same = refl
faults_tell (Threshold a found needed) (Threshold x m n) h k number same =
    thresholds_tell a x found needed m n h k same
faults_tell (Disagree a b) (Disagree x y) h k number same = let parts =
    two_names (codes "step") (codes "key") a b x y same in λ i. Disagree (parts.0 i) (parts.1 i)
faults_tell InspectionInSublayout InspectionInSublayout h k number same = refl
faults_tell (RuleFailed a b m p) (RuleFailed x y n q) h k number same =
    rules_tell a x b y m n p q h k same
faults_tell (RecordMissing x) (RecordMissing y) h k number same =
    ap RecordMissing (last_name (codes "name") x y same)
faults_tell (BadRecord x) (BadRecord y) h k number same =
    ap BadRecord (last_name (codes "name") x y same)
faults_tell (NoExpectation x) (NoExpectation y) h k number same =
    ap NoExpectation (last_name (codes "path") x y same)
faults_tell (NoProvenance x a) (NoProvenance y b) h k number same =
    provenances_tell x y a b h k same
faults_tell a b h k number same = absurd (omega (arith, number))
