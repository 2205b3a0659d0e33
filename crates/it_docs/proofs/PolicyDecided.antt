-- Which policy bytes are, or which part fails first, as an answer.
use Rattle.std.proofs.Common.{◌≡◌, ◌≢◌, ℕ, zero, suc, ◌≤◌, List, [], Bool, true, false, cond, eqb}
use Rattle.std.proofs.Common.{eqb-true, eq-eqb, codes, Option, Some, None, MatchOption, option_map}
use Rattle.std.proofs.Common.{option_and_then, is_some, Result, Ok, Err, MatchResult, Decides}
use Rattle.std.proofs.Common.{arith, refl, true≢false, sym, ap, ◌∙◌, inl, inr}
use Rattle.std.specs.FinMap.{empty, empty_of_len, len, len-empty}
use Rattle.std.proofs.lemmas.Option.{same_Some}
use Rattle.serde_json.specs.Data.{Data}
use Rattle.serde_json.specs.Find.{as_number, as_object, as_str, as_u64}
use Rattle.it_base.specs.Document.{IsDocument}
use Rattle.it_base.specs.Finds.{Finds}
use Rattle.it_base.specs.Parts.{IsPart, IsPartOr}
use Rattle.it_base.specs.Sequence.{IsList}
use Rattle.it_base.specs.Text.{IsText}
use Rattle.it_base.proofs.Decided.{Reads, both_of, finds_both, finds_like, list_of, list_reads}
use Rattle.it_base.proofs.Decided.{or_fault, or_fault-is, part_of, part_or_of, part_or_reads}
use Rattle.it_base.proofs.Decided.{part_reads, text_reads}
use Rattle.it_dsse.specs.KeyObject.{IsKeyObject}
use Rattle.it_dsse.specs.declared.key_object.KeyObject.{KeyObject}
use Rattle.it_dsse.proofs.Decided.{key_object_of, key_object_reads}
use Rattle.it_base.specs.Json.{Fields, no_fields}
use Rattle.it_docs.specs.Level.{IsLevel, IsLevelPart}
use Rattle.it_base.specs.List.{IsFirstBad, IsListOrMissing, items_at}
use Rattle.it_docs.specs.Policy.{IsBuilderOf, IsExpectation, IsPolicy, PolicyOf}
use Rattle.it_docs.specs.PolicyPart.{PartReads, PolicyPartOf, place}
use Rattle.it_docs.specs.inside.PolicyFaults.{IsPolicyFault}
use Rattle.it_docs.specs.Rule.{IsRule}
use Rattle.it_base.specs.Table.{IsTable, Named}
use Rattle.it_base.specs.TreeOf.{IsMembers}
use Rattle.it_docs.specs.declared.policy.Builder.{Builder}
use Rattle.it_docs.specs.declared.policy.Expectation.{Expectation}
use Rattle.it_docs.specs.declared.policy.Policy.{Policy}
use Rattle.it_docs.specs.declared.policy_fault.PolicyFault.TheVariants.{BadPolicy}
use Rattle.it_docs.specs.declared.policy_fault.PolicyPart.{PolicyPart}
use Rattle.it_docs.specs.declared.policy_fault.PolicyPart.TheVariants.{Json, Owners, Deliver}
use Rattle.it_docs.specs.declared.policy_fault.PolicyPart.TheVariants.{Expectations}
use Rattle.it_docs.specs.declared.policy_fault.PolicyPart.TheVariants.{Expectation as NoExpectation}
use Rattle.it_docs.specs.declared.rule.Rule.{Rule}
use Rattle.it_base.proofs.ListDecided.{numbered_of, numbered_of-is}
use Rattle.it_base.proofs.Lists.{item_fault}
use Rattle.it_docs.proofs.PartsDecided.{data_of, data_of-finds, nothing_first, or_place_fault}
use Rattle.it_docs.proofs.PartsDecided.{or_place_fault-is}
use Rattle.it_docs.proofs.PolicyParts.{IsHead, deliver_fault, expectations_fault, fault_of_document}
use Rattle.it_docs.proofs.PolicyParts.{owners_fault}
use Rattle.it_docs.proofs.Same.{keys_same, part_same}
use Rattle.it_docs.proofs.StatementDecided.{members_of, members_reads}
use Rattle.it_docs.proofs.StepDecided.{rules_of, rules_reads}
use Rattle.it_base.proofs.TableDecided.{table_of, table_reads}
use Rattle.it_base.proofs.TableLemmas.{text_cmp}

-- ---- levels

abbrev at_most_three : ℕ → Option ℕ
at_most_three zero = Some 0
at_most_three (suc zero) = Some 1
at_most_three (suc (suc zero)) = Some 2
at_most_three (suc (suc (suc zero))) = Some 3
at_most_three (suc (suc (suc (suc n)))) = None

-- decides `IsLevel`
abbrev level_of : Data → Option ℕ
level_of d = option_and_then at_most_three (option_and_then as_u64 (as_number d))

level_found : (found : Option ℕ) → Finds (λ n. (found ≡ Some n) × (n ≤ 3))
    (option_and_then at_most_three found)
level_found None = λ n h. let none = h.0 in cc
level_found (Some zero) = (refl, omega arith)
level_found (Some (suc zero)) = (refl, omega arith)
level_found (Some (suc (suc zero))) = (refl, omega arith)
level_found (Some (suc (suc (suc zero)))) = (refl, omega arith)
level_found (Some (suc (suc (suc (suc n))))) = λ m h. let same =
    same_Some (suc (suc (suc (suc n)))) m h.0 in absurd (omega (arith, same, h.1))

level_reads : Reads IsLevel level_of
level_reads d = go (level_of d) (level_found (option_and_then as_u64 (as_number d)))
  where
    go : (found : Option ℕ) → Finds (λ n. (option_and_then as_u64 (as_number d) ≡ Some n) × (n ≤ 3))
        found → Finds (IsLevel d) found
    go None h = λ n is. h n (is.number_is, is.at_most_three)
    go (Some n) h = record { number_is = h.0; at_most_three = h.1 }

-- decides `IsLevelPart`
abbrev level_part_of : Data → Option ℕ
level_part_of = part_or_of level_of 0 (codes "level")

level_part_reads : Reads IsLevelPart level_part_of
level_part_reads = part_or_reads IsLevel level_of level_reads 0 (codes "level")

-- ---- expectations

abbrev keys_of : Data → Option (Named KeyObject)
keys_of = table_of key_object_of

keys_reads : Reads (IsTable IsKeyObject) keys_of
keys_reads = table_reads IsKeyObject key_object_of key_object_reads

abbrev builder_with : List ℕ × (Named KeyObject × ℕ) → Builder
builder_with parts = record { id = parts.0; keys = parts.1.0; level = parts.1.1 }

-- decides `IsBuilderOf`
abbrev builder_of : Data → Option Builder
builder_of d = option_map builder_with
    (both_of (part_of as_str (codes "id") d)
    (both_of (part_of keys_of (codes "keys") d) (level_part_of d)))

builder_reads : Reads IsBuilderOf builder_of
builder_reads d =
    let id = IsPart IsText (codes "id") d in
    let keys = IsPart (IsTable IsKeyObject) (codes "keys") d in
    finds_like _ (IsBuilderOf d) builder_with (λ b. (b.id, (b.keys, b.level))) (λ p h. record {
      id = h.0;
      keys = h.1.0;
      level = h.1.1;
    }) (λ b h. (h.id, (h.keys, h.level))) _
    (finds_both id (λ p. keys p.0 × IsLevelPart d p.1) _ _
    (part_reads IsText as_str text_reads (codes "id") d)
    (finds_both keys (IsLevelPart d) _ _ (part_reads (IsTable IsKeyObject) keys_of keys_reads
    (codes "keys") d) (level_part_reads d)))

abbrev expectation_with : (List ℕ × List Builder) × ((List ℕ × ℕ) × (Fields × List (List ℕ)))
    → Expectation
expectation_with parts = record {
  files = parts.0.0;
  builders = parts.0.1;
  build_type = parts.1.0.0;
  parameters =
      parts.1.1.0;
  ignore = parts.1.1.1;
  level = parts.1.0.1;
}

-- decides `IsExpectation`
abbrev expectation_of : Data → Option Expectation
expectation_of d =
    option_map expectation_with
    (both_of (both_of (part_of as_str (codes "files") d)
    (part_or_of (list_of builder_of) [] (codes "builders") d))
    (both_of (both_of (part_of as_str (codes "buildType") d) (level_part_of d))
    (both_of (part_or_of members_of no_fields (codes "parameters") d)
    (part_or_of (list_of as_str) [] (codes "ignore") d))))

expectation_reads : Reads IsExpectation expectation_of
expectation_reads d =
    let files = IsPart IsText (codes "files") d in
    let builders = IsPartOr (IsList IsBuilderOf) [] (codes "builders") d in
    let build_type = IsPart IsText (codes "buildType") d in
    let parameters = IsPartOr IsMembers no_fields (codes "parameters") d in
    let ignore = IsPartOr (IsList IsText) [] (codes "ignore") d in
    finds_like _ (IsExpectation d) expectation_with
    (λ e. ((e.files, e.builders), ((e.build_type, e.level), (e.parameters, e.ignore))))
    (λ p h. record {
      files = h.0.0;
      builders = h.0.1;
      build_type = h.1.0.0;
      parameters = h.1.1.0;
      ignore = h.1.1.1;
      level = h.1.0.1;
    })
    (λ e h. ((h.files, h.builders), ((h.build_type, h.level), (h.parameters, h.ignore)))) _
    (finds_both (λ p. files p.0 × builders p.1) (λ p. (build_type p.0.0 × IsLevelPart d p.0.1)
    × (parameters p.1.0 × ignore p.1.1)) _ _
    (finds_both files builders _ _ (part_reads IsText as_str text_reads (codes "files") d)
    (part_or_reads (IsList IsBuilderOf) (list_of builder_of)
    (list_reads IsBuilderOf builder_of builder_reads) [] (codes "builders") d))
    (finds_both (λ p. build_type p.0 × IsLevelPart d p.1) (λ p. parameters p.0 × ignore p.1) _ _
    (finds_both build_type (IsLevelPart d) _ _
    (part_reads IsText as_str text_reads (codes "buildType") d) (level_part_reads d))
    (finds_both parameters ignore _ _ (part_or_reads IsMembers members_of members_reads no_fields
    (codes "parameters") d)
    (part_or_reads (IsList IsText) (list_of as_str) (list_reads IsText as_str text_reads) []
    (codes "ignore") d))))

-- ---- owners

-- a map that is not empty
abbrev Owned : Type 0
Owned = (owners : Named KeyObject) × (owners ≢ empty)

empty-Decides : (owners : Named KeyObject) → Decides (eqb (len owners) 0) (owners ≡ empty)
empty-Decides owners = (
  λ e. empty_of_len owners (eqb-true (len owners) 0 e),
  λ e. eq-eqb (len owners) 0 (ap len e ∙ len-empty text_cmp KeyObject),
)

abbrev owned_where : (owners : Named KeyObject) (b : Bool) → Decides b (owners ≡ empty)
    → Option Owned
owned_where owners true d = None
owned_where owners false d = Some (owners, λ e. true≢false (sym (d.1 e)))

abbrev owned : Named KeyObject → Option Owned
owned owners = owned_where owners (eqb (len owners) 0) (empty-Decides owners)

-- decides `HasOwners`
abbrev owners_of : Data → Option Owned
owners_of d = option_and_then owned (part_of keys_of (codes "owners") d)

module _ (d : Data) where
  abbrev AreOwners : Named KeyObject → Type 0
  AreOwners owners = IsPart (IsTable IsKeyObject) (codes "owners") d owners

  owned-found : (owners : Named KeyObject) → AreOwners owners
      → (b : Bool) (k : Decides b (owners ≡ empty)) → Finds (λ (o : Owned). AreOwners o.0)
      (owned_where owners b k)
  owned-found owners is true k =
      λ o other. o.1 (part_same (IsTable IsKeyObject) (codes "owners") keys_same d o.0 owners other
      is ∙ k.0 refl)
  owned-found owners is false k = is

  owners_found : (found : Option (Named KeyObject)) → Finds AreOwners found
      → Finds (λ (o : Owned). AreOwners o.0) (option_and_then owned found)
  owners_found None h = λ o is. h o.0 is
  owners_found (Some owners) h = owned-found owners h (eqb (len owners) 0) (empty-Decides owners)

  -- ---- the parts, in their order

  abbrev policy_with : Owned → List Rule → List Expectation → Result Policy PolicyPart
  policy_with owners deliver expectations = Ok (record {
    owners = owners.0;
    deliver = deliver;
    expectations = expectations;
    some_owner = owners.1;
  })

  abbrev expectations_next : Owned → List Rule → Result Policy PolicyPart
  expectations_next owners deliver =
      or_place_fault (numbered_of expectation_of (codes "expectations") d) Expectations
      NoExpectation (policy_with owners deliver)

  abbrev deliver_next : Owned → Result Policy PolicyPart
  deliver_next owners = or_fault (rules_of (codes "deliver") d) Deliver (expectations_next owners)

  abbrev owners_next : Result Policy PolicyPart
  owners_next = or_fault (owners_of d) Owners deliver_next

  -- decides `IsPolicy` and `IsPolicyFault`
  abbrev policy_at : Result Policy PolicyPart
  policy_at = cond (is_some (as_object d)) owners_next (Err Json)

  abbrev IsBad : PolicyPart → Type 0
  IsBad part = IsPolicyFault d (BadPolicy part)

  abbrev IsAnswer : Result Policy PolicyPart → Type 0
  IsAnswer read = MatchResult read (IsPolicy d) IsBad

  expectations_are : (owners : Owned) (deliver : List Rule) → AreOwners owners.0
      → IsPartOr (IsList IsRule) [] (codes "deliver") d deliver → PartReads d Json
      → IsAnswer (expectations_next owners deliver)
  expectations_are owners deliver is_owners is_deliver json =
      let head : IsHead d = record {
        json = json;
        owners = (owners.0, record { part = is_owners; some = owners.1 });
        deliver =
            (deliver, is_deliver);
      } in
      or_place_fault-is (IsPartOr (IsList IsExpectation) [] (codes "expectations") d)
      (IsPolicy d) IsBad
      (¬ IsListOrMissing (codes "expectations") d)
      (λ n. MatchOption (items_at (codes "expectations") d) ⊥
      (λ items. IsFirstBad IsExpectation items n))
      (numbered_of expectation_of (codes "expectations") d) Expectations NoExpectation _
      (numbered_of-is IsExpectation expectation_of expectation_reads (codes "expectations") d)
      (λ h. expectations_fault d head (BadPolicy Expectations) (inl (refl, h)))
      (λ n h. expectations_fault d head (BadPolicy (NoExpectation n))
      (inr (n, refl, item_fault IsExpectation (codes "expectations") d n h)))
      (λ expectations is. record { owners = is_owners; deliver = is_deliver; expectations = is })

  owners_are : PartReads d Json → IsAnswer owners_next
  owners_are json =
      or_fault-is (λ (o : Owned). AreOwners o.0) (IsPolicy d) IsBad (owners_of d) Owners
      deliver_next
      (owners_found (part_of keys_of (codes "owners") d)
      (part_reads (IsTable IsKeyObject) keys_of keys_reads (codes "owners") d))
      (λ none. owners_fault d json (λ reads. none (reads.0, reads.1.some) reads.1.part))
      (λ owners is_owners.
      or_fault-is (IsPartOr (IsList IsRule) [] (codes "deliver") d) (IsPolicy d) IsBad
      (rules_of (codes "deliver") d) Deliver (expectations_next owners)
      (rules_reads (codes "deliver") d)
      (λ none. deliver_fault d json (owners.0, record { part = is_owners; some = owners.1 })
      (λ reads. none reads.0 reads.1))
      (λ deliver is_deliver. expectations_are owners deliver is_owners is_deliver json))

  policy_at-is : (b : Bool) → is_some (as_object d) ≡ b → IsAnswer (cond b owners_next (Err Json))
  policy_at-is true e = owners_are e
  policy_at-is false e = record {
    fails = λ h. true≢false (sym h ∙ e);
    before =
        λ other less. absurd (nothing_first (place other) less);
  }

-- decides `PolicyOf` and `PolicyPartOf`
pub policy_result : List ℕ → Result Policy PolicyPart
policy_result bytes = or_fault (data_of bytes) Json policy_at

of_document : (bytes : List ℕ) (d : Data) → IsDocument bytes d → (read : Result Policy PolicyPart)
    → IsAnswer d read → MatchResult read (PolicyOf bytes) (PolicyPartOf bytes)
of_document bytes d is (Ok policy) h = (d, is, h)
of_document bytes d is (Err part) h = fault_of_document bytes d part is h

pub policy_result-is : (bytes : List ℕ) → MatchResult (policy_result bytes) (PolicyOf bytes)
    (PolicyPartOf bytes)
unfolding policy_result
policy_result-is bytes =
    or_fault-is (IsDocument bytes) (PolicyOf bytes) (PolicyPartOf bytes) (data_of bytes) Json
    policy_at (data_of-finds bytes)
    (λ none. record {
      fails = λ reads. none reads.0 reads.1;
      before = λ other less. absurd
          (nothing_first (place other) less);
    })
    (λ d is. of_document bytes d is (policy_at d) (policy_at-is d (is_some (as_object d)) refl))
