-- Each input has at most one record.
use mathlib.Core.HLevel.{is_prop→PathP, ¬_prop}
use Rattle.std.proofs.Common.{◌≡◌, ◌≢◌, ℕ, ◌≤◌, ℤ, List, [], codes, Option, Some, None, MatchOption}
use Rattle.std.proofs.Common.{refl, sym, ap, subst, ◌∙◌}
use Rattle.std.proofs.lemmas.Option.{same_Some}
use Rattle.std.proofs.Math.Bridge.{le_prop}
use Rattle.std.specs.FinMap.{empty}
use Rattle.std.specs.List.{IsDistinct, IsDistinct-prop}
use Rattle.std.specs.Str.{bytes_eq}
use Rattle.serde_json.specs.Data.{Data, object}
use Rattle.serde_json.specs.Find.{as_str}
use Rattle.it_base.specs.Document.{OfDocument, member_at}
use Rattle.it_base.specs.Finds.{Finds}
use Rattle.it_base.specs.Parts.{IsPart, IsPartOr}
use Rattle.it_base.specs.Sequence.{IsList}
use Rattle.it_base.specs.Text.{IsText}
use Rattle.it_base.proofs.Documents.{same_document}
use Rattle.it_base.proofs.Items.{list_same}
use Rattle.it_dsse.specs.KeyObject.{IsKeyObject}
use Rattle.it_digest.specs.DigestSet.{in_sha256, in_sha384, in_sha512}
use Rattle.it_digest.specs.Digest.{IsDigest, IsDigestSet}
use Rattle.it_base.specs.Json.{Fields}
use Rattle.it_docs.specs.Layout.{IsLayout, LayoutOf}
use Rattle.it_docs.specs.Level.{IsLevel, IsLevelPart}
use Rattle.it_docs.specs.Link.{IsLink, LinkOf}
use Rattle.it_docs.specs.Moment.{IsMoment, MomentOf}
use Rattle.it_docs.specs.Policy.{IsBuilderOf, IsExpectation, IsPolicy, PolicyOf}
use Rattle.it_docs.specs.Rule.{IsRule, RuleOf}
use Rattle.it_docs.specs.Statement.{IsProvenance, IsProvenanceOf, IsStatement, IsSubject}
use Rattle.it_docs.specs.Statement.{StatementOf}
use Rattle.it_docs.specs.Step.{IsInspection, IsStep, names_of}
use Rattle.it_base.specs.Table.{IsTable}
use Rattle.it_docs.specs.Threshold.{IsThreshold}
use Rattle.it_base.specs.TreeOf.{IsMembers}
use Rattle.it_docs.specs.declared.layout.Layout.{Layout}
use Rattle.it_docs.specs.declared.link.Link.{Link}
use Rattle.it_docs.specs.declared.policy.Policy.{Policy}
use Rattle.it_docs.specs.declared.rule.Rule.{Rule}
use Rattle.it_docs.specs.declared.statement.Statement.{Statement}
use Rattle.it_docs.proofs.Moments.{same_moment}
use Rattle.it_docs.proofs.Rules.{RuleOf-answer, text_same}
use Rattle.it_base.proofs.TableLemmas.{table_same}

-- a relation of parts with at most one value for each part
abbrev pub IsSingle : {X : Type 0} → (Data → X → Type 0) → Type 0
IsSingle {X} P = (d : Data) (x y : X) → P d x → P d y → x ≡ y

found_same : {X : Type 0} (P : Data → X → Type 0) → IsSingle P → (found : Option Data) (x y : X)
    → MatchOption found ⊥ (λ v. P v x) → MatchOption found ⊥ (λ v. P v y) → x ≡ y
found_same P same None x y h k = absurd h
found_same P same (Some v) x y h k = same v x y h k

pub part_same : {X : Type 0} (P : Data → X → Type 0) (name : List ℕ) → IsSingle P
    → IsSingle (IsPart P name)
part_same P name same d x y h k = found_same P same (member_at name d) x y h k

found_or_same : {X : Type 0} (P : Data → X → Type 0) (missing : X) → IsSingle P
    → (found : Option Data) (x y : X) → MatchOption found (x ≡ missing) (λ v. P v x)
    → MatchOption found (y ≡ missing) (λ v. P v y) → x ≡ y
found_or_same P missing same None x y h k = h ∙ sym k
found_or_same P missing same (Some v) x y h k = same v x y h k

pub part_or_same : {X : Type 0} (P : Data → X → Type 0) (missing : X) (name : List ℕ) → IsSingle P
    → IsSingle (IsPartOr P missing name)
part_or_same P missing name same d x y h k = found_or_same P missing same (member_at name d) x y h k

pub document_same : {X : Type 0} (P : Data → X → Type 0) → IsSingle P → (bytes : List ℕ) (x y : X)
    → OfDocument P bytes x → OfDocument P bytes y → x ≡ y
document_same P same bytes x y h k =
    same h.0 x y h.2 (subst (λ d. P d y) (same_document bytes k.0 h.0 k.1 h.1) k.2)

pub rule_same : (texts : List (List ℕ)) (x y : Rule) → RuleOf texts x → RuleOf texts y → x ≡ y
rule_same texts x y h k = same_Some x y (sym (RuleOf-answer texts x h) ∙ RuleOf-answer texts y k)

rule_part_same : IsSingle IsRule
rule_part_same d x y h k =
    rule_same h.0 x y h.2 (subst (λ ts. RuleOf ts y) (list_same IsText text_same d k.0 h.0 k.1 h.1)
    k.2)

moment_found : (found : Option (List ℕ)) (x y : ℤ) → MatchOption found ⊥ (λ text. MomentOf text x)
    → MatchOption found ⊥ (λ text. MomentOf text y) → x ≡ y
moment_found None x y h k = absurd h
moment_found (Some text) x y h k = same_moment text x y h k

moment_part_same : IsSingle IsMoment
moment_part_same d x y h k = moment_found (as_str d) x y h k

digest_found : (n : ℕ) (found : Option Data) (x y : Option (List ℕ))
    → MatchOption found (x ≡ None) (λ v. (bytes : List ℕ) × (x ≡ Some bytes) × IsDigest n v bytes)
    → MatchOption found (y ≡ None) (λ v. (bytes : List ℕ) × (y ≡ Some bytes) × IsDigest n v bytes)
    → x ≡ y
digest_found n None x y h k = h ∙ sym k
digest_found n (Some v) x y h k = h.1 ∙ sym h.2 ∙ k.2 ∙ sym k.1

digest_set_same : IsSingle IsDigestSet
digest_set_same d x y h k =
    let a = digest_found 32 (member_at (codes "sha256") d) x.sha256 y.sha256 (h.digests in_sha256)
    (k.digests in_sha256) in
    let b = digest_found 48 (member_at (codes "sha384") d) x.sha384 y.sha384 (h.digests in_sha384)
    (k.digests in_sha384) in
    let c = digest_found 64 (member_at (codes "sha512") d) x.sha512 y.sha512 (h.digests in_sha512)
    (k.digests in_sha512) in
    λ i. record { sha256 = a i; sha384 = b i; sha512 = c i }

key_object_same : IsSingle IsKeyObject
key_object_same d x y h k =
    let a = h.keytype ∙ sym k.keytype in
    let b = h.scheme ∙ sym k.scheme in
    let c = h.public ∙ sym k.public in
    let j = h.identity ∙ sym k.identity in
    let s = h.issuer ∙ sym k.issuer in
    λ i. record { keytype = a i; scheme = b i; public = c i; identity = j i; issuer = s i }

artifacts_same : IsSingle (IsTable IsDigestSet)
artifacts_same = table_same IsDigestSet digest_set_same

pub keys_same : IsSingle (IsTable IsKeyObject)
keys_same = table_same IsKeyObject key_object_same

texts_same : IsSingle (IsList IsText)
texts_same = list_same IsText text_same

rules_same : IsSingle (IsList IsRule)
rules_same = list_same IsRule rule_part_same

members_found : (d : Data) (x y : Fields) → IsMembers d x → IsMembers d y → x ≡ y
members_found (object ms) x y h k = h ∙ sym k
members_found d x y h k = absurd h

link_part_same : IsSingle IsLink
link_part_same d x y h k =
    let name = part_same IsText (codes "name") text_same d x.name y.name h.name k.name in
    let materials = part_or_same (IsTable IsDigestSet) _ (codes "materials") artifacts_same d
    x.materials y.materials h.materials k.materials in
    let products = part_or_same (IsTable IsDigestSet) _ (codes "products") artifacts_same d
    x.products y.products h.products k.products in
    λ i. record { name = name i; materials = materials i; products = products i }

pub link_same : (bytes : List ℕ) (x y : Link) → LinkOf bytes x → LinkOf bytes y → x ≡ y
link_same = document_same IsLink link_part_same

subject_same : IsSingle IsSubject
subject_same d x y h k = part_or_same IsDigestSet _ (codes "digest") digest_set_same d x y h.digest
    k.digest

provenance_same : IsSingle IsProvenance
provenance_same d x y h k =
    let build_type = part_same (IsPart IsText (codes "buildType")) (codes "buildDefinition")
    (part_same IsText (codes "buildType") text_same) d x.build_type y.build_type h.build_type
    k.build_type in
    let builder = part_same (IsPart (IsPart IsText (codes "id")) (codes "builder"))
    (codes "runDetails") (part_same (IsPart IsText (codes "id")) (codes "builder")
    (part_same IsText (codes "id") text_same)) d x.builder y.builder h.builder k.builder in
    let parameters = part_same (IsPartOr IsMembers _ (codes "externalParameters"))
    (codes "buildDefinition")
    (part_or_same IsMembers _ (codes "externalParameters") members_found) d x.parameters
    y.parameters h.parameters k.parameters in
    λ i. record { build_type = build_type i; builder = builder i; parameters = parameters i }

provenance_of_same : IsSingle IsProvenanceOf
provenance_of_same d x y h k = part_same IsProvenance (codes "predicate") provenance_same d x y
    h.predicate k.predicate

found_once : {X : Type 0} (P : X → Type 0) → ((x y : X) → P x → P y → x ≡ y) → (a b : Option X)
    → Finds P a → Finds P b → a ≡ b
found_once P same None None h k = refl
found_once P same None (Some y) h k = absurd (h y k)
found_once P same (Some x) None h k = absurd (k x h)
found_once P same (Some x) (Some y) h k = ap Some (same x y h k)

statement_part_same : IsSingle IsStatement
statement_part_same d x y h k =
    let subjects = part_same (IsList IsSubject) (codes "subject") (list_same IsSubject subject_same)
    d x.subjects y.subjects h.subjects k.subjects in
    let predicate_type = part_same IsText (codes "predicateType") text_same d x.predicate_type
    y.predicate_type h.predicate_type k.predicate_type in
    let provenance = found_once (IsProvenanceOf d) (provenance_of_same d) x.provenance y.provenance
    h.provenance k.provenance in
    λ i. record {
      subjects = subjects i;
      predicate_type = predicate_type i;
      provenance = provenance i;
    }

pub statement_same : (bytes : List ℕ) (x y : Statement) → StatementOf bytes x → StatementOf bytes y
    → x ≡ y
statement_same = document_same IsStatement statement_part_same

threshold_same : IsSingle IsThreshold
threshold_same d x y h k = same_Some x y (sym h.number_is ∙ k.number_is)

step_same : IsSingle IsStep
step_same d x y h k =
    let name = part_same IsText (codes "name") text_same d x.name y.name h.name k.name in
    let threshold = part_or_same IsThreshold 1 (codes "threshold") threshold_same d x.threshold
    y.threshold h.threshold k.threshold in
    let pubkeys = part_or_same (IsList IsText) [] (codes "pubkeys") texts_same d x.pubkeys y.pubkeys
    h.pubkeys k.pubkeys in
    let materials = part_or_same (IsList IsRule) [] (codes "expected_materials") rules_same d
    x.expected_materials y.expected_materials h.expected_materials k.expected_materials in
    let products = part_or_same (IsList IsRule) [] (codes "expected_products") rules_same d
    x.expected_products y.expected_products h.expected_products k.expected_products in
    let at_least_one = is_prop→PathP (λ j. 1 ≤ threshold j) (λ j. le_prop) x.threshold_at_least_one
    y.threshold_at_least_one in
    λ i. record {
      name = name i;
      threshold = threshold i;
      pubkeys = pubkeys i;
      expected_materials = materials i;
      expected_products = products i;
      threshold_at_least_one =
          at_least_one i;
    }

inspection_same : IsSingle IsInspection
inspection_same d x y h k =
    let name = part_same IsText (codes "name") text_same d x.name y.name h.name k.name in
    let materials = part_or_same (IsList IsRule) [] (codes "expected_materials") rules_same d
    x.expected_materials y.expected_materials h.expected_materials k.expected_materials in
    let products = part_or_same (IsList IsRule) [] (codes "expected_products") rules_same d
    x.expected_products y.expected_products h.expected_products k.expected_products in
    λ i. record { name = name i; expected_materials = materials i; expected_products = products i }

pub steps_same : IsSingle (IsPartOr (IsList IsStep) [] (codes "steps"))
steps_same = part_or_same (IsList IsStep) [] (codes "steps") (list_same IsStep step_same)

pub inspections_same : IsSingle (IsPartOr (IsList IsInspection) [] (codes "inspect"))
inspections_same = part_or_same (IsList IsInspection) [] (codes "inspect")
    (list_same IsInspection inspection_same)

layout_part_same : IsSingle IsLayout
layout_part_same d x y h k =
    let expires = part_same IsMoment (codes "expires") moment_part_same d x.expires y.expires
    h.expires k.expires in
    let keys = part_or_same (IsTable IsKeyObject) _ (codes "keys") keys_same d x.keys y.keys h.keys
    k.keys in
    let steps = steps_same d x.steps y.steps h.steps k.steps in
    let inspections = inspections_same d x.inspections y.inspections h.inspections k.inspections in
    let differ = is_prop→PathP (λ j. IsDistinct bytes_eq (names_of (steps j) (inspections j)))
    (λ j. IsDistinct-prop _ _) x.names_differ y.names_differ in
    λ i. record {
      expires = expires i;
      keys = keys i;
      steps = steps i;
      inspections = inspections i;
      names_differ = differ i;
    }

pub layout_same : (bytes : List ℕ) (x y : Layout) → LayoutOf bytes x → LayoutOf bytes y → x ≡ y
layout_same = document_same IsLayout layout_part_same

level_same : IsSingle IsLevel
level_same d x y h k = same_Some x y (sym h.number_is ∙ k.number_is)

level_part_same : IsSingle IsLevelPart
level_part_same = part_or_same IsLevel 0 (codes "level") level_same

builder_same : IsSingle IsBuilderOf
builder_same d x y h k =
    let id = part_same IsText (codes "id") text_same d x.id y.id h.id k.id in
    let keys = part_same (IsTable IsKeyObject) (codes "keys") keys_same d x.keys y.keys h.keys
    k.keys in
    let level = level_part_same d x.level y.level h.level k.level in
    λ i. record { id = id i; keys = keys i; level = level i }

expectation_same : IsSingle IsExpectation
expectation_same d x y h k =
    let files = part_same IsText (codes "files") text_same d x.files y.files h.files k.files in
    let builders = part_or_same (IsList IsBuilderOf) [] (codes "builders")
    (list_same IsBuilderOf builder_same) d x.builders y.builders h.builders k.builders in
    let build_type = part_same IsText (codes "buildType") text_same d x.build_type y.build_type
    h.build_type k.build_type in
    let parameters = part_or_same IsMembers _ (codes "parameters") members_found d x.parameters
    y.parameters h.parameters k.parameters in
    let ignore = part_or_same (IsList IsText) [] (codes "ignore") texts_same d x.ignore y.ignore
    h.ignore k.ignore in
    let level = level_part_same d x.level y.level h.level k.level in
    λ i. record {
      files = files i;
      builders = builders i;
      build_type = build_type i;
      parameters = parameters i;
      ignore = ignore i;
      level = level i;
    }

policy_part_same : IsSingle IsPolicy
policy_part_same d x y h k =
    let owners = part_same (IsTable IsKeyObject) (codes "owners") keys_same d x.owners y.owners
    h.owners k.owners in
    let deliver = part_or_same (IsList IsRule) [] (codes "deliver") rules_same d x.deliver y.deliver
    h.deliver k.deliver in
    let expectations = part_or_same (IsList IsExpectation) [] (codes "expectations")
    (list_same IsExpectation expectation_same) d x.expectations y.expectations h.expectations
    k.expectations in
    let some = is_prop→PathP (λ j. owners j ≢ empty) (λ j. ¬_prop) x.some_owner y.some_owner in
    λ i. record {
      owners = owners i;
      deliver = deliver i;
      expectations = expectations i;
      some_owner = some i;
    }

pub policy_same : (bytes : List ℕ) (x y : Policy) → PolicyOf bytes x → PolicyOf bytes y → x ≡ y
policy_same = document_same IsPolicy policy_part_same
