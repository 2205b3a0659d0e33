-- What is read where two objects agree.
use Rattle.std.proofs.Common.{◌≡◌, ◌∙◌, ◌<◌, ℕ, List, [], Option, None, Some, get_or, length, sym}
use Rattle.std.proofs.Common.{ap, subst, arith}
use Rattle.std.specs.Prelude.{IsTrue, MatchOption, codes, unwrap_or, option_and_then}
use Rattle.std.proofs.lemmas.List.Elements.{Contains-get_or}
use Rattle.serde_json.specs.Data.{Data}
use Rattle.serde_json.specs.Find.{as_str}
use Rattle.it_base.specs.Document.{member_at}
use Rattle.it_base.specs.Finds.{Finds}
use Rattle.it_base.specs.Parts.{IsPart, IsPartOr}
use Rattle.it_findings.specs.Laws.{AgreeOn, IsKeyValue, LooksOnlyAt, LooksOnlyThere}
use Rattle.it_findings.specs.Laws.{NobodyLooksAtMore, link_names, provenance_names, statement_names}
use Rattle.it_findings.specs.Laws.{subject_names}
use Rattle.it_findings.specs.MemberNames.{read_names}
use Rattle.it_findings.specs.declared.place.Place.TheVariants as places
use Rattle.std.specs.FinMap.{empty}
use Rattle.it_base.specs.Json.{no_fields}
use Rattle.it_base.specs.Sequence.{IsList}
use Rattle.it_base.specs.Table.{IsTable}
use Rattle.it_base.specs.Text.{IsText}
use Rattle.it_base.specs.TreeOf.{IsMembers}
use Rattle.it_docs.specs.Layout.{IsLayout}
use Rattle.it_docs.specs.Level.{IsLevel}
use Rattle.it_docs.specs.Link.{IsLink}
use Rattle.it_docs.specs.Moment.{IsMoment}
use Rattle.it_docs.specs.Policy.{IsBuilderOf, IsExpectation, IsPolicy}
use Rattle.it_docs.specs.Rule.{IsRule}
use Rattle.it_docs.specs.Statement.{IsProvenance, IsProvenanceOf, IsStatement, IsSubject}
use Rattle.it_docs.specs.Step.{IsInspection, IsStep}
use Rattle.it_docs.specs.Threshold.{IsThreshold}
use Rattle.it_docs.specs.declared.statement.Provenance.{Provenance}
use Rattle.it_digest.specs.Digest.{IsDigestSet}
use Rattle.it_digest.specs.DigestSet.{no_digests}
use Rattle.it_dsse.specs.KeyObject.{IsKeyObject, text_at}
use Rattle.it_findings.specs.declared.place.KeyPlace.{KeyPlace}

-- a member of one name is the same in both
module _ {X : Type 0} (P : Data → X → Type 0) (name : List ℕ) (d e : Data)
    (same : member_at name d ≡ member_at name e) (x : X) where
  pub part : IsPart P name d x → IsPart P name e x
  part h = subst (λ m. MatchOption m ⊥ (λ v. P v x)) same h

  pub part_or : (missing : X) → IsPartOr P missing name d x → IsPartOr P missing name e x
  part_or missing h = subst (λ m. MatchOption m (x ≡ missing) (λ v. P v x)) same h

module _ (names : List (List ℕ)) (d e : Data) (agree : AgreeOn names d e) where
  -- the member of the name at a number of the list
  member : (i : ℕ) → i < length names
      → member_at (get_or names i []) d ≡ member_at (get_or names i []) e
  member i below = agree.same _ (Contains-get_or names i [] below)

policy : LooksOnlyThere places.Policy IsPolicy
policy d e x agree h =
    let m = member (read_names places.Policy) d e agree in
    record {
      owners = part (IsTable IsKeyObject) (codes "owners") d e (m 0 (omega arith)) x.owners
          h.owners;
      deliver = part_or (IsList IsRule) (codes "deliver") d e (m 1 (omega arith)) x.deliver []
          h.deliver;
      expectations = part_or (IsList IsExpectation) (codes "expectations") d e (m 2 (omega arith))
          x.expectations [] h.expectations;
    }

expectation : (n : ℕ) → LooksOnlyThere (places.Expectation n) IsExpectation
expectation n d e x agree h =
    let m = member (read_names (places.Expectation n)) d e agree in
    record {
      files = part IsText (codes "files") d e (m 0 (omega arith)) x.files h.files;
      builders = part_or (IsList IsBuilderOf) (codes "builders") d e (m 1 (omega arith))
          x.builders [] h.builders;
      build_type = part IsText (codes "buildType") d e (m 2 (omega arith)) x.build_type
          h.build_type;
      parameters = part_or IsMembers (codes "parameters") d e (m 3 (omega arith))
          x.parameters no_fields h.parameters;
      ignore = part_or (IsList IsText) (codes "ignore") d e (m 4 (omega arith)) x.ignore []
          h.ignore;
      level = part_or IsLevel (codes "level") d e (m 5 (omega arith)) x.level 0 h.level;
    }

builder : (n m : ℕ) → LooksOnlyThere (places.Builder n m) IsBuilderOf
builder n k d e x agree h =
    let m = member (read_names (places.Builder n k)) d e agree in
    record {
      id = part IsText (codes "id") d e (m 0 (omega arith)) x.id h.id;
      keys = part (IsTable IsKeyObject) (codes "keys") d e (m 1 (omega arith)) x.keys h.keys;
      level = part_or IsLevel (codes "level") d e (m 2 (omega arith)) x.level 0 h.level;
    }

layout : LooksOnlyThere places.Layout IsLayout
layout d e x agree h =
    let m = member (read_names places.Layout) d e agree in
    record {
      type_is = part IsText (codes "_type") d e (m 0 (omega arith)) (codes "layout") h.type_is;
      expires = part IsMoment (codes "expires") d e (m 1 (omega arith)) x.expires h.expires;
      keys = part_or (IsTable IsKeyObject) (codes "keys") d e (m 2 (omega arith)) x.keys empty
          h.keys;
      steps = part_or (IsList IsStep) (codes "steps") d e (m 3 (omega arith)) x.steps [] h.steps;
      inspections = part_or (IsList IsInspection) (codes "inspect") d e (m 4 (omega arith))
          x.inspections [] h.inspections;
    }

step : (n : ℕ) → LooksOnlyThere (places.Step n) IsStep
step n d e x agree h =
    let m = member (read_names (places.Step n)) d e agree in
    record {
      name = part IsText (codes "name") d e (m 0 (omega arith)) x.name h.name;
      threshold = part_or IsThreshold (codes "threshold") d e (m 1 (omega arith)) x.threshold 1
          h.threshold;
      pubkeys = part_or (IsList IsText) (codes "pubkeys") d e (m 2 (omega arith)) x.pubkeys []
          h.pubkeys;
      expected_materials = part_or (IsList IsRule) (codes "expected_materials") d e
          (m 3 (omega arith)) x.expected_materials [] h.expected_materials;
      expected_products = part_or (IsList IsRule) (codes "expected_products") d e
          (m 4 (omega arith)) x.expected_products [] h.expected_products;
    }

inspection : (n : ℕ) → LooksOnlyThere (places.Inspection n) IsInspection
inspection n d e x agree h =
    let m = member (read_names (places.Inspection n)) d e agree in
    record {
      name = part IsText (codes "name") d e (m 0 (omega arith)) x.name h.name;
      expected_materials = part_or (IsList IsRule) (codes "expected_materials") d e
          (m 1 (omega arith)) x.expected_materials [] h.expected_materials;
      expected_products = part_or (IsList IsRule) (codes "expected_products") d e
          (m 2 (omega arith)) x.expected_products [] h.expected_products;
    }

-- the text of a member
abbrev text : Option Data → List ℕ
text m = unwrap_or (option_and_then as_str m) []

key : (key : KeyPlace) → LooksOnlyThere (places.Key key) IsKeyObject
key k d e x agree h =
    let m = member (read_names (places.Key k)) d e agree in
    record {
      is_object = subst IsTrue agree.both h.is_object;
      keytype = h.keytype ∙ ap text (m 0 (omega arith));
      scheme = h.scheme ∙ ap text (m 1 (omega arith));
      public = h.public ∙ ap (text_at (codes "public")) (m 2 (omega arith));
      identity = h.identity ∙ ap (text_at (codes "identity")) (m 2 (omega arith));
      issuer = h.issuer ∙ ap (text_at (codes "issuer")) (m 2 (omega arith));
    }

keyval : (key : KeyPlace) → LooksOnlyThere (places.KeyValue key) IsKeyValue
keyval k d e x agree h =
    let m = member (read_names (places.KeyValue k)) d e agree in
    record {
      public = h.public ∙ ap text (m 0 (omega arith));
      identity = h.identity ∙ ap text (m 1 (omega arith));
      issuer = h.issuer ∙ ap text (m 2 (omega arith));
    }

link : LooksOnlyAt link_names IsLink
link d e x agree h =
    let m = member link_names d e agree in
    record {
      type_is = part IsText (codes "_type") d e (m 0 (omega arith)) (codes "link") h.type_is;
      name = part IsText (codes "name") d e (m 1 (omega arith)) x.name h.name;
      materials = part_or (IsTable IsDigestSet) (codes "materials") d e (m 2 (omega arith))
          x.materials empty h.materials;
      products = part_or (IsTable IsDigestSet) (codes "products") d e (m 3 (omega arith))
          x.products empty h.products;
    }

subject : LooksOnlyAt subject_names IsSubject
subject d e x agree h =
    let m = member subject_names d e agree in
    record {
      is_object = subst IsTrue agree.both h.is_object;
      digest = part_or IsDigestSet (codes "digest") d e (m 0 (omega arith)) x no_digests h.digest;
    }

provenance : LooksOnlyAt provenance_names IsProvenance
provenance d e x agree h =
    let m = member provenance_names d e agree in
    record {
      build_type = part (IsPart IsText (codes "buildType")) (codes "buildDefinition") d e
          (m 0 (omega arith)) x.build_type h.build_type;
      parameters = part (IsPartOr IsMembers no_fields (codes "externalParameters"))
          (codes "buildDefinition") d e (m 0 (omega arith)) x.parameters h.parameters;
      builder = part (IsPart (IsPart IsText (codes "id")) (codes "builder"))
          (codes "runDetails") d e (m 1 (omega arith)) x.builder h.builder;
    }

-- the provenance of a Statement, by its two members
provenance_of : (d e : Data)
    → member_at (codes "predicateType") d ≡ member_at (codes "predicateType") e
    → member_at (codes "predicate") d ≡ member_at (codes "predicate") e
    → (x : Provenance) → IsProvenanceOf d x → IsProvenanceOf e x
provenance_of d e type predicate x h = record {
  type_is = part IsText (codes "predicateType") d e type (codes "https://slsa.dev/provenance/v1")
      h.type_is;
  predicate = part IsProvenance (codes "predicate") d e predicate x h.predicate;
}

-- what is found is found by another test that is the same
found_so : {X : Type 0} (P Q : X → Type 0) → ((x : X) → P x → Q x) → ((x : X) → Q x → P x)
    → (o : Option X) → Finds P o → Finds Q o
found_so P Q to from None h = λ x q. h x (from x q)
found_so P Q to from (Some x) h = to x h

statement : LooksOnlyAt statement_names IsStatement
statement d e x agree h =
    let m = member statement_names d e agree in
    record {
      type_is = part IsText (codes "_type") d e (m 0 (omega arith))
          (codes "https://in-toto.io/Statement/v1") h.type_is;
      subjects = part (IsList IsSubject) (codes "subject") d e (m 1 (omega arith)) x.subjects
          h.subjects;
      predicate_type = part IsText (codes "predicateType") d e (m 2 (omega arith)) x.predicate_type
          h.predicate_type;
      provenance = found_so (IsProvenanceOf d) (IsProvenanceOf e)
          (provenance_of d e (m 2 (omega arith)) (m 3 (omega arith)))
          (provenance_of e d (sym (m 2 (omega arith))) (sym (m 3 (omega arith))))
          x.provenance h.provenance;
    }

pub nobody_looks_at_more : NobodyLooksAtMore
nobody_looks_at_more = record {
  policy = policy;
  expectation = expectation;
  builder = builder;
  layout = layout;
  step = step;
  inspection = inspection;
  key = key;
  keyval = keyval;
  link = link;
  statement = statement;
  subject = subject;
  provenance = provenance;
}
