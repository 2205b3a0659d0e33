-- Statements that are written.
use Rattle.std.proofs.Common.{◌≡◌, ℕ, ◌≤◌, List, [], ◌∷◌, map, false, Option, Some, None}
use Rattle.std.proofs.Common.{refl, arith}
use Rattle.std.specs.FinMap.{entries, values}
use Rattle.std.specs.List.{AllByRecursion}
use Rattle.serde_json.specs.Data.{Data, depth, items_depth, object}
use Rattle.serde_json.specs.Read.{max_depth}
use Rattle.serde_json.specs.View.{items_of}
use Rattle.serde_json.specs.Written.{has_float, items_have_float}
use Rattle.it_base.specs.Json.{Fields}
use Rattle.it_base.specs.Sequence.{AreEach, IsList}
use Rattle.it_base.specs.TreeOf.{IsMembers}
use Rattle.it_digest.specs.Artifacts.{ArtifactMap}
use Rattle.it_digest.specs.Digest.{IsDigestSet}
use Rattle.it_digest.specs.declared.compare.DigestSet.{DigestSet}
use Rattle.it_docs.specs.Statement.{IsStatement, IsSubject, StatementOf}
use Rattle.it_docs.proofs.Same.{statement_same}
use Rattle.it_making.specs.ArtifactDocuments.{digest_set_document}
use Rattle.it_making.specs.StatementOutput.{AreParameters, AreSubjects, IsStatementOutput}
use Rattle.it_making.specs.StatementOutput.{IsWritten}
use Rattle.it_making.specs.StatementOutput.{provenance_document}
use Rattle.it_making.specs.StatementOutput.{statement_document, statement_of, subject_document}
use Rattle.it_making.specs.StatementOutput.{subjects_document}
use Rattle.it_making.proofs.DigestsWritten.{no_float_in_digests, shallow_digests}
use Rattle.it_making.proofs.TablesWritten.{Entry}

-- ---- subjects

each_reads_back : (es : List (Entry DigestSet))
    → AllByRecursion (λ e. IsDigestSet (digest_set_document e.1) e.1) es
    → AreEach IsSubject (items_of (map subject_document es)) (map (λ e. e.1) es)
each_reads_back [] all = tt
each_reads_back (e ∷ es) all =
    (record { is_object = refl; digest = all.0 }, each_reads_back es all.1)

-- where each digest set reads back, so do the subjects
pub subjects_read_back : (m : ArtifactMap)
    → AllByRecursion (λ e. IsDigestSet (digest_set_document e.1) e.1) (entries m)
    → IsList IsSubject (subjects_document m) (values m)
subjects_read_back m all = each_reads_back (entries m) all

pub no_float_in_subjects : (es : List (Entry DigestSet))
    → items_have_float (items_of (map subject_document es)) ≡ false
no_float_in_subjects [] = refl
no_float_in_subjects (e ∷ es) = rw (no_float_in_digests e.1) (no_float_in_subjects es)

pub shallow_subjects : (es : List (Entry DigestSet))
    → items_depth (items_of (map subject_document es)) ≤ 2
shallow_subjects [] = omega arith
shallow_subjects (e ∷ es) = omega (arith, shallow_digests e.1, shallow_subjects es)

-- ---- the whole

no_float : (m : ArtifactMap) (build_type builder : List ℕ) (d : Data) → has_float d ≡ false
    → has_float (statement_document m (provenance_document build_type builder d)) ≡ false
no_float m build_type builder d whole = rw (whole, no_float_in_subjects (entries m)) refl

shallow : (m : ArtifactMap) (build_type builder : List ℕ) (d : Data) → depth d ≤ 124
    → depth (statement_document m (provenance_document build_type builder d)) ≤ max_depth
shallow m build_type builder d low = omega (arith, low, shallow_subjects (entries m))

-- the document is the Statement
statement_reads : (m : ArtifactMap) (build_type builder : List ℕ) (d : Data) (trees : Fields)
    → IsList IsSubject (subjects_document m) (values m) → IsMembers d trees
    → IsStatement (statement_document m (provenance_document build_type builder d))
    (statement_of m build_type builder trees)
statement_reads m build_type builder (object ms) trees subjects members = record {
  type_is = refl;
  subjects = subjects;
  predicate_type = refl;
  provenance = record {
    type_is = refl;
    predicate = record { build_type = refl; parameters = members; builder = refl };
  };
}
statement_reads m build_type builder d trees subjects members = absurd members

-- what is given is an object, which is not too deep
given_members : (given : Option (List ℕ)) (d : Data) (trees : Fields)
    → AreParameters given d trees → IsMembers d trees × (depth d ≤ 124)
given_members None d trees h = rw (h.0, h.1) (refl, omega arith)
given_members (Some bytes) d trees h = (h.1, h.2)

-- a text that was written of the document is the command's output
pub is_statement_output : (sums build_type builder : List ℕ) (given : Option (List ℕ))
    (text : List ℕ) (m : ArtifactMap) (d : Data) (trees : Fields)
    → AreSubjects sums m → AreParameters given d trees
    → IsList IsSubject (subjects_document m) (values m)
    → IsWritten text (statement_document m (provenance_document build_type builder d))
    → IsStatementOutput sums build_type builder given text
is_statement_output sums build_type builder given text m d trees sums_are given_are subjects written =
    let parts = given_members given d trees given_are in
    let read = written.reads (shallow m build_type builder d parts.1) in
    let back : StatementOf text (statement_of m build_type builder trees) = (
      statement_document m (provenance_document build_type builder d),
      read,
      statement_reads m build_type builder d trees subjects parts.0,
    ) in
    record {
      subjects = m;
      document = d;
      parameters = trees;
      subjects_are = sums_are;
      parameters_are = given_are;
      reads = read;
      one_line = written.one_line;
      text_is = λ whole. written.text_is (no_float m build_type builder d whole);
      reads_back = back;
      only = λ other h.
          statement_same text other (statement_of m build_type builder trees) h back;
    }
