-- Which Statement bytes are, as an answer.
use Rattle.std.proofs.Common.{◌≡◌, ℕ, List, cond, codes, Option, Some, None, MatchOption}
use Rattle.std.proofs.Common.{option_map, is_some, IsTrue, refl}
use Rattle.serde_json.specs.Data.{Data, Members}
use Rattle.serde_json.specs.Find.{as_object, as_str}
use Rattle.it_base.specs.Finds.{Finds}
use Rattle.it_base.specs.Parts.{IsPart, IsPartOr}
use Rattle.it_base.specs.Sequence.{IsList}
use Rattle.it_base.specs.Text.{IsText}
use Rattle.it_base.proofs.Decided.{Reads, both_of, document_of, document_reads, finds_both}
use Rattle.it_base.proofs.Decided.{finds_like, finds_where, list_of, list_reads, part_of}
use Rattle.it_base.proofs.Decided.{part_or_of, part_or_reads, part_reads, text_reads}
use Rattle.it_digest.specs.DigestSet.{no_digests}
use Rattle.it_digest.specs.declared.compare.DigestSet.{DigestSet}
use Rattle.it_digest.specs.Digest.{IsDigestSet}
use Rattle.it_base.specs.Json.{Fields, no_fields}
use Rattle.it_docs.specs.Statement.{IsBuilder, IsProvenance, IsProvenanceOf, IsStatement, IsSubject}
use Rattle.it_docs.specs.Statement.{IsSubjects, StatementOf}
use Rattle.it_base.specs.TreeOf.{IsMembers, fields_of}
use Rattle.it_docs.specs.declared.statement.Provenance.{Provenance}
use Rattle.it_docs.specs.declared.statement.Statement.{Statement}
use Rattle.it_docs.proofs.LinkDecided.{digest_set_of, digest_set_reads, has_text, has_text-Decides}

-- decides `IsMembers`
abbrev pub members_of : Data → Option Fields
members_of d = option_map fields_of (as_object d)

members_found : (found : Option Members)
    → Finds (λ fields. MatchOption found ⊥ (λ ms. fields ≡ fields_of ms))
    (option_map fields_of found)
members_found None = λ fields h. h
members_found (Some ms) = refl

pub members_reads : Reads IsMembers members_of
members_reads d = members_found (as_object d)

-- decides `IsSubject`
abbrev subject_of : Data → Option DigestSet
subject_of d = cond (is_some (as_object d)) (part_or_of digest_set_of no_digests (codes "digest") d)
    None

subject_reads : Reads IsSubject subject_of
subject_reads d = go (subject_of d)
    (finds_where (IsPartOr IsDigestSet no_digests (codes "digest") d) (is_some (as_object d))
    (part_or_of digest_set_of no_digests (codes "digest") d) (λ h. h, λ h. h)
    (part_or_reads IsDigestSet digest_set_of digest_set_reads no_digests (codes "digest") d))
  where
    go : (found : Option DigestSet) → Finds (λ set. IsTrue (is_some (as_object d))
        × IsPartOr IsDigestSet no_digests (codes "digest") d set) found → Finds (IsSubject d) found
    go None h = λ set is. h set (is.is_object, is.digest)
    go (Some set) h = record { is_object = h.0; digest = h.1 }

abbrev subjects_of : Data → Option (List DigestSet)
subjects_of = part_of (list_of subject_of) (codes "subject")

-- decides `IsBuilder`
abbrev builder_of : Data → Option (List ℕ)
builder_of = part_of (part_of (part_of as_str (codes "id")) (codes "builder")) (codes "runDetails")

abbrev build_type_of : Data → Option (List ℕ)
build_type_of = part_of (part_of as_str (codes "buildType")) (codes "buildDefinition")

abbrev parameters_of : Data → Option Fields
parameters_of = part_of (part_or_of members_of no_fields (codes "externalParameters"))
    (codes "buildDefinition")

abbrev provenance_with : (List ℕ × Fields) × List ℕ → Provenance
provenance_with parts = record { build_type = parts.0.0; parameters = parts.0.1; builder = parts.1 }

-- decides `IsProvenance`
abbrev provenance_of : Data → Option Provenance
provenance_of d = option_map provenance_with (both_of (both_of (build_type_of d) (parameters_of d))
    (builder_of d))

provenance_reads : Reads IsProvenance provenance_of
provenance_reads d =
    let build_type = IsPart (IsPart IsText (codes "buildType")) (codes "buildDefinition") d in
    let parameters = IsPart (IsPartOr IsMembers no_fields (codes "externalParameters"))
    (codes "buildDefinition") d in
    finds_like _ (IsProvenance d) provenance_with (λ p. ((p.build_type, p.parameters), p.builder))
    (λ p h. record { build_type = h.0.0; parameters = h.0.1; builder = h.1 })
    (λ p h. ((h.build_type, h.parameters), h.builder)) _
    (finds_both (λ p. build_type p.0 × parameters p.1) (IsBuilder d) _ _
    (finds_both build_type parameters _ _ (part_reads (IsPart IsText (codes "buildType"))
    (part_of as_str (codes "buildType"))
    (part_reads IsText as_str text_reads (codes "buildType")) (codes "buildDefinition") d)
    (part_reads (IsPartOr IsMembers no_fields (codes "externalParameters"))
    (part_or_of members_of no_fields (codes "externalParameters"))
    (part_or_reads IsMembers members_of members_reads no_fields (codes "externalParameters"))
    (codes "buildDefinition") d))
    (part_reads (IsPart (IsPart IsText (codes "id")) (codes "builder"))
    (part_of (part_of as_str (codes "id")) (codes "builder"))
    (part_reads (IsPart IsText (codes "id")) (part_of as_str (codes "id"))
    (part_reads IsText as_str text_reads (codes "id")) (codes "builder")) (codes "runDetails")
    d))

abbrev predicate_of : Data → Option Provenance
predicate_of d = cond (has_text (codes "predicateType") (codes "https://slsa.dev/provenance/v1") d)
    (part_of provenance_of (codes "predicate") d) None

-- decides `IsProvenanceOf`
predicate_reads : Reads IsProvenanceOf predicate_of
predicate_reads d = go (predicate_of d)
    (finds_where (IsPart IsProvenance (codes "predicate") d)
    (has_text (codes "predicateType") (codes "https://slsa.dev/provenance/v1") d)
    (part_of provenance_of (codes "predicate") d)
    (has_text-Decides (codes "predicateType") (codes "https://slsa.dev/provenance/v1") d)
    (part_reads IsProvenance provenance_of provenance_reads (codes "predicate") d))
  where
    go : (found : Option Provenance)
        → Finds (λ p. IsPart IsText (codes "predicateType") d
        (codes "https://slsa.dev/provenance/v1") × IsPart IsProvenance (codes "predicate") d p)
        found → Finds (IsProvenanceOf d) found
    go None h = λ p is. h p (is.type_is, is.predicate)
    go (Some p) h = record { type_is = h.0; predicate = h.1 }

abbrev statement_with : Data → List DigestSet × List ℕ → Statement
statement_with d parts = record {
  subjects = parts.0;
  predicate_type = parts.1;
  provenance = predicate_of d;
}

-- decides `IsStatement`
abbrev statement_part_of : Data → Option Statement
statement_part_of d =
    option_map (statement_with d)
    (cond (has_text (codes "_type") (codes "https://in-toto.io/Statement/v1") d)
    (both_of (subjects_of d) (part_of as_str (codes "predicateType") d)) None)

statement_reads : Reads IsStatement statement_part_of
statement_reads d =
    finds_like _ (IsStatement d) (statement_with d) (λ s. (s.subjects, s.predicate_type))
    (λ p h. record {
      type_is = h.0;
      subjects = h.1.0;
      predicate_type = h.1.1;
      provenance = predicate_reads d;
    }) (λ s h. (h.type_is, (h.subjects, h.predicate_type))) _
    (finds_where (λ p. IsSubjects d p.0 × IsPart IsText (codes "predicateType") d p.1)
    (has_text (codes "_type") (codes "https://in-toto.io/Statement/v1") d) _
    (has_text-Decides (codes "_type") (codes "https://in-toto.io/Statement/v1") d)
    (finds_both (IsSubjects d) (IsPart IsText (codes "predicateType") d) _ _
    (part_reads (IsList IsSubject) (list_of subject_of)
    (list_reads IsSubject subject_of subject_reads) (codes "subject") d)
    (part_reads IsText as_str text_reads (codes "predicateType") d)))

-- decides `StatementOf`
pub statement_of : List ℕ → Option Statement
statement_of bytes = document_of statement_part_of bytes

pub statement_of-finds : (bytes : List ℕ) → Finds (StatementOf bytes) (statement_of bytes)
unfolding statement_of
statement_of-finds = document_reads IsStatement statement_part_of statement_reads
