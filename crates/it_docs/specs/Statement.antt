-- Statements (in-toto Attestation Statement v1) and their provenance (SLSA Provenance v1).
use Rattle.std.specs.Prelude.{ℕ, List, IsTrue, is_some, codes}
use Rattle.serde_json.specs.Data.{Data}
use Rattle.serde_json.specs.Find.{as_object}
use Rattle.it_base.specs.Document.{OfDocument}
use Rattle.it_base.specs.Finds.{Finds}
use Rattle.it_base.specs.Parts.{IsPart, IsPartOr}
use Rattle.it_base.specs.Sequence.{IsList}
use Rattle.it_base.specs.Text.{IsText}
use Rattle.it_digest.specs.DigestSet.{no_digests}
use Rattle.it_digest.specs.declared.compare.DigestSet.{DigestSet}
use Rattle.it_digest.specs.Digest.{IsDigestSet}
use Rattle.it_base.specs.Json.{no_fields}
use Rattle.it_base.specs.TreeOf.{IsMembers}
use Rattle.it_docs.specs.declared.statement.Provenance.{Provenance}
use Rattle.it_docs.specs.declared.statement.Statement.{Statement}

-- a subject: an object, whose digest set may be missing and is then empty (this profile's choice)
pub record IsSubject (d : Data) (set : DigestSet) : Type 0 where
  pub is_object : IsTrue (is_some (as_object d))
  pub digest : IsPartOr IsDigestSet no_digests (codes "digest") d set

-- the subjects of a Statement
abbrev pub IsSubjects : Data → List DigestSet → Type 0
IsSubjects = IsPart (IsList IsSubject) (codes "subject")

-- the builder's id, in provenance
abbrev pub IsBuilder : Data → List ℕ → Type 0
IsBuilder = IsPart (IsPart (IsPart IsText (codes "id")) (codes "builder")) (codes "runDetails")

-- provenance in a document; missing parameters are empty (this profile's choice)
pub record IsProvenance (d : Data) (provenance : Provenance) : Type 0 where
  pub build_type : IsPart (IsPart IsText (codes "buildType")) (codes "buildDefinition") d
      provenance.build_type
  pub parameters : IsPart (IsPartOr IsMembers no_fields (codes "externalParameters"))
      (codes "buildDefinition") d provenance.parameters
  pub builder : IsBuilder d provenance.builder

-- the provenance of a Statement
pub record IsProvenanceOf (d : Data) (provenance : Provenance) : Type 0 where
  pub type_is : IsPart IsText (codes "predicateType") d (codes "https://slsa.dev/provenance/v1")
  pub predicate : IsPart IsProvenance (codes "predicate") d provenance

-- a Statement in a document; where its predicate is not provenance, it has none
pub record IsStatement (d : Data) (statement : Statement) : Type 0 where
  pub type_is : IsPart IsText (codes "_type") d (codes "https://in-toto.io/Statement/v1")
  pub subjects : IsSubjects d statement.subjects
  pub predicate_type : IsPart IsText (codes "predicateType") d statement.predicate_type
  pub provenance : Finds (IsProvenanceOf d) statement.provenance

-- the bytes are a document that is this Statement
abbrev pub StatementOf : List ℕ → Statement → Type 0
StatementOf = OfDocument IsStatement
