-- What `itv statement` writes: a Statement (in-toto Attestation, Statement v1) that carries
-- provenance (SLSA Provenance v1).
use Rattle.std.specs.Prelude.{◌≡◌, ℕ, ◌≤◌, List, ◌++◌, map, codes, false, Option, Some, None}
use Rattle.std.specs.Prelude.{◌≢◌, Contains}
use Rattle.std.specs.FinMap.{empty, entries, values}
use Rattle.json.specs.Lex.{tokens}
use Rattle.json.specs.Print.{print}
use Rattle.serde_json.specs.Data.{Data, array, depth, member, no_members, object, string}
use Rattle.serde_json.specs.Read.{max_depth}
use Rattle.serde_json.specs.View.{items_of}
use Rattle.serde_json.specs.Written.{IsInOrder, compact_text, has_float}
use Rattle.it_base.specs.Document.{IsDocument}
use Rattle.it_base.specs.Json.{Fields, no_fields}
use Rattle.it_base.specs.TreeOf.{IsMembers}
use Rattle.it_digest.specs.Artifacts.{ArtifactMap}
use Rattle.it_digest.specs.DigestSet.{in_sha256}
use Rattle.it_digest.specs.Sums.{IsFirstBadLine, SumsOf}
use Rattle.it_digest.specs.declared.compare.DigestSet.{DigestSet}
use Rattle.it_docs.specs.Statement.{StatementOf}
use Rattle.it_docs.specs.declared.statement.Statement.{Statement}
use Rattle.it_outcome.specs.declared.outcome.RunFault.{RunFault}
use Rattle.it_outcome.specs.declared.outcome.RunFault.TheVariants.{
  Write,
  OutOfMemory,
  BadSubjects,
  NoSubjects,
  BadParameters,
}
use Rattle.it_making.specs.ArtifactDocuments.{digest_set_document}

-- a subject as a JSON object: a file's path as name, and its digest set
abbrev pub subject_document : List ℕ × DigestSet → Data
subject_document e = object
    (member (codes "digest") (digest_set_document e.1)
    (member (codes "name") (string e.0)
    no_members))

-- the subjects as a JSON list, in the order of the paths' bytes (this profile's choice)
abbrev pub subjects_document : ArtifactMap → Data
subjects_document subjects = array (items_of (map subject_document (entries subjects)))

-- the provenance as a JSON object, with the parameters as they are
abbrev pub provenance_document : (build_type builder : List ℕ) → (parameters : Data) → Data
provenance_document build_type builder parameters = object
    (member (codes "buildDefinition") (object
    (member (codes "buildType") (string build_type)
    (member (codes "externalParameters") parameters
    no_members)))
    (member (codes "runDetails") (object
    (member (codes "builder") (object
    (member (codes "id") (string builder)
    no_members))
    no_members))
    no_members))

-- a Statement of a predicate type as a JSON object, its members in the order of their bytes (this
-- profile's choice)
abbrev pub typed_document : (predicate_type : List ℕ) → (subjects predicate : Data) → Data
typed_document predicate_type subjects predicate = object
    (member (codes "_type") (string (codes "https://in-toto.io/Statement/v1"))
    (member (codes "predicate") predicate
    (member (codes "predicateType") (string predicate_type)
    (member (codes "subject") subjects
    no_members))))

-- the Statement that carries provenance
abbrev pub statement_document : ArtifactMap → (predicate : Data) → Data
statement_document subjects predicate =
    typed_document (codes "https://slsa.dev/provenance/v1") (subjects_document subjects) predicate

-- the Statement as it is read
abbrev pub statement_of : ArtifactMap → (build_type builder : List ℕ) → Fields → Statement
statement_of subjects build_type builder parameters = record {
  subjects = values subjects;
  predicate_type = codes "https://slsa.dev/provenance/v1";
  provenance = Some (record {
    build_type = build_type;
    builder = builder;
    parameters = parameters;
  });
}

-- the external parameters: those of a JSON object, and none where nothing is given. The object
-- nests at most 124 levels deep (this profile's choice), since the Statement takes three of the 127
-- that a document may nest
abbrev pub AreParameters : Option (List ℕ) → Data → Fields → Type 0
AreParameters None d parameters = (d ≡ object no_members) × (parameters ≡ no_fields)
AreParameters (Some bytes) d parameters =
    IsDocument bytes d × IsMembers d parameters × (depth d ≤ 124)

-- the text is one line, and a line feed: a JSON text with no space between its tokens, and with the
-- items and the members of the document, each once and in order
pub record IsCompactLine (text : List ℕ) (document : Data) : Type 0 where
  pub line : List ℕ
  pub text_is : text ≡ line ++ codes "\n"
  pub no_feed : ¬ Contains line 10
  pub compact : line ≡ print (tokens line)
  pub in_order : IsInOrder line document

-- the text is this document written on one line, and reads back if it is not too deep; where no
-- number in it has a fraction or an exponent, or is past 64 bits, each byte is determined
pub record IsWritten (text : List ℕ) (d : Data) : Type 0 where
  pub reads : depth d ≤ max_depth → IsDocument text d
  pub one_line : IsCompactLine text d
  pub text_is : has_float d ≡ false → text ≡ compact_text d ++ codes "\n"

-- the digest list, by SHA-256, describes these subjects, of which there is at least one (this
-- project's choice: a Statement without a subject attests nothing)
pub record AreSubjects (sums : List ℕ) (subjects : ArtifactMap) : Type 0 where
  pub listed : SumsOf in_sha256 sums subjects
  pub some : subjects ≢ empty

-- the text is a JSON text of the Statement of this digest list, builder, build type and parameters,
-- on one line with no space, and reads back as that Statement and no other; where no parameter is a
-- number with a fraction or an exponent, or past 64 bits, each byte is determined
pub record IsStatementOutput (sums build_type builder : List ℕ) (given : Option (List ℕ))
    (text : List ℕ) : Type 0 where
  pub subjects : ArtifactMap
  pub document : Data
  pub parameters : Fields
  pub subjects_are : AreSubjects sums subjects
  pub parameters_are : AreParameters given document parameters
  pub reads : IsDocument text
      (statement_document subjects (provenance_document build_type builder document))
  pub one_line : IsCompactLine text
      (statement_document subjects (provenance_document build_type builder document))
  pub text_is : has_float document ≡ false → text ≡ compact_text
      (statement_document subjects (provenance_document build_type builder document)) ++ codes "\n"
  pub reads_back : StatementOf text (statement_of subjects build_type builder parameters)
  pub only : (other : Statement) → StatementOf text other
      → other ≡ statement_of subjects build_type builder parameters

-- why the command stops: a bad line of the subjects, otherwise no subject or bad parameters, or a
-- fault that any command may have
abbrev pub IsStatementFault : (sums : List ℕ) → Option (List ℕ) → RunFault → Type 0
IsStatementFault sums given Write = Unit {0}
IsStatementFault sums given OutOfMemory = Unit {0}
IsStatementFault sums given (BadSubjects line) = IsFirstBadLine in_sha256 sums line
IsStatementFault sums given NoSubjects = SumsOf in_sha256 sums empty
IsStatementFault sums given BadParameters =
    ((subjects : ArtifactMap) × AreSubjects sums subjects)
    × ((d : Data) (parameters : Fields) → ¬ AreParameters given d parameters)
IsStatementFault sums given other = ⊥
