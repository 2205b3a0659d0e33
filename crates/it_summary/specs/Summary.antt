-- The body of a verification summary (SLSA v1.0, verification summary): a Statement (in-toto
-- Attestation, Statement v1) about the files of a delivery that was accepted.
use Rattle.std.specs.Prelude.{ℕ, ◌==◌, List, [], ◌∷◌, ◌++◌, Option, None, Some, codes, decimal}
use Rattle.std.specs.Prelude.{if◌then◌else◌, map, min}
use Rattle.std.specs.List.{reduce}
use Rattle.base64.specs.Engines.{url_safe_no_pad}
use Rattle.base64.specs.GeneralPurpose.{encode_of}
use Rattle.hex.specs.Hex.{encode_lower}
use Rattle.serde_json.specs.Data.{Data, array, member, no_members, object, string}
use Rattle.serde_json.specs.View.{items_of}
use Rattle.serde_json.specs.Written.{compact_text}
use Rattle.it_digest.specs.declared.compare.DigestSet.{DigestSet}
use Rattle.it_docs.specs.declared.statement.Statement.{Statement}
use Rattle.it_json_report.specs.declared.evidence.Evidence.{Evidence}
use Rattle.it_json_report.specs.declared.evidence.FileEvidence.{FileEvidence}
use Rattle.it_making.specs.StatementOutput.{subject_document, typed_document}

-- the predicate type of verification summaries
abbrev pub summary_type : List ℕ
summary_type = codes "https://slsa.dev/verification_summary/v1"

-- a delivered file as a subject: by its path, and its digests
abbrev pub subject_of : FileEvidence → Data
subject_of file = subject_document (file.path, file.digests)

-- the delivered files as subjects, in the order of the bytes of their paths
abbrev pub subjects_document : List FileEvidence → Data
subjects_document files = array (items_of (map subject_of files))

-- the URI that names what has this SHA-256 (RFC 6920, section 3)
abbrev pub digest_uri : List ℕ → List ℕ
digest_uri digest = codes "ni:///sha-256;" ++ encode_of url_safe_no_pad digest

-- the policy that has this SHA-256 (in-toto Attestation v1, ResourceDescriptor); its URI names it by
-- that, since a policy has no other name (this profile's choice)
abbrev pub policy_document : List ℕ → Data
policy_document digest = object
    (member (codes "digest")
    (object (member (codes "sha256") (string (encode_lower digest)) no_members))
    (member (codes "uri") (string (digest_uri digest))
    no_members))

-- the least level that stood for a file, where there is a file
abbrev pub least_level : List FileEvidence → Option ℕ
least_level files = reduce min (map (λ file. file.level) files)

-- the levels that a delivery reached (SLSA v1.0, SlsaResult): the one by its name, and none where
-- it is 0
abbrev pub level_names : Option ℕ → List (List ℕ)
level_names None = []
level_names (Some level) =
    if level == 0 then [] else (codes "SLSA_BUILD_LEVEL_" ++ decimal level) ∷ []

-- what was verified, when, by whom, by which policy and to which level, its members in the order of
-- their bytes; it names no input attestations, as the standard allows (this profile's choice)
abbrev pub summary_predicate : Evidence → (verifier resource : List ℕ) → Data
summary_predicate evidence verifier resource = object
    (member (codes "policy") (policy_document evidence.policy)
    (member (codes "resourceUri") (string resource)
    (member (codes "slsaVersion") (string (codes "1.0"))
    (member (codes "timeVerified") (string evidence.moment)
    (member (codes "verificationResult") (string (codes "PASSED"))
    (member (codes "verifiedLevels")
    (array (items_of (map string (level_names (least_level evidence.files)))))
    (member (codes "verifier") (object (member (codes "id") (string verifier) no_members))
    no_members)))))))

-- the Statement about the delivered files
abbrev pub summary_document : Evidence → (verifier resource : List ℕ) → Data
summary_document evidence verifier resource =
    typed_document summary_type (subjects_document evidence.files)
    (summary_predicate evidence verifier resource)

-- the body: compact JSON on one line, and a line feed
unfoldable pub summary_of : Evidence → (verifier resource : List ℕ) → List ℕ
summary_of evidence verifier resource =
    compact_text (summary_document evidence verifier resource) ++ codes "\n"

-- the digests of the delivered files
abbrev pub digests_of : List FileEvidence → List DigestSet
digests_of files = map (λ file. file.digests) files

-- the Statement as it is read: the delivered files are its subjects, and it carries no provenance
abbrev pub statement_of : List FileEvidence → Statement
statement_of files = record {
  subjects = digests_of files;
  predicate_type = summary_type;
  provenance = None;
}
