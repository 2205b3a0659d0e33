-- What stands behind an accepted delivery, as JSON (this profile's choice).
use Rattle.std.specs.Prelude.{ℕ, List, [], ◌∷◌, ◌++◌, Option, None, Some, codes, decimal}
use Rattle.hex.specs.Hex.{encode_lower}
use Rattle.it_digest.specs.DigestSet.{in_sha256, in_sha384, in_sha512, name_of}
use Rattle.it_digest.specs.declared.compare.DigestSet.{DigestSet}
use Rattle.it_json_report.specs.Json.{json_list, json_object, json_text}
use Rattle.it_json_report.specs.declared.evidence.CountedKey.{CountedKey}
use Rattle.it_json_report.specs.declared.evidence.Evidence.{Evidence}
use Rattle.it_json_report.specs.declared.evidence.FileEvidence.{FileEvidence}
use Rattle.it_json_report.specs.declared.evidence.Signer.{Signer}
use Rattle.it_json_report.specs.declared.evidence.StepEvidence.{StepEvidence}

-- a digest, as a text of lower-case hexadecimal digits
abbrev pub json_digits : List ℕ → List ℕ
json_digits digest = json_text (encode_lower digest)

-- a digest under the name of its algorithm, where there is one
abbrev pub digest_members : List ℕ → Option (List ℕ) → List (List ℕ × List ℕ)
digest_members name None = []
digest_members name (Some digest) = (name, json_digits digest) ∷ []

-- the digests of a digest set (in-toto Attestation v1, DigestSet)
abbrev pub set_members : DigestSet → List (List ℕ × List ℕ)
set_members set =
    digest_members (name_of in_sha256) set.sha256 ++ digest_members (name_of in_sha384) set.sha384
    ++ digest_members (name_of in_sha512) set.sha512

-- a key id that counted for a step, the files by which it did, and the places of its signatures in
-- their envelopes
abbrev pub key_form : (id : List ℕ) (files : List (List ℕ)) (signatures : List ℕ) → List ℕ
key_form id files signatures =
    json_object ((codes "keyid", json_text id) ∷ (codes "files", json_list json_text files)
    ∷ (codes "signatures", json_list decimal signatures) ∷ [])

abbrev pub key_object : CountedKey → List ℕ
key_object key = key_form key.id key.files key.signatures

-- a step, and the key ids that counted for it
abbrev pub counted_form : (name : List ℕ) (keys : List CountedKey) → List ℕ
counted_form name keys =
    json_object ((codes "name", json_text name) ∷ (codes "keys", json_list key_object keys) ∷ [])

abbrev pub counted_object : StepEvidence → List ℕ
counted_object step = counted_form step.name step.keys

-- an identity that signed, its issuer, and the time of the log, in seconds since 1970
abbrev pub signer_form : (identity issuer : List ℕ) (time : ℕ) → List ℕ
signer_form identity issuer time =
    json_object ((codes "identity", json_text identity) ∷ (codes "issuer", json_text issuer)
    ∷ (codes "loggedAt", decimal time) ∷ [])

abbrev pub signer_object : Signer → List ℕ
signer_object signer = signer_form signer.identity signer.issuer signer.logged_at

-- the member of the identity, where one signed
abbrev pub signer_members : Option Signer → List (List ℕ × List ℕ)
signer_members None = []
signer_members (Some signer) = (codes "signer", signer_object signer) ∷ []

-- a delivered file with its digests, the line of its provenance, the builder, the builder's level,
-- and the identity that signed
abbrev pub file_object : FileEvidence → List ℕ
file_object file =
    json_object ((codes "path", json_text file.path)
    ∷ (codes "digests", json_object (set_members file.digests))
    ∷ (codes "line", decimal file.line) ∷ (codes "builder", json_text file.builder)
    ∷ (codes "level", decimal file.level) ∷ signer_members file.signer)

-- what stands behind an accepted delivery
abbrev pub evidence_object : Evidence → List ℕ
evidence_object evidence =
    json_object ((codes "moment", json_text evidence.moment)
    ∷ (codes "policy", json_digits evidence.policy)
    ∷ (codes "layout", json_digits evidence.layout)
    ∷ (codes "expires", json_text evidence.expires)
    ∷ (codes "steps", json_list counted_object evidence.steps)
    ∷ (codes "files", json_list file_object evidence.files) ∷ [])
