-- Digest sets (in-toto Attestation v1, DigestSet) and artifact maps (in-toto 1.0 section 4.4) as
-- JSON objects.
use Rattle.std.specs.Prelude.{ℕ, List, [], ◌∷◌, Option, None, Some}
use Rattle.std.specs.FinMap.{entries}
use Rattle.serde_json.specs.Data.{Data, Members, member, no_members, object, string}
use Rattle.hex.specs.Hex.{encode_lower}
use Rattle.it_base.specs.Table.{Named}
use Rattle.it_digest.specs.Artifacts.{ArtifactMap}
use Rattle.it_digest.specs.DigestSet.{in_sha256, in_sha384, in_sha512, name_of}
use Rattle.it_digest.specs.declared.compare.DigestSet.{DigestSet}

-- a digest under the name of its algorithm, in lower-case digits (this profile's choice), and what
-- follows it; only the latter where there is no digest
abbrev pub digest_member : List ℕ → Option (List ℕ) → Members → Members
digest_member name None rest = rest
digest_member name (Some digest) rest = member name (string (encode_lower digest)) rest

-- a digest set as a JSON object
abbrev pub digest_set_document : DigestSet → Data
digest_set_document set = object
    (digest_member (name_of in_sha256) set.sha256
    (digest_member (name_of in_sha384) set.sha384
    (digest_member (name_of in_sha512) set.sha512 no_members)))

-- a member for each entry, in their order
abbrev pub entry_members : {X : Type 0} → (X → Data) → List (List ℕ × X) → Members
entry_members f [] = no_members
entry_members f (e ∷ es) = member e.0 (f e.1) (entry_members f es)

-- a map as a JSON object, its names in the order of their bytes
abbrev pub table_document : {X : Type 0} → (X → Data) → Named X → Data
table_document f m = object (entry_members f (entries m))

-- an artifact map as a JSON object
abbrev pub artifacts_document : ArtifactMap → Data
artifacts_document = table_document digest_set_document
