-- Entries of a transparency log (Sigstore's `TransparencyLogEntry`).
use Rattle.std.specs.Prelude.{ℕ, ◌<◌, List, codes}
use Rattle.serde_json.specs.Data.{Data}
use Rattle.it_base.specs.Base64Text.{IsBase64}
use Rattle.it_base.specs.Document.{member_at}
use Rattle.it_base.specs.Parts.{IsPart, IsPartOr}
use Rattle.it_base.specs.Table.{Stands}
use Rattle.it_base.specs.Text.{IsText}
use Rattle.it_log_entry.specs.InclusionProof.{IsInclusionProof}
use Rattle.it_log_entry.specs.Number.{IsNumber}
use Rattle.it_log_entry.specs.declared.entry.LogEntry.{LogEntry}
use Rattle.it_log_entry.specs.declared.kind.EntryKind.{EntryKind}

-- a kind of entry in a document (`KindVersion`)
pub record IsKind (d : Data) (kind : EntryKind) : Type 0 where
  pub kind_is : IsPart IsText (codes "kind") d kind.kind
  pub version_is : IsPart IsText (codes "version") d kind.version

-- the bytes in the member of a member
abbrev pub IsBase64Below : List ℕ → List ℕ → Data → List ℕ → Type 0
IsBase64Below outer inner = IsPart (IsPart IsBase64 inner) outer

-- an entry in a document; a missing index is 0, since the JSON form of protobuf leaves it out. The
-- log's promise must be there (this profile's choice), and the proof may be missing
pub record IsLogEntry (d : Data) (entry : LogEntry) : Type 0 where
  pub log_id : IsBase64Below (codes "logId") (codes "keyId") d entry.log_id
  pub index : IsPartOr IsNumber 0 (codes "logIndex") d entry.index
  pub time : IsPart IsNumber (codes "integratedTime") d entry.time
  pub time_some : 0 < entry.time
  pub kind : IsPart IsKind (codes "kindVersion") d entry.kind
  pub promise : IsBase64Below (codes "inclusionPromise") (codes "signedEntryTimestamp") d
      entry.promise
  pub proof : Stands IsInclusionProof (member_at (codes "inclusionProof") d) entry.proof
  pub body : IsPart IsBase64 (codes "canonicalizedBody") d entry.body
