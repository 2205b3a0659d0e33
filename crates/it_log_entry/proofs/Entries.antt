-- A document is one entry at most.
use Rattle.std.proofs.Common.{◌≡◌, ◌∙◌, ℕ, List, [], codes, Option, Some, None, ap, sym}
use Rattle.serde_json.specs.Data.{Data}
use Rattle.it_base.specs.Base64Text.{IsBase64}
use Rattle.it_base.specs.Document.{member_at}
use Rattle.it_base.specs.Parts.{IsPart}
use Rattle.it_base.specs.Sequence.{IsList}
use Rattle.it_base.specs.Table.{Stands}
use Rattle.it_base.specs.Text.{IsText}
use Rattle.it_base.proofs.Unique.{IsUnique, list_same, part_same, text_same}
use Rattle.it_log_entry.specs.InclusionProof.{IsHash, IsInclusionProof}
use Rattle.it_log_entry.specs.LogEntry.{IsKind, IsLogEntry}
use Rattle.it_log_entry.specs.Number.{IsNumber}
use Rattle.it_log_entry.proofs.Same.{base64_same, hash_same, number_same, part_or_same}

-- what stands where a member is found, or is missing
pub stands_same : {X : Type 0} (P : Data → X → Type 0) → IsUnique P → (found : Option Data)
    (x y : Option X) → Stands P found x → Stands P found y → x ≡ y
stands_same P same None x y h k = h ∙ sym k
stands_same P same (Some v) x y h k = h.1 ∙ ap Some (same v h.0 k.0 h.2 k.2) ∙ sym k.1

below_same : (outer inner : List ℕ) → IsUnique (IsPart (IsPart IsBase64 inner) outer)
below_same outer inner =
    part_same (IsPart IsBase64 inner) (part_same IsBase64 base64_same inner) outer

proof_same : IsUnique IsInclusionProof
proof_same d x y h k =
    let index = part_or_same IsNumber 0 (codes "logIndex") number_same d x.index y.index h.index
    k.index in
    let size = part_same IsNumber number_same (codes "treeSize") d x.size y.size h.size k.size in
    let root = part_same IsHash hash_same (codes "rootHash") d x.root y.root h.root k.root in
    let path = part_or_same (IsList IsHash) [] (codes "hashes") (list_same IsHash hash_same) d x.path
    y.path h.path k.path in
    let checkpoint = part_same (IsPart IsText (codes "envelope"))
    (part_same IsText text_same (codes "envelope")) (codes "checkpoint") d x.checkpoint y.checkpoint
    h.checkpoint k.checkpoint in
    λ i. record {
      index = index i;
      size = size i;
      root = root i;
      path = path i;
      checkpoint = checkpoint i;
    }

kind_same : IsUnique IsKind
kind_same d x y h k =
    let kind = part_same IsText text_same (codes "kind") d x.kind y.kind h.kind_is k.kind_is in
    let version = part_same IsText text_same (codes "version") d x.version y.version h.version_is
    k.version_is in
    λ i. record { kind = kind i; version = version i }

pub entry_same : IsUnique IsLogEntry
entry_same d x y h k =
    let log_id = below_same (codes "logId") (codes "keyId") d x.log_id y.log_id h.log_id k.log_id in
    let index = part_or_same IsNumber 0 (codes "logIndex") number_same d x.index y.index h.index
    k.index in
    let time = part_same IsNumber number_same (codes "integratedTime") d x.time y.time h.time
    k.time in
    let kind = part_same IsKind kind_same (codes "kindVersion") d x.kind y.kind h.kind k.kind in
    let promise = below_same (codes "inclusionPromise") (codes "signedEntryTimestamp") d x.promise
    y.promise h.promise k.promise in
    let proof = stands_same IsInclusionProof proof_same (member_at (codes "inclusionProof") d)
    x.proof y.proof h.proof k.proof in
    let body = part_same IsBase64 base64_same (codes "canonicalizedBody") d x.body y.body h.body
    k.body in
    λ i. record {
      log_id = log_id i;
      index = index i;
      time = time i;
      kind = kind i;
      promise = promise i;
      proof = proof i;
      body = body i;
    }
