-- Bytes with few braces are no envelope with many signatures.
use Rattle.std.proofs.Common.{ℕ, ◌+◌, ◌≤◌, List, None, length, codes, arith}
use Rattle.serde_json.specs.Data.{Data}
use Rattle.it_base.specs.Base64Text.{IsBase64}
use Rattle.it_base.specs.Finds.{Finds}
use Rattle.it_base.specs.Sequence.{IsList}
use Rattle.it_dsse.specs.Envelope.{EnvelopeOf, IsSignature}
use Rattle.it_dsse.specs.declared.envelope.Envelope.{Envelope}
use Rattle.it_dsse.specs.declared.envelope.Signature.{Signature}
use Rattle.it_objects.specs.Objects.{braces, objects}
use Rattle.it_objects.proofs.Counted.{document_objects}
use Rattle.it_objects.proofs.Parts.{list_objects, part_objects}
use Rattle.it_limits.specs.Limit.{IsOverLimit, most_signatures}

signature_objects : (d : Data) (signature : Signature) → IsSignature d signature → 1 ≤ objects d
signature_objects d signature h =
    let has = part_objects IsBase64 (codes "sig") d signature.sig 0 h.sig (λ v k. omega arith) in
    omega (arith, has)

-- an envelope has a brace for itself and one for each of its signatures
envelope_braces : (bytes : List ℕ) (envelope : Envelope) → EnvelopeOf bytes envelope
    → length envelope.signatures + 1 ≤ braces bytes
envelope_braces bytes envelope h =
    let few = part_objects (IsList IsSignature) (codes "signatures") h.0 envelope.signatures
    (length envelope.signatures) h.2.signatures
    (λ v k. list_objects IsSignature signature_objects v envelope.signatures k) in
    omega (arith, few, document_objects bytes h.0 h.1)

pub few_braces : (bytes : List ℕ) → braces bytes ≤ most_signatures + 1
    → Finds (IsOverLimit bytes) None
few_braces bytes few = λ count h.
    absurd (omega (arith, few, h.count_is, h.is_over, envelope_braces bytes h.envelope h.reads))
