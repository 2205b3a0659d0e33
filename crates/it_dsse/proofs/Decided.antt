-- Which envelope bytes are, and which key object a part is, as answers.
use Rattle.std.proofs.Common.{◌≡◌, ℕ, List, [], Bool, true, false, cond, codes, Option, Some, None}
use Rattle.std.proofs.Common.{option_map, is_some, refl, true≢false, sym, ◌∙◌}
use Rattle.serde_json.specs.Data.{Data}
use Rattle.serde_json.specs.Find.{as_object, as_str}
use Rattle.it_base.specs.Base64Text.{IsBase64}
use Rattle.it_base.specs.Document.{member_at}
use Rattle.it_base.specs.Finds.{Finds}
use Rattle.it_base.specs.Parts.{IsPart, IsPartOr}
use Rattle.it_base.specs.Sequence.{IsList}
use Rattle.it_base.specs.Text.{IsText}
use Rattle.it_base.proofs.Decided.{Reads, base64_of, base64_reads, both_of, document_of}
use Rattle.it_base.proofs.Decided.{document_reads, finds_both, finds_like, list_of, list_reads}
use Rattle.it_base.proofs.Decided.{part_of, part_or_of, part_or_reads, part_reads, text_reads}
use Rattle.it_dsse.specs.Envelope.{EnvelopeOf, IsEnvelope, IsSignature}
use Rattle.it_dsse.specs.KeyObject.{IsKeyObject, text_at}
use Rattle.it_dsse.specs.declared.envelope.Envelope.{Envelope}
use Rattle.it_dsse.specs.declared.envelope.Signature.{Signature}
use Rattle.it_dsse.specs.declared.key_object.KeyObject.{KeyObject}

abbrev signature_with : List ℕ × List ℕ → Signature
signature_with parts = record { sig = parts.0; keyid = parts.1 }

-- decides `IsSignature`
abbrev signature_of : Data → Option Signature
signature_of d = option_map signature_with (both_of (part_of base64_of (codes "sig") d)
    (part_or_of as_str [] (codes "keyid") d))

abbrev envelope_with : (List ℕ × List ℕ) × List Signature → Envelope
envelope_with parts = record { payload = parts.0.0; payload_type = parts.0.1; signatures = parts.1 }

-- decides `IsEnvelope`
abbrev envelope_part_of : Data → Option Envelope
envelope_part_of d =
    option_map envelope_with
    (both_of (both_of (part_of base64_of (codes "payload") d)
    (part_of as_str (codes "payloadType") d))
    (part_of (list_of signature_of) (codes "signatures") d))

-- decides `EnvelopeOf`
unfoldable pub envelope_of : List ℕ → Option Envelope
envelope_of bytes = document_of envelope_part_of bytes

-- decides `IsKeyObject`
abbrev pub key_object_of : Data → Option KeyObject
key_object_of d =
    cond (is_some (as_object d))
    (Some (record {
      keytype = text_at (codes "keytype") (Some d);
      scheme = text_at (codes "scheme") (Some d);
      public = text_at (codes "public") (member_at (codes "keyval") d);
      identity = text_at (codes "identity") (member_at (codes "keyval") d);
      issuer = text_at (codes "issuer") (member_at (codes "keyval") d);
    }))
    None

signature_reads : Reads IsSignature signature_of
signature_reads d =
    finds_like _ (IsSignature d) signature_with (λ s. (s.sig, s.keyid)) (λ p h. record {
      sig = h.0;
      keyid = h.1;
    }) (λ s h. (h.sig, h.keyid)) _
    (finds_both (IsPart IsBase64 (codes "sig") d) (IsPartOr IsText [] (codes "keyid") d) _ _
    (part_reads IsBase64 base64_of base64_reads (codes "sig") d)
    (part_or_reads IsText as_str text_reads [] (codes "keyid") d))

envelope_reads : Reads IsEnvelope envelope_part_of
envelope_reads d =
    finds_like _ (IsEnvelope d) envelope_with (λ e. ((e.payload, e.payload_type), e.signatures))
    (λ p h. record { payload = h.0.0; payload_type = h.0.1; signatures = h.1 })
    (λ e h. ((h.payload, h.payload_type), h.signatures)) _
    (finds_both _ (IsPart (IsList IsSignature) (codes "signatures") d) _ _
    (finds_both (IsPart IsBase64 (codes "payload") d) (IsPart IsText (codes "payloadType") d) _ _
    (part_reads IsBase64 base64_of base64_reads (codes "payload") d)
    (part_reads IsText as_str text_reads (codes "payloadType") d))
    (part_reads (IsList IsSignature) (list_of signature_of)
    (list_reads IsSignature signature_of signature_reads) (codes "signatures") d))

-- bytes are what is answered
pub envelope_of-finds : (bytes : List ℕ) → Finds (EnvelopeOf bytes) (envelope_of bytes)
unfolding envelope_of
envelope_of-finds = document_reads IsEnvelope envelope_part_of envelope_reads

pub key_object_reads : Reads IsKeyObject key_object_of
key_object_reads d = go (is_some (as_object d)) refl
  where
    go : (b : Bool) → is_some (as_object d) ≡ b
        → Finds (IsKeyObject d)
        (cond b (Some (record {
          keytype = text_at (codes "keytype") (Some d);
          scheme = text_at (codes "scheme") (Some d);
          public = text_at (codes "public") (member_at (codes "keyval") d);
          identity = text_at (codes "identity") (member_at (codes "keyval") d);
          issuer = text_at (codes "issuer") (member_at (codes "keyval") d);
        })) None)
    go true e = record {
      is_object = e;
      keytype = refl;
      scheme = refl;
      public = refl;
      identity = refl;
      issuer = refl;
    }
    go false e = λ object h. true≢false (sym h.is_object ∙ e)
