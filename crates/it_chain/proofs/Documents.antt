-- What the bytes of a document cannot be at once, and that they are one envelope at most.
use Rattle.std.proofs.Common.{◌≡◌, ℕ, [], List, length, codes, refl, sym, ap, subst, ◌∙◌, arith}
use Rattle.std.proofs.lemmas.Option.{same_Some}
use Rattle.serde_json.specs.Data.{Data}
use Rattle.it_base.specs.Base64Text.{IsBase64}
use Rattle.it_base.specs.Parts.{IsPart}
use Rattle.it_base.specs.Sequence.{IsList}
use Rattle.it_base.specs.Text.{IsText}
use Rattle.it_base.proofs.Documents.{same_document}
use Rattle.it_base.proofs.Unique.{IsUnique, list_same, of_document_same, part_same, text_same}
use Rattle.it_dsse.specs.Envelope.{EnvelopeOf, IsEnvelope, IsSignature}
use Rattle.it_dsse.specs.declared.envelope.Envelope.{Envelope}
use Rattle.it_docs.specs.Layout.{IsLayout, LayoutOf}
use Rattle.it_docs.specs.Link.{LinkOf}
use Rattle.it_docs.specs.declared.layout.Layout.{Layout}
use Rattle.it_docs.specs.declared.link.Link.{Link}
use Rattle.it_docs.proofs.Same.{part_or_same}

base64_same : IsUnique IsBase64
base64_same d x y h k = same_Some x y (sym h ∙ k)

signature_part_same : IsUnique IsSignature
signature_part_same d x y h k =
    let sig = part_same IsBase64 base64_same (codes "sig") d x.sig y.sig h.sig k.sig in
    let keyid = part_or_same IsText [] (codes "keyid") text_same d x.keyid y.keyid h.keyid
    k.keyid in
    λ i. record { sig = sig i; keyid = keyid i }

envelope_part_same : IsUnique IsEnvelope
envelope_part_same d x y h k =
    let payload = part_same IsBase64 base64_same (codes "payload") d x.payload y.payload h.payload
    k.payload in
    let payload_type = part_same IsText text_same (codes "payloadType") d x.payload_type
    y.payload_type h.payload_type k.payload_type in
    let signatures = part_same (IsList IsSignature) (list_same IsSignature signature_part_same)
    (codes "signatures") d x.signatures y.signatures h.signatures k.signatures in
    λ i. record { payload = payload i; payload_type = payload_type i; signatures = signatures i }

-- bytes are one envelope at most
pub envelope_same : (bytes : List ℕ) (x y : Envelope) → EnvelopeOf bytes x → EnvelopeOf bytes y
    → x ≡ y
envelope_same = of_document_same IsEnvelope envelope_part_same

apart_lengths : (m n : ℕ) → m ≡ 4 → n ≡ 6 → ¬ (m ≡ n)
apart_lengths m n four six same = absurd (omega arith)

two_types : (d : Data) → IsPart IsText (codes "_type") d (codes "link")
    → ¬ IsPart IsText (codes "_type") d (codes "layout")
two_types d h k =
    let same : codes "link" ≡ codes "layout" = part_same IsText text_same (codes "_type") d
    (codes "link") (codes "layout") h k in
    apart_lengths (length (codes "link")) (length (codes "layout")) refl refl (ap length same)

-- bytes are not both a link and a layout
pub link_or_layout : (bytes : List ℕ) (link : Link) (layout : Layout) → LinkOf bytes link
    → ¬ LayoutOf bytes layout
link_or_layout bytes link layout h k =
    let is : IsLayout h.0 layout =
    subst (λ d. IsLayout d layout) (same_document bytes k.0 h.0 k.1 h.1) k.2 in
    two_types h.0 h.2.type_is is.type_is
