-- The documents of envelopes.
use Rattle.std.proofs.Common.{◌≡◌, ℕ, ◌+◌, ◌<◌, ◌≤◌, List, [], ◌∷◌, ◌++◌, false, Some, length, map}
use Rattle.std.proofs.Common.{take, get_or, refl, ap, arith, subst}
use Rattle.std.proofs.lemmas.List.{map-append, map_more}
use Rattle.std.specs.Str.{IsUtf8}
use Rattle.serde_json.specs.Data.{Data, depth, items_depth}
use Rattle.serde_json.specs.Read.{max_depth, read}
use Rattle.serde_json.specs.View.{items_of}
use Rattle.serde_json.specs.Written.{compact_text, has_float, items_have_float}
use Rattle.it_dsse.specs.Envelope.{EnvelopeOf, IsEnvelope}
use Rattle.it_dsse.specs.Written.{document_of, signature_document, written_form}
use Rattle.it_dsse.specs.declared.envelope.Envelope.{Envelope}
use Rattle.it_dsse.specs.declared.envelope.Signature.{Signature}

no_float_in_signatures : (signatures : List Signature)
    → items_have_float (items_of (map signature_document signatures)) ≡ false
no_float_in_signatures [] = refl
no_float_in_signatures (signature ∷ signatures) = no_float_in_signatures signatures

no_float : (envelope : Envelope) → has_float (document_of envelope) ≡ false
no_float envelope = rw (no_float_in_signatures envelope.signatures) refl

shallow_signatures : (signatures : List Signature)
    → items_depth (items_of (map signature_document signatures)) ≤ 1
shallow_signatures [] = omega arith
shallow_signatures (signature ∷ signatures) = omega (arith, shallow_signatures signatures)

shallow : (envelope : Envelope) → depth (document_of envelope) ≤ max_depth
shallow envelope = omega (arith, shallow_signatures envelope.signatures)

-- the text of the document is the written form
pub is_written : (envelope : Envelope) (d : Data) (text : List ℕ) → d ≡ document_of envelope
    → (has_float d ≡ false → text ≡ compact_text d) → text ≡ written_form envelope
unfolding written_form
is_written envelope d text is writes = (rw is at writes) (no_float envelope)

-- a text that reads as the document is the envelope
pub written_reads : (envelope : Envelope) (d : Data) (text : List ℕ) → d ≡ document_of envelope
    → text ≡ written_form envelope → IsUtf8 text
    → (depth d ≤ max_depth → read text ≡ Some d) → IsEnvelope d envelope
    → EnvelopeOf (written_form envelope) envelope
written_reads envelope d text is written utf8 reads is_envelope =
    subst (λ t. EnvelopeOf t envelope) written (
      d,
      record {
        utf8 = utf8;
        reads = reads (rw is (shallow envelope));
      },
      is_envelope,
    )

-- one more signature
pub documents_more : {X Y Z : Type 0} (f : X → Z) (g : Y → Z) (xs new : List X) (ys : List Y)
    (i : ℕ) (x : X) (y : Y) → i < length ys → y ≡ get_or ys i y
    → map f xs ≡ map g (take i ys) → f x ≡ g y → new ≡ xs ++ x ∷ []
    → map f new ≡ map g (take (i + 1) ys)
documents_more f g xs new ys i x y below here before same pushed =
    rw (pushed, map-append f xs (x ∷ []), map_more g ys i y below, before, same)
    (ap (λ z. map g (take i ys) ++ g z ∷ []) here)
