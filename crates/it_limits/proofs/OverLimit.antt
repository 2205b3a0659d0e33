-- What is found of the number of signatures.
use Rattle.std.proofs.Common.{◌≡◌, ◌<◌, ℕ, List, Option, Some, None, length, ap, sym, ◌∙◌}
use Rattle.it_base.specs.Finds.{Finds}
use Rattle.it_dsse.specs.Envelope.{EnvelopeOf}
use Rattle.it_dsse.specs.declared.envelope.Envelope.{Envelope}
use Rattle.it_chain.proofs.Documents.{envelope_same}
use Rattle.it_limits.specs.Limit.{IsOverLimit, most_signatures}

-- it holds of the bytes that are the envelope
pub found_of : (bytes : List ℕ) (envelope : Envelope) (count : ℕ) (found : Option ℕ)
    → EnvelopeOf bytes envelope → count ≡ length envelope.signatures
    → Finds (λ over. (over ≡ count) × (most_signatures < over)) found
    → Finds (IsOverLimit bytes) found
found_of bytes envelope count None reads is none = λ over h.
    let same = envelope_same bytes h.envelope envelope h.reads reads in
    none over (h.count_is ∙ ap (λ (e : Envelope). length e.signatures) same ∙ sym is, h.is_over)
found_of bytes envelope count (Some over) reads is some = record {
  envelope = envelope;
  reads = reads;
  count_is = some.0 ∙ is;
  is_over = some.1;
}
