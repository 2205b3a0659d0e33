-- The lines of the provenance, and the envelopes that they are.
use Rattle.std.proofs.Common.{◌≡◌, ℕ, suc, ◌+◌, List, [], ◌∷◌, Contains, length, ⊎_elim}
use Rattle.std.proofs.Common.{ap, ◌∙◌, arith, subst, sym}
use Rattle.std.proofs.lemmas.List.Sums.{sum_by-cons}
use Rattle.it_base.proofs.Members.{in_cases, in_head, in_none, in_tail}
use Rattle.it_base.specs.Sum.{CostsIfFound, IsSum}
use Rattle.it_dsse.specs.Envelope.{EnvelopeOf}
use Rattle.it_dsse.specs.declared.envelope.Envelope.{Envelope}
use Rattle.it_chain.specs.Cost.{HasSignatures}
use Rattle.it_chain.proofs.Documents.{envelope_same}
use Rattle.it_prov.specs.Cost.{signature_count}
use Rattle.it_prov.specs.ProvenanceLines.{AreReadFrom}

-- an envelope that was read is that of a line
pub line_of : (first : ℕ) (lines : List (List ℕ)) (envelopes : List Envelope) (places : List ℕ)
    → AreReadFrom first lines envelopes places → (envelope : Envelope)
    → Contains envelopes envelope → (line : List ℕ) × Contains lines line × EnvelopeOf line envelope
line_of first [] envelopes places are envelope c =
    absurd (in_none envelope (subst (λ es. Contains es envelope) are.0 c))
line_of first (line ∷ lines) envelopes places are envelope c = ⊎_elim
    (λ x. ⊎_elim (λ same. (line, in_head line lines, subst (EnvelopeOf line) same x.3))
    (λ later. let found = line_of (suc first) lines x.1 x.2 x.6 envelope later in
    (found.0, in_tail line lines found.0 found.1, found.2))
    (in_cases x.0 x.1 envelope (subst (λ es. Contains es envelope) x.4 c)))
    (λ x. let found = line_of (suc first) lines envelopes places x.1 envelope c in
    (found.0, in_tail line lines found.0 found.1, found.2)) are

-- the envelope of a line was read
pub read_of : (first : ℕ) (lines : List (List ℕ)) (envelopes : List Envelope) (places : List ℕ)
    → AreReadFrom first lines envelopes places → (line : List ℕ) (envelope : Envelope)
    → Contains lines line → EnvelopeOf line envelope → Contains envelopes envelope
read_of first [] envelopes places are line envelope c reads = absurd (in_none line c)
read_of first (l ∷ lines) envelopes places are line envelope c reads = ⊎_elim
    (λ x. subst (λ es. Contains es envelope) (sym x.4)
    (⊎_elim (λ same. subst (Contains (x.0 ∷ x.1))
    (envelope_same line x.0 envelope (subst (λ t. EnvelopeOf t x.0) same x.3) reads)
    (in_head x.0 x.1))
    (λ later. in_tail x.0 x.1 envelope
    (read_of (suc first) lines x.1 x.2 x.6 line envelope later reads))
    (in_cases l lines line c)))
    (λ x. ⊎_elim (λ same. absurd (x.0 envelope (subst (λ t. EnvelopeOf t envelope) (sym same) reads)))
    (λ later. read_of (suc first) lines envelopes places x.1 line envelope later reads)
    (in_cases l lines line c)) are

-- ---- how many signatures lines have
line_has : (line : List ℕ) (envelope : Envelope) → EnvelopeOf line envelope → (n : ℕ)
    → CostsIfFound (EnvelopeOf line) HasSignatures n → n ≡ length envelope.signatures
line_has line envelope reads n =
    ⊎_elim (λ x. x.2 ∙ ap (λ (e : Envelope). length e.signatures)
    (envelope_same line x.0 envelope x.1 reads)) (λ x. absurd (x.0 envelope reads))

line_lacks : (line : List ℕ) → ((envelope : Envelope) → ¬ EnvelopeOf line envelope) → (n : ℕ)
    → CostsIfFound (EnvelopeOf line) HasSignatures n → n ≡ 0
line_lacks line none n = ⊎_elim (λ x. absurd (none x.0 x.1)) (λ x. x.1)

pub lines_have : (first : ℕ) (lines : List (List ℕ)) (envelopes : List Envelope) (places : List ℕ)
    → AreReadFrom first lines envelopes places
    → (n : ℕ) → IsSum (λ line. CostsIfFound (EnvelopeOf line) HasSignatures) lines n
    → n ≡ signature_count envelopes
lines_have first [] envelopes places are n h = h ∙ sym (ap signature_count are.0)
lines_have first (line ∷ lines) envelopes places are n h =
    let total = h.4 in
    ⊎_elim (
    λ x.
    let head = line_has line x.0 x.3 h.0 h.2 in
    let later = lines_have (suc first) lines x.1 x.2 x.6 h.1 h.3 in
    let count : signature_count (x.0 ∷ x.1) ≡ length x.0.signatures + signature_count x.1 =
    sum_by-cons (λ (e : Envelope). length e.signatures) x.0 x.1 in
    let all : n ≡ signature_count (x.0 ∷ x.1) = omega arith in
    all ∙ sym (ap signature_count x.4)
    ) (
    λ x.
    let head = line_lacks line x.0 h.0 h.2 in
    let later = lines_have (suc first) lines envelopes places x.1 h.1 h.3 in
    omega arith
    ) are
