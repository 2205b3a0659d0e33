-- The lines of a provenance that are envelopes (DSSE v1.0; one envelope per line is this profile's
-- choice).
use Rattle.std.specs.Prelude.{◌≡◌, ◌⊎◌, ℕ, suc, List, [], ◌∷◌}
use Rattle.it_digest.specs.Sums.{lines_of}
use Rattle.it_dsse.specs.Envelope.{EnvelopeOf}
use Rattle.it_dsse.specs.declared.envelope.Envelope.{Envelope}
use Rattle.it_prov.specs.declared.provenance_lines.ProvenanceLines.{ProvenanceLines}

-- the envelopes that lines are, in their order, with the places of these lines, where the first
-- line has a given place; a line that is none is skipped
abbrev pub AreReadFrom : ℕ → List (List ℕ) → List Envelope → List ℕ → Type 0
AreReadFrom first [] envelopes places = (envelopes ≡ []) × (places ≡ [])
AreReadFrom first (line ∷ lines) envelopes places =
    ((envelope : Envelope) × (others : List Envelope) × (later : List ℕ) × EnvelopeOf line envelope
    × (envelopes ≡ envelope ∷ others) × (places ≡ first ∷ later)
    × AreReadFrom (suc first) lines others later)
    ⊎ (((envelope : Envelope) → ¬ EnvelopeOf line envelope)
    × AreReadFrom (suc first) lines envelopes places)

-- the envelopes among the lines of a provenance, with the places of their lines from 1
abbrev pub AreLinesOf : List ℕ → ProvenanceLines → Type 0
AreLinesOf provenance lines =
    AreReadFrom 1 (lines_of provenance) lines.envelopes.items lines.places.items
