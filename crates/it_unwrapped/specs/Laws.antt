-- What is proved about these definitions.
use Rattle.std.specs.Prelude.{◌≡◌, ◌↔◌, ◌⊎◌, ℕ, List, All}
use Rattle.it_dsse.specs.Envelope.{EnvelopeOf}
use Rattle.it_dsse.specs.declared.envelope.Envelope.{Envelope}
use Rattle.it_unwrapped.specs.Lines.{AreUnwrapped, IsBundleWith, IsNoBundle, IsUnwrapped}

-- what replaces a line reads as the envelope that the line is, or that the line has as a bundle,
-- and as no other
abbrev pub UnwrappedReadsTheSame : Type 0
UnwrappedReadsTheSame = (line out : List ℕ) → IsUnwrapped line out → (envelope : Envelope)
    → EnvelopeOf out envelope ↔ (EnvelopeOf line envelope ⊎ IsBundleWith line envelope)

-- lines of which none is a bundle stay as they were
abbrev pub NoBundleNoChange : Type 0
NoBundleNoChange = (lines out : List (List ℕ)) → AreUnwrapped lines out → All IsNoBundle lines
    → out ≡ lines
