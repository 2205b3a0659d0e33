-- The envelope of a file (this profile's choice).
use Rattle.std.specs.Prelude.{◌≡◌, ◌⊎◌, ℕ, List}
use Rattle.it_bundle.specs.Bundle.{BundleOf}
use Rattle.it_bundle.specs.declared.bundle.SigstoreBundle.{SigstoreBundle}
use Rattle.it_dsse.specs.Envelope.{EnvelopeOf}
use Rattle.it_dsse.specs.declared.envelope.Envelope.{Envelope}

-- the bytes are this envelope, or a bundle that holds it
abbrev pub HasEnvelope : List ℕ → Envelope → Type 0
HasEnvelope bytes envelope =
    EnvelopeOf bytes envelope
    ⊎ ((bundle : SigstoreBundle) × BundleOf bytes bundle × (bundle.envelope ≡ envelope))
