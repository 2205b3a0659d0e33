-- Lines of provenance in which bundles are replaced by their envelopes (this profile's choice).
use Rattle.std.specs.Prelude.{◌≡◌, ◌⊎◌, ℕ, List}
use Rattle.std.specs.List.{AllZip}
use Rattle.it_bundle.specs.Bundle.{BundleOf}
use Rattle.it_bundle.specs.declared.bundle.SigstoreBundle.{SigstoreBundle}
use Rattle.it_dsse.specs.Envelope.{EnvelopeOf}
use Rattle.it_dsse.specs.Written.{written_form}
use Rattle.it_dsse.specs.declared.envelope.Envelope.{Envelope}

-- a line is a bundle with this envelope
pub record IsBundleWith (line : List ℕ) (envelope : Envelope) : Type 0 where
  pub bundle : SigstoreBundle
  pub bundle_is : BundleOf line bundle
  pub envelope_is : bundle.envelope ≡ envelope

-- a line is no bundle
abbrev pub IsNoBundle : List ℕ → Type 0
IsNoBundle line = (bundle : SigstoreBundle) → ¬ BundleOf line bundle

-- a line is a bundle, and the other is the written form of its envelope, which reads as this
-- envelope
pub record IsFromBundle (line out : List ℕ) : Type 0 where
  pub envelope : Envelope
  pub bundle_is : IsBundleWith line envelope
  pub out_is : out ≡ written_form envelope
  pub reads_back : EnvelopeOf out envelope

-- what replaces a line: its envelope where it is a bundle, and itself where it is none
abbrev pub IsUnwrapped : List ℕ → List ℕ → Type 0
IsUnwrapped line out = IsFromBundle line out ⊎ (IsNoBundle line × (out ≡ line))

-- each line is replaced so by the line at its place
abbrev pub AreUnwrapped : List (List ℕ) → List (List ℕ) → Type 0
AreUnwrapped = AllZip IsUnwrapped
