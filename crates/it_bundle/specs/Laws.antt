-- What is proved about these definitions.
use Rattle.std.specs.Prelude.{◌≡◌, ℕ, List}
use Rattle.it_bundle.specs.Bundle.{BundleOf}
use Rattle.it_bundle.specs.declared.bundle.SigstoreBundle.{SigstoreBundle}

-- bytes can be read as at most one bundle
abbrev pub OneBundle : Type 0
OneBundle = (bytes : List ℕ) (x y : SigstoreBundle) → BundleOf bytes x → BundleOf bytes y → x ≡ y
