-- Lines of provenance that are bundles and vouch for nobody.
use Rattle.std.specs.Prelude.{◌≡◌, ℕ, ◌+◌, List, [], ◌∷◌}
use Rattle.it_bundle.specs.Bundle.{BundleOf}
use Rattle.it_bundle.specs.declared.bundle.SigstoreBundle.{SigstoreBundle}
use Rattle.it_trust_root.specs.declared.root.TrustedRoot.{TrustedRoot}
use Rattle.it_vouches.specs.Found.{AreFound}
use Rattle.it_vouches.specs.Judged.{VouchesForNobody}
use Rattle.it_vouches.specs.Misses.{Misses}
use Rattle.it_vouches.specs.declared.shortfall.Shortfall.{Shortfall}
use Rattle.it_vouched.specs.declared.silent_line.SilentLine.{SilentLine}

-- a line is a bundle that vouches for nobody, and this is the first condition that it misses
pub record LineMisses (root : TrustedRoot) (line : List ℕ) (shortfall : Shortfall) : Type 0 where
  pub bundle : SigstoreBundle
  pub bundle_is : BundleOf line bundle
  pub for_nobody : VouchesForNobody root bundle
  pub misses : Misses root bundle shortfall

-- a line is no bundle that vouches for nobody
abbrev pub MissesNothing : TrustedRoot → List ℕ → Type 0
MissesNothing root line = (bundle : SigstoreBundle) → BundleOf line bundle
    → ¬ VouchesForNobody root bundle

-- a line with its number
pub record Numbered : Type 0 where
  pub number : ℕ
  pub line : List ℕ

-- the lines with their numbers, which count on from this one
abbrev pub numbered_from : ℕ → List (List ℕ) → List Numbered
numbered_from number [] = []
numbered_from number (line ∷ lines) =
    record { number = number; line = line } ∷ numbered_from (number + 1) lines

-- this is a line, of this number, that is a bundle and vouches for nobody
pub record IsSilent (root : TrustedRoot) (here : Numbered) (silent : SilentLine) : Type 0 where
  pub number_is : silent.line ≡ here.number
  pub misses : LineMisses root here.line silent.shortfall

-- the lines that are bundles and vouch for nobody, in their order, with their numbers, which count
-- from 1
abbrev pub AreSilent : TrustedRoot → List (List ℕ) → List SilentLine → Type 0
AreSilent root lines =
    AreFound (λ here. MissesNothing root here.line) (IsSilent root) (numbered_from 1 lines)
