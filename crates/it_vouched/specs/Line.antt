-- Lines of provenance that vouch.
use Rattle.std.specs.Prelude.{◌≡◌, ℕ, List, [], ◌∷◌, map}
use Rattle.it_bundle.specs.Bundle.{BundleOf}
use Rattle.it_bundle.specs.declared.bundle.SigstoreBundle.{SigstoreBundle}
use Rattle.it_dsse.specs.Signed.{message_of}
use Rattle.it_identity.specs.declared.identity.Identity.{Identity}
use Rattle.it_trust_root.specs.declared.root.TrustedRoot.{TrustedRoot}
use Rattle.it_vouches.specs.Found.{AreFound}
use Rattle.it_vouches.specs.Vouches.{Vouches, VouchesAt}
use Rattle.it_vouched.specs.declared.vouched.Vouched.{Vouched}

-- a line is a bundle, which vouches for the identity, and whose envelope has this message and this
-- one signature
pub record LineVouches (root : TrustedRoot) (line : List ℕ) (identity : Identity)
    (message signature : List ℕ) : Type 0 where
  pub bundle : SigstoreBundle
  pub bundle_is : BundleOf line bundle
  pub vouches : Vouches root bundle identity
  pub message_is : message ≡ message_of bundle.envelope
  pub one_signature : map (λ s. s.sig) bundle.envelope.signatures ≡ signature ∷ []

-- what a line vouches for: the same, by an entry of this time
pub record IsVouched (root : TrustedRoot) (line : List ℕ) (v : Vouched) : Type 0 where
  pub line_vouches : LineVouches root line v.identity v.message v.signature
  pub by_entry : VouchesAt root line_vouches.bundle v.identity v.time

abbrev pub VouchesForNone : TrustedRoot → List ℕ → Type 0
VouchesForNone root line = (v : Vouched) → ¬ IsVouched root line v

-- what the lines vouch for, in their order
abbrev pub AreVouched : TrustedRoot → List (List ℕ) → List Vouched → Type 0
AreVouched root = AreFound (VouchesForNone root) (IsVouched root)
