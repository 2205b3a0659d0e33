-- What is proved about these definitions.
use Rattle.std.specs.Prelude.{◌≡◌}
use Rattle.it_bundle.specs.declared.bundle.SigstoreBundle.{SigstoreBundle}
use Rattle.it_identity.specs.declared.identity.Identity.{Identity}
use Rattle.it_trust_root.specs.declared.root.TrustedRoot.{TrustedRoot}
use Rattle.it_vouches.specs.Vouches.{Vouches}

-- a bundle vouches for at most one identity
abbrev pub VouchesOnce : Type 0
VouchesOnce = (root : TrustedRoot) (bundle : SigstoreBundle) (x y : Identity)
    → Vouches root bundle x → Vouches root bundle y → x ≡ y
