-- Whom a bundle vouches for, or why for nobody.
use Rattle.it_bundle.specs.declared.bundle.SigstoreBundle.{SigstoreBundle}
use Rattle.it_identity.specs.declared.identity.Identity.{Identity}
use Rattle.it_trust_root.specs.declared.root.TrustedRoot.{TrustedRoot}
use Rattle.it_vouches.specs.Misses.{Misses}
use Rattle.it_vouches.specs.Vouches.{Vouches, VouchesAt}
use Rattle.it_vouches.specs.declared.judgement.Judged.{Judged}
use Rattle.it_vouches.specs.declared.judgement.Judged.TheVariants.{For, Misses as ForNobody}

-- a bundle vouches for no identity
abbrev pub VouchesForNobody : TrustedRoot → SigstoreBundle → Type 0
VouchesForNobody root bundle = (identity : Identity) → ¬ Vouches root bundle identity

-- what a bundle is judged to be, by a trusted root
abbrev pub IsJudged : TrustedRoot → SigstoreBundle → Judged → Type 0
IsJudged root bundle (For voucher) = VouchesAt root bundle voucher.identity voucher.time
IsJudged root bundle (ForNobody shortfall) =
    VouchesForNobody root bundle × Misses root bundle shortfall
