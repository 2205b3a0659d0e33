-- Which condition a certificate misses that may not issue others: the first that it does not meet,
-- in the order of `MayIssue`.
use Rattle.std.specs.Prelude.{ℕ}
use Rattle.it_certificate.specs.Authority.{IsAuthorityOver, IsOfAuthority, MayBeForCode}
use Rattle.it_certificate.specs.Authority.{SignsCertificates}
use Rattle.it_certificate.specs.Certificate.{Facts}
use Rattle.it_certificate.specs.declared.issuing.IssuingShortfall.{IssuingShortfall}
use Rattle.it_certificate.specs.declared.issuing.IssuingShortfall.TheVariants as shortfalls

-- a certificate with so many of the authority before it misses this condition, and none before
abbrev pub IssuingMisses : ℕ → Facts → IssuingShortfall → Type 0
IssuingMisses place f shortfalls.Authority = ¬ IsOfAuthority f.known.constraints
IssuingMisses place f shortfalls.Length =
    IsOfAuthority f.known.constraints × ¬ IsAuthorityOver place f.known.constraints
IssuingMisses place f shortfalls.Usage =
    IsAuthorityOver place f.known.constraints × ¬ SignsCertificates f
IssuingMisses place f shortfalls.Purpose =
    IsAuthorityOver place f.known.constraints × SignsCertificates f × ¬ MayBeForCode f
