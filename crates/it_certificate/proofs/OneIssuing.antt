-- Conditions that a certificate misses to issue others.
use Rattle.std.proofs.Common.{◌≡◌, ℕ, Option, Some, None, refl}
use Rattle.it_certificate.specs.Authority.{IsAuthorityOver, IsOfAuthority, MayIssue}
use Rattle.it_certificate.specs.Certificate.{Facts}
use Rattle.it_certificate.specs.IssuingMisses.{IssuingMisses}
use Rattle.it_certificate.specs.declared.constraints.Constraints.{Constraints}
use Rattle.it_certificate.specs.declared.constraints.Constraints.TheVariants.{NoAuthority}
use Rattle.it_certificate.specs.declared.constraints.Constraints.TheVariants.{Authority}
use Rattle.it_certificate.specs.declared.issuing.IssuingShortfall.{IssuingShortfall}
use Rattle.it_certificate.specs.declared.issuing.IssuingShortfall.TheVariants as shortfalls

-- constraints over so many are an authority's
pub over_some : (place : ℕ) (c : Option Constraints) → IsAuthorityOver place c → IsOfAuthority c
over_some place None over = over
over_some place (Some NoAuthority) over = over
over_some place (Some (Authority length)) over = tt

-- a certificate that misses a condition may not issue others
pub not_issuing : (place : ℕ) (f : Facts) (missed : IssuingShortfall)
    → IssuingMisses place f missed → ¬ MayIssue place f
not_issuing place f shortfalls.Authority m = λ may.
    m (over_some place f.known.constraints may.authority)
not_issuing place f shortfalls.Length m = λ may. m.1 may.authority
not_issuing place f shortfalls.Usage m = λ may. m.1 may.signs
not_issuing place f shortfalls.Purpose m = λ may. m.2 may.for_code

-- it misses at most one
pub one_issuing_shortfall : (place : ℕ) (f : Facts) (one other : IssuingShortfall)
    → IssuingMisses place f one → IssuingMisses place f other → one ≡ other
one_issuing_shortfall place f shortfalls.Authority shortfalls.Authority m n = refl
one_issuing_shortfall place f shortfalls.Authority shortfalls.Length m n = absurd (m n.0)
one_issuing_shortfall place f shortfalls.Authority shortfalls.Usage m n =
    absurd (m (over_some place f.known.constraints n.0))
one_issuing_shortfall place f shortfalls.Authority shortfalls.Purpose m n =
    absurd (m (over_some place f.known.constraints n.0))
one_issuing_shortfall place f shortfalls.Length shortfalls.Authority m n = absurd (n m.0)
one_issuing_shortfall place f shortfalls.Length shortfalls.Length m n = refl
one_issuing_shortfall place f shortfalls.Length shortfalls.Usage m n = absurd (m.1 n.0)
one_issuing_shortfall place f shortfalls.Length shortfalls.Purpose m n = absurd (m.1 n.0)
one_issuing_shortfall place f shortfalls.Usage shortfalls.Authority m n =
    absurd (n (over_some place f.known.constraints m.0))
one_issuing_shortfall place f shortfalls.Usage shortfalls.Length m n = absurd (n.1 m.0)
one_issuing_shortfall place f shortfalls.Usage shortfalls.Usage m n = refl
one_issuing_shortfall place f shortfalls.Usage shortfalls.Purpose m n = absurd (m.1 n.1)
one_issuing_shortfall place f shortfalls.Purpose shortfalls.Authority m n =
    absurd (n (over_some place f.known.constraints m.0))
one_issuing_shortfall place f shortfalls.Purpose shortfalls.Length m n = absurd (n.1 m.0)
one_issuing_shortfall place f shortfalls.Purpose shortfalls.Usage m n = absurd (n.1 m.1)
one_issuing_shortfall place f shortfalls.Purpose shortfalls.Purpose m n = refl
