-- Which condition is missed where an authority did not issue a leaf (RFC 5280, section 6.1).
use Rattle.std.specs.Prelude.{◌≡◌, ℕ, ◌*◌, pos, Option, List, [], ◌∷◌}
use Rattle.std.specs.List.{AllByRecursion}
use Rattle.it_certificate.specs.Authority.{IsSignedBy, IsValidAt}
use Rattle.it_certificate.specs.Certificate.{Facts}
use Rattle.it_issued.specs.Issued.{IsIssued}
use Rattle.it_issued.specs.Misses.{IsFirstMissed, IsShortfall}
use Rattle.it_issued.specs.Signature.{Signs}
use Rattle.it_issued.specs.declared.shortfall.IssueShortfall.{IssueShortfall}
use Rattle.it_issued.specs.declared.shortfall.IssueShortfall.TheVariants as shortfalls
use Rattle.it_log.specs.Window.{LiesIn}
use Rattle.it_log.specs.declared.window.Window.{Window}

-- the order of the conditions: how many come before each (this profile's choice)
abbrev pub issue_place : IssueShortfall → ℕ
issue_place shortfalls.Name = 0
issue_place shortfalls.Window = 1
issue_place shortfalls.LeafTime = 2
issue_place shortfalls.AuthorityTime = 3
issue_place shortfalls.Signature = 4

-- the certificate that issues leaves, the first, is so
abbrev pub OfIssuer : (Facts → Type 0) → List Facts → Type 0
OfIssuer Is [] = ⊥
OfIssuer Is (issuer ∷ others) = Is issuer

-- where a leaf meets the condition, by an authority with these certificates and this window, at the
-- moment, in seconds
abbrev pub MeetsIssue : List Facts → Window → Facts → ℕ → IssueShortfall → Type 0
MeetsIssue certificates window leaf moment shortfalls.Name =
    OfIssuer (λ issuer. leaf.parts.issuer ≡ issuer.parts.subject) certificates
MeetsIssue certificates window leaf moment shortfalls.Window =
    LiesIn window (pos (1_000_000_000 * moment))
MeetsIssue certificates window leaf moment shortfalls.LeafTime = IsValidAt (pos moment) leaf
MeetsIssue certificates window leaf moment shortfalls.AuthorityTime =
    AllByRecursion (IsValidAt (pos moment)) certificates
MeetsIssue certificates window leaf moment shortfalls.Signature =
    OfIssuer (IsSignedBy Signs leaf) certificates

-- the leaf misses this condition, and meets those before it
abbrev pub IssueMisses : List Facts → Window → Facts → ℕ → IssueShortfall → Type 0
IssueMisses certificates window leaf moment =
    IsFirstMissed IssueShortfall issue_place (MeetsIssue certificates window leaf moment)

-- the leaf was issued, or was not, and misses this condition
abbrev pub IsIssueShortfall : List Facts → Window → Facts → ℕ → Option IssueShortfall → Type 0
IsIssueShortfall certificates window leaf moment =
    IsShortfall (IsIssued certificates window leaf moment)
    (IssueMisses certificates window leaf moment)
