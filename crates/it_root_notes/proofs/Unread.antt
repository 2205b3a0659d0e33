-- Bytes that are not read as certificates.
use Rattle.std.proofs.Common.{◌≡◌, ◌<◌, ℕ, zero, suc, List, [], ◌∷◌, arith, get_or, length, subst}
use Rattle.std.proofs.Common.{take}
use Rattle.std.specs.List.{AllZip}
use Rattle.it_certificate.proofs.Short.{no_certificate}
use Rattle.it_certificate.specs.Certificate.{CertificateOf, Facts}
use Rattle.it_certificate.specs.CertificateMissed.{BytesMiss}
use Rattle.it_certificate.specs.declared.shortfall.CertificateShortfall.{CertificateShortfall}
use Rattle.it_root_notes.specs.AuthorityMisses.{IsRead, IsUnread}
use Rattle.it_root_notes.specs.Missing.{MissesFrom}

-- what is not read is none
pub not_read : (number : ℕ) (bytes : List ℕ) (reason : CertificateShortfall)
    → IsUnread reason number bytes → ¬ IsRead number bytes
not_read number bytes reason miss = λ read. no_certificate bytes reason miss read.0 read.1

-- where each is read, none misses it
pub none_unread : (reason : CertificateShortfall) (number : ℕ) (listed : List (List ℕ))
    (facts : List Facts) (n : ℕ) → AllZip CertificateOf listed facts
    → ¬ MissesFrom IsRead (IsUnread reason) number listed n
none_unread reason number [] facts n all = λ misses. misses
none_unread reason number (bytes ∷ listed) [] n all = absurd all
none_unread reason number (bytes ∷ listed) (f ∷ facts) zero all = λ misses.
    no_certificate bytes reason misses f all.0
none_unread reason number (bytes ∷ listed) (f ∷ facts) (suc n) all = λ misses.
    none_unread reason (suc number) listed facts n all.1 misses.1

-- those before a place are read, and what is there is not
pub one_unread : (reason : CertificateShortfall) (number i : ℕ) (listed : List (List ℕ))
    (facts : List Facts) (bytes : List ℕ) → i < length listed → bytes ≡ get_or listed i bytes
    → AllZip CertificateOf (take i listed) facts → BytesMiss bytes reason
    → MissesFrom IsRead (IsUnread reason) number listed i
one_unread reason number i [] facts bytes below is all miss = absurd (omega arith)
one_unread reason number zero (here ∷ listed) facts bytes below is all miss =
    subst (λ (b : List ℕ). BytesMiss b reason) is miss
one_unread reason number (suc i) (here ∷ listed) [] bytes below is all miss = absurd all
one_unread reason number (suc i) (here ∷ listed) (f ∷ facts) bytes below is all miss = (
  (f, all.0),
  one_unread reason (suc number) i listed facts bytes (omega arith) is all.1 miss,
)
