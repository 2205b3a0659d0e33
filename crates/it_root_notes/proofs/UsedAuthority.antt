-- Authorities by which a bundle vouches.
use Rattle.std.proofs.Common.{◌≡◌, ◌<◌, ℕ, zero, suc, List, [], ◌∷◌, Option, None, Some, IsTrue}
use Rattle.std.proofs.Common.{arith, get_or, length, refl, subst, sym}
use Rattle.std.specs.List.{AllZip, list_any}
use Rattle.it_certificate.specs.Certificate.{Facts}
use Rattle.it_issued.specs.Issued.{IsUsable}
use Rattle.it_trust_root.specs.declared.authority.Authority.{Authority}
use Rattle.it_root_notes.specs.AuthorityMisses.{IsAuthorityShortfall}
use Rattle.it_root_notes.specs.AuthorityText.{is_usable}
use Rattle.it_root_notes.specs.Laws.{VouchesByUsedAuthority}
use Rattle.it_root_notes.specs.declared.shortfall.AuthorityShortfall.{AuthorityShortfall}

-- where one of the authorities can be used, one of them misses nothing
module _ (authority : Authority) (certificates : List Facts)
    (usable : IsUsable authority certificates) where
  used_at : (all : List Authority) (shortfalls : List (Option AuthorityShortfall)) (k : ℕ)
      → AllZip IsAuthorityShortfall all shortfalls → k < length all
      → get_or all k authority ≡ authority → IsTrue (list_any is_usable shortfalls)
  used_at [] shortfalls k are below at = absurd (omega arith)
  used_at (first ∷ all) [] k are below at = absurd are
  used_at (first ∷ all) (None ∷ shortfalls) k are below at = refl
  used_at (first ∷ all) (Some missed ∷ shortfalls) zero are below at =
      absurd (are.0.0 (
        certificates,
        subst (λ (a : Authority). IsUsable a certificates) (sym at)
            usable,
      ))
  used_at (first ∷ all) (Some missed ∷ shortfalls) (suc k) are below at =
      used_at all shortfalls k are.1 (omega arith) at

pub vouches_by_used_authority : VouchesByUsedAuthority
vouches_by_used_authority root bundle identity shortfalls are vouches =
    let by = vouches.attested in
    used_at by.authority (by.issuer ∷ by.others) by.usable root.authorities shortfalls
    by.is_authority.0 are by.is_authority.1 by.is_authority.2
