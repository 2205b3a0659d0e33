-- What is proved about these definitions.
use Rattle.std.specs.Prelude.{◌≡◌, IsTrue, List, Option}
use Rattle.std.specs.List.{AllZip, list_any}
use Rattle.it_bundle.specs.declared.bundle.SigstoreBundle.{SigstoreBundle}
use Rattle.it_identity.specs.declared.identity.Identity.{Identity}
use Rattle.it_trust_root.specs.declared.authority.Authority.{Authority}
use Rattle.it_trust_root.specs.declared.root.TrustedRoot.{TrustedRoot}
use Rattle.it_vouches.specs.Vouches.{Vouches}
use Rattle.it_root_notes.specs.AuthorityMisses.{AuthorityMisses, IsAuthorityShortfall}
use Rattle.it_root_notes.specs.AuthorityText.{is_usable}
use Rattle.it_root_notes.specs.LogText.{is_used}
use Rattle.it_root_notes.specs.declared.shortfall.AuthorityShortfall.{AuthorityShortfall}

-- where a bundle vouches for an identity, one of the logs of each list is used
abbrev pub VouchesByUsedLogs : Type 0
VouchesByUsedLogs = (root : TrustedRoot) (bundle : SigstoreBundle) (identity : Identity)
    → Vouches root bundle identity
    → IsTrue (list_any is_used root.logs) × IsTrue (list_any is_used root.certificate_logs)

-- and one of the authorities, whatever each of them misses
abbrev pub VouchesByUsedAuthority : Type 0
VouchesByUsedAuthority = (root : TrustedRoot) (bundle : SigstoreBundle) (identity : Identity)
    (shortfalls : List (Option AuthorityShortfall))
    → AllZip IsAuthorityShortfall root.authorities shortfalls → Vouches root bundle identity
    → IsTrue (list_any is_usable shortfalls)

-- an authority misses at most one condition
abbrev pub MissesOnce : Type 0
MissesOnce = (authority : Authority) (one other : AuthorityShortfall)
    → AuthorityMisses authority one → AuthorityMisses authority other → one ≡ other
