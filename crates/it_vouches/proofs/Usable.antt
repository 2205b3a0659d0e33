-- The authorities that can be used, as they are read one after another.
use Rattle.std.proofs.Common.{◌≡◌, List, get_or, All, map, Option, Some, None, MatchOption}
use Rattle.std.specs.List.{Contains}
use Rattle.std.proofs.lemmas.List.Elements.{Contains-get_or}
use Rattle.it_certificate.specs.Certificate.{Facts, facts_of}
use Rattle.it_certificate_log.specs.Bare.{WasRead}
use Rattle.it_issued.specs.Issued.{IsUsable}
use Rattle.it_issued.specs.declared.authority.UsableAuthority.{UsableAuthority}
use Rattle.it_trust_root.specs.declared.authority.Authority.{Authority}
use Rattle.it_vouches.specs.inside.Usable.{AreUsable, CannotBeUsed, IsRead}
use Rattle.it_vouches.proofs.Found.{IsAmong, IsOf, found_of, of_found}

-- what reading an authority says
abbrev pub Reads : Authority → Option UsableAuthority → Type 0
Reads a found = MatchOption found (CannotBeUsed a)
    (λ u. IsUsable a (map facts_of u.certificates.items) × All WasRead u.certificates.items × (u.window ≡ a.window))

pub read_is : (a : Authority) (found : Option UsableAuthority) → Reads a found → MatchOption found (CannotBeUsed a) (λ u. IsRead a u)
read_is a None reads = reads
read_is a (Some u) reads = record { certificates = reads.0; read = reads.1; window = reads.2 }

pub read_of : (listed : List Authority) (us : List UsableAuthority) (u : UsableAuthority) → AreUsable listed us → Contains us u
    → IsOf IsRead listed u
read_of listed us u are c = found_of CannotBeUsed IsRead listed us u are c

pub of_read : (listed : List Authority) (us : List UsableAuthority) (a : Authority) (certificates : List Facts) → AreUsable listed us
    → Contains listed a → IsUsable a certificates → IsAmong IsRead a us
of_read listed us a certificates are c is = of_found CannotBeUsed IsRead listed us a are c (λ none. none certificates is)

-- the certificates of each were read
pub all_read : (listed : List Authority) (us : List UsableAuthority) → AreUsable listed us
    → All (λ (u : UsableAuthority). All WasRead u.certificates.items) us
all_read listed us are k d below = (read_of listed us (get_or us k d) are (Contains-get_or us k d below)).is.read
