-- Two digest lists together.
use Rattle.std.proofs.Common.{◌≡◌, ℕ, List, Option, Some, None, Bool, true, false, cond, refl, sym}
use Rattle.std.proofs.Common.{ap, ◌∙◌, subst}
use Rattle.std.specs.Ordering.{eq_by_cmp}
use Rattle.std.specs.FinMap.{get, get-empty, get-insert, insert, empty}
use Rattle.std.specs.FinMap.{nat_cmp-IsAntisymmetric, same_map, slice_cmp-IsAntisymmetric}
use Rattle.std.proofs.lemmas.Cmp.{nat_list_cmp_total}
use Rattle.it_digest.specs.declared.compare.DigestSet.{DigestSet}
use Rattle.it_digest.specs.declared.listed.BadLine.{BadLine}
use Rattle.it_digest.specs.declared.listed.BadLine.TheVariants.{InSha256, InSha512}
use Rattle.it_digest.specs.declared.listed.ListsFault.{ListsFault}
use Rattle.it_digest.specs.declared.listed.ListsFault.TheVariants.{Bad, OutOfMemory}
use Rattle.it_digest.specs.Artifacts.{ArtifactMap}
use Rattle.it_digest.specs.DigestSet.{in_sha256, in_sha512}
use Rattle.it_digest.specs.Listed.{AreListed, AreTogether, IsFirstBadIn, NamesLine, listed_digests}
use Rattle.it_digest.specs.Sums.{IsFirstBadLine, SumsOf}
use Rattle.it_digest.proofs.ArtifactsLemmas.{path_cmp}
use Rattle.it_digest.proofs.SumsLemmas.{IsFirstBadLine-none, SumsOf_same, bad_line_one, same_path}

-- ---- the digests of one path

pub listed_none : (known : Option DigestSet) → listed_digests known None ≡ known
listed_none None = refl
listed_none (Some digests) = refl

-- what is added to the digests that a path has
abbrev pub with_listed_digests : Option DigestSet → DigestSet → DigestSet
with_listed_digests None listed = listed
with_listed_digests (Some digests) listed = record digests { sha512 = listed.sha512 }

pub listed_some : (known : Option DigestSet) (listed : DigestSet) → listed_digests known (Some listed)
    ≡ Some (with_listed_digests known listed)
listed_some None listed = refl
listed_some (Some digests) listed = refl

-- ---- one more path

pub together_none : (files : ArtifactMap) → AreTogether files empty files
together_none files path = rw get-empty (sym (listed_none (get files path)))

-- a path that was not listed yet, with its digests
pub together_more : (files listed together new : ArtifactMap) (path : List ℕ) (digests : DigestSet)
    → AreTogether files listed together → get listed path ≡ None
    → new ≡ insert together path (with_listed_digests (get together path) digests)
    → AreTogether files (insert listed path digests) new
together_more files listed together new path digests so_far is_new put q =
    ap (λ m. get m q) put
    ∙ get-insert nat_list_cmp_total together path
    (with_listed_digests (get together path) digests) q
    ∙ go (eq_by_cmp path_cmp q path) refl
    ∙ ap (listed_digests (get files q))
    (sym (get-insert nat_list_cmp_total listed path digests q))
  where
    known : get together path ≡ get files path
    known = so_far path ∙ ap (listed_digests (get files path)) is_new
        ∙ listed_none (get files path)

    go : (b : Bool) → eq_by_cmp path_cmp q path ≡ b
        → cond b (Some (with_listed_digests (get together path) digests)) (get together q)
        ≡ listed_digests (get files q) (cond b (Some digests) (get listed q))
    go true e = ap (λ k. Some (with_listed_digests k digests)) known
        ∙ sym (listed_some (get files path) digests)
        ∙ ap (λ p. listed_digests (get files p) (Some digests)) (sym (same_path q path e))
    go false e = so_far q

-- ---- what two lists describe

pub second_fault : (sums sums512 : List ℕ) (files : ArtifactMap) (fault : ListsFault)
    → SumsOf in_sha256 sums files → NamesLine (λ bad. (line : ℕ)
    × IsFirstBadLine in_sha512 sums512 line × (bad ≡ InSha512 line)) fault
    → NamesLine (IsFirstBadIn sums sums512) fault
second_fault sums sums512 files (Bad line) first named =
    subst (IsFirstBadIn sums sums512) (sym named.2) ((files, first), named.1)
second_fault sums sums512 files OutOfMemory first named = tt

pub AreListed_same : (sums sums512 : List ℕ) (files other : ArtifactMap)
    → AreListed sums sums512 files → AreListed sums sums512 other → other ≡ files
AreListed_same sums sums512 files other h k =
    let first = SumsOf_same in_sha256 sums h.by_sha256 k.by_sha256 h.first k.first in
    let second = SumsOf_same in_sha512 sums512 h.by_sha512 k.by_sha512 h.second k.second in
    same_map nat_list_cmp_total (slice_cmp-IsAntisymmetric nat_cmp-IsAntisymmetric) other files
    (λ q. k.are_both q ∙ (λ i. listed_digests (get (first i) q) (get (second i) q))
    ∙ sym (h.are_both q))

pub IsFirstBadIn-none : (sums sums512 : List ℕ) (line : BadLine) → IsFirstBadIn sums sums512 line
    → (files : ArtifactMap) → ¬ AreListed sums sums512 files
IsFirstBadIn-none sums sums512 (InSha256 line) bad files h =
    IsFirstBadLine-none in_sha256 sums line bad h.by_sha256 h.first
IsFirstBadIn-none sums sums512 (InSha512 line) bad files h =
    IsFirstBadLine-none in_sha512 sums512 line bad.1 h.by_sha512 h.second

pub one_bad_line : (sums sums512 : List ℕ) (a b : BadLine) → IsFirstBadIn sums sums512 a
    → IsFirstBadIn sums sums512 b → a ≡ b
one_bad_line sums sums512 (InSha256 a) (InSha256 b) h k =
    ap InSha256 (bad_line_one in_sha256 sums a b h k)
one_bad_line sums sums512 (InSha256 a) (InSha512 b) h k =
    absurd (IsFirstBadLine-none in_sha256 sums a h k.0.0 k.0.1)
one_bad_line sums sums512 (InSha512 a) (InSha256 b) h k =
    absurd (IsFirstBadLine-none in_sha256 sums b k h.0.0 h.0.1)
one_bad_line sums sums512 (InSha512 a) (InSha512 b) h k =
    ap InSha512 (bad_line_one in_sha512 sums512 a b h.1 k.1)
