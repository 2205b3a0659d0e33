-- What was judged of bundles. Nothing here is trusted.
use Rattle.std.specs.Prelude.{◌≡◌, ◌⊎◌, ℕ, List, Option, Some, MatchOption}
use Rattle.std.specs.BTreeMap.{get_by}
use Rattle.std.specs.Cmp.Lexicographic.{slice_cmp}
use Rattle.std.specs.Ordering.{nat_cmp}
use Rattle.it_base.specs.Finds.{Finds}
use Rattle.it_trust_root.specs.declared.root.TrustedRoot.{TrustedRoot}
use Rattle.it_vouched.specs.Line.{IsVouched}
use Rattle.it_vouched.specs.Silent.{LineMisses, MissesNothing}
use Rattle.it_vouched.specs.declared.known_lines.KnownLines.{KnownLines}
use Rattle.it_vouched.specs.declared.vouched.LineJudged.{LineJudged}

-- what was judged of a line, where it is known
abbrev pub judged_at : KnownLines → List ℕ → Option LineJudged
judged_at known line = get_by (λ key. slice_cmp nat_cmp line key.now) known.by_line

-- this is what a line vouches for, or the condition that it misses
pub record IsJudged (root : TrustedRoot) (line : List ℕ) (judged : LineJudged) : Type 0 where
  pub vouched : Finds (IsVouched root line) judged.vouched
  pub misses : MatchOption judged.shortfall (MissesNothing root line) (LineMisses root line)

-- what is known was judged by this root
abbrev pub AreRight : TrustedRoot → KnownLines → Type 0
AreRight root known =
    (line : List ℕ) (judged : LineJudged) → judged_at known line ≡ Some judged
    → IsJudged root line judged

-- what is known was known before, or is this of this line
abbrev pub IsKept : KnownLines → KnownLines → List ℕ → LineJudged → Type 0
IsKept old new line judged = (other : List ℕ) (found : LineJudged)
    → judged_at new other ≡ Some found
    → (judged_at old other ≡ Some found) ⊎ ((line ≡ other) × (found ≡ judged))
