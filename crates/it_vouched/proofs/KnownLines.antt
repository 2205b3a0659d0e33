-- What was judged of bundles.
use Rattle.std.proofs.Common.{◌≡◌, ◌∙◌, ◌⊎◌, ℕ, List, Bool, true, false, cond, None, Some, bytes_eq, inl, inr, refl, sym, subst}
use Rattle.std.proofs.Common.{Result, Ok, Err, IfOk}
use Rattle.std.specs.Map.{update}
use Rattle.std.specs.declared.alloc.AllocError.{AllocError}
use Rattle.std.proofs.lemmas.Option.{same_Some}
use Rattle.std.proofs.lemmas.Slice.Eq.{bytes_eq-Decides}
use Rattle.it_base.specs.Finds.{Finds}
use Rattle.it_trust_root.specs.declared.root.TrustedRoot.{TrustedRoot}
use Rattle.it_vouched.specs.Line.{IsVouched}
use Rattle.it_vouched.specs.declared.known_lines.KnownLines.{KnownLines}
use Rattle.it_vouched.specs.declared.vouched.LineJudged.{LineJudged}
use Rattle.it_vouched.specs.inside.KnownLines.{AreRight, IsJudged, IsKept, judged_at}

module _ (root : TrustedRoot) where
  -- nothing is known yet
  pub none_known : (known : KnownLines) → ((line : List ℕ) → judged_at known line ≡ None)
      → AreRight root known
  none_known known none line judged at = let nothing : judged_at known line ≡ None = none line in cc

  -- a copy of what is known of a line
  pub known_vouched : (known : KnownLines) → AreRight root known → (line : List ℕ) (judged : LineJudged)
      → judged_at known line ≡ Some judged → (copy : Result LineJudged AllocError)
      → IfOk copy (λ c. c ≡ judged) → IfOk copy (λ c. Finds (IsVouched root line) c.vouched)
  known_vouched known right line judged at (Ok c) is =
      subst (λ j. Finds (IsVouched root line) j.vouched) (sym is) (right line judged at).vouched
  known_vouched known right line judged at (Err e) is = tt

  -- one line more is known
  pub still_right : (old new : KnownLines) (line : List ℕ) (judged : LineJudged) → AreRight root old
      → IsJudged root line judged → IsKept old new line judged → AreRight root new
  still_right old new line judged right is kept other found at = elim (kept other found at) [
    | inl before ↦ right other found before
    | inr here ↦ subst (λ l. IsJudged root l found) here.0
        (subst (IsJudged root line) (sym here.1) is)
  ]

-- ---- a line is kept
module _ (old new : KnownLines) (line : List ℕ) (judged : LineJudged) where
  here_or_before : (other : List ℕ) (found : LineJudged) (same : Bool) → bytes_eq line other ≡ same
      → cond same (Some judged) (judged_at old other) ≡ Some found
      → (judged_at old other ≡ Some found) ⊎ ((line ≡ other) × (found ≡ judged))
  here_or_before other found true at h =
      inr ((bytes_eq-Decides line other).0 at, sym (same_Some judged found h))
  here_or_before other found false at h = inl h

  pub kept_with : ((other : List ℕ)
      → judged_at new other ≡ update bytes_eq (judged_at old) line (Some judged) other)
      → IsKept old new line judged
  kept_with updates other found at =
      here_or_before other found (bytes_eq line other) refl (sym (updates other) ∙ at)
