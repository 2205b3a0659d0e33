-- Which map a digest list stands for, or which line is the first bad one, as an answer.
use Rattle.std.proofs.Common.{◌≡◌, ℕ, ◌+◌, ◌≤◌, List, [], ◌∷◌, ◌++◌, length, take, drop, Bool, true}
use Rattle.std.proofs.Common.{false, ◌&&◌, ◌||◌, not, leb, leb-true, le-leb, cond, codes, Option}
use Rattle.std.proofs.Common.{Some, None, is_some, Result, Ok, MatchResult, Decides, refl}
use Rattle.std.proofs.Common.{true≢false, sym, ap, subst, ◌∙◌}
use Rattle.std.specs.FinMap.{empty, get, insert}
use Rattle.std.specs.Str.{bytes_eq, is_utf8}
use Rattle.std.proofs.lemmas.Bool.Decides.{Decides-and, Decides-like, Decides-not, Decides-or}
use Rattle.std.proofs.lemmas.Slice.Eq.{bytes_eq-Decides}
use Rattle.std.proofs.lemmas.Str.{IsUtf8-from_is_utf8, is_utf8-from_IsUtf8}
use Rattle.it_base.specs.Finds.{Finds}
use Rattle.it_base.specs.HexadecimalText.{hexadecimal_decoded}
use Rattle.it_base.proofs.Decided.{or_fault, or_fault-is}
use Rattle.it_digest.specs.Artifacts.{ArtifactMap}
use Rattle.it_digest.specs.DigestSet.{Algorithm, only}
use Rattle.it_digest.specs.declared.compare.DigestSet.{DigestSet}
use Rattle.it_digest.specs.Sums.{IsCut, IsFirstBadLine, IsMarkedPath, IsSum, SumsOf}
use Rattle.it_digest.specs.inside.SumLines.{AddsNothing, AddsSum}
use Rattle.it_digest.specs.Sums.{digit_count, lines_of}
use Rattle.it_digest.proofs.SumsLemmas.{Entry, HasRead, HasRead-all, HasRead-bad, HasRead-more}
use Rattle.it_digest.proofs.SumsLemmas.{HasRead-none, cut_read, long_enough, no_digest, no_path}
use Rattle.it_digest.proofs.SumsLemmas.{no_sum, path_of, same_sum}

-- whether a path stands behind one of the marks
abbrev is_marked : List ℕ → List ℕ → Bool
is_marked text path = (bytes_eq text (codes "  " ++ path) || bytes_eq text (codes " *" ++ path))
    && (not (bytes_eq path []) && is_utf8 path)

-- decides `IsMarkedPath`
abbrev marked_path_of : List ℕ → Option (List ℕ)
marked_path_of text = cond (is_marked text (drop 2 text)) (Some (drop 2 text)) None

abbrev sum_with : Algorithm → Option (List ℕ) → Option (List ℕ) → Option Entry
sum_with algorithm None path = None
sum_with algorithm (Some digest) None = None
sum_with algorithm (Some digest) (Some path) = Some (path, only algorithm digest)

-- decides `IsSum`
abbrev sum_of : Algorithm → List ℕ → Option Entry
sum_of algorithm line = cond (leb (digit_count algorithm) (length line)) (sum_with algorithm
    (hexadecimal_decoded (take (digit_count algorithm) line))
    (marked_path_of (drop (digit_count algorithm) line))) None

abbrev with_sum : ArtifactMap → Option Entry → Option ArtifactMap
with_sum sums None = None
with_sum sums (Some entry) = cond (is_some (get sums entry.0)) None
    (Some (insert sums entry.0 entry.1))

-- the map with what the lines give, or the number of the first line that adds nothing
abbrev sums_from : (algorithm : Algorithm) → ArtifactMap → ℕ → List (List ℕ) → Result ArtifactMap ℕ
sums_from algorithm sums number [] = Ok sums
sums_from algorithm sums number (line ∷ lines) = or_fault (with_sum sums (sum_of algorithm line))
    (number + 1)
    (λ new. sums_from algorithm new (number + 1) lines)

-- decides `SumsOf` and `IsFirstBadLine`
pub sums_of : (algorithm : Algorithm) → List ℕ → Result ArtifactMap ℕ
sums_of algorithm bytes = sums_from algorithm empty 0 (lines_of bytes)

is_marked-Decides : (text path : List ℕ) → Decides (is_marked text path) (IsMarkedPath text path)
is_marked-Decides text path =
    let two = bytes_eq text (codes "  " ++ path) in
    let star = bytes_eq text (codes " *" ++ path) in
    Decides-like (is_marked text path) (λ h. record {
      written = h.0;
      named = h.1.0;
      in_utf8 = h.1.1;
    }) (λ p. (p.written, (p.named, p.in_utf8)))
    (Decides-and (two || star) (not (bytes_eq path []) && is_utf8 path)
    (Decides-or two star (bytes_eq-Decides text (codes "  " ++ path))
    (bytes_eq-Decides text (codes " *" ++ path)))
    (Decides-and (not (bytes_eq path [])) (is_utf8 path)
    (Decides-not (bytes_eq path []) (bytes_eq-Decides path [])) (
      IsUtf8-from_is_utf8 path,
      is_utf8-from_IsUtf8 path,
    )))

marked_path-finds : (text : List ℕ) → Finds (IsMarkedPath text) (marked_path_of text)
marked_path-finds text = go (is_marked text (drop 2 text)) (is_marked-Decides text (drop 2 text))
  where
    go : (b : Bool) → Decides b (IsMarkedPath text (drop 2 text))
        → Finds (IsMarkedPath text) (cond b (Some (drop 2 text)) None)
    go true d = d.0 refl
    go false d = λ path is. true≢false
        (sym (d.1 (subst (IsMarkedPath text) (sym (path_of text path is)) is)))

front_read : (algorithm : Algorithm) (line digest : List ℕ) → digit_count algorithm ≤ length line
    → hexadecimal_decoded (take (digit_count algorithm) line) ≡ Some digest
    → IsCut algorithm line (only algorithm digest, drop (digit_count algorithm) line)
front_read algorithm line digest long digest_is =
    cut_read algorithm line (take (digit_count algorithm) line)
    (drop (digit_count algorithm) line) digest refl refl long (sym digest_is)

sum_with-finds : (algorithm : Algorithm) (line : List ℕ) (digest path : Option (List ℕ))
    → digit_count algorithm ≤ length line
    → hexadecimal_decoded (take (digit_count algorithm) line) ≡ digest
    → Finds (IsMarkedPath (drop (digit_count algorithm) line)) path
    → Finds (IsSum algorithm line) (sum_with algorithm digest path)
sum_with-finds algorithm line None path long digest_is h =
    no_sum algorithm line
    (no_digest algorithm line (take (digit_count algorithm) line) refl (sym digest_is))
sum_with-finds algorithm line (Some digest) None long digest_is h =
    no_path algorithm line (only algorithm digest, drop (digit_count algorithm) line)
    (front_read algorithm line digest long digest_is) h
sum_with-finds algorithm line (Some digest) (Some path) long digest_is h = record {
  text = drop (digit_count algorithm) line;
  cut = front_read algorithm line digest long digest_is;
  path_is = h;
}

sum_of-finds : (algorithm : Algorithm) (line : List ℕ) → Finds (IsSum algorithm line)
    (sum_of algorithm line)
sum_of-finds algorithm line = go (leb (digit_count algorithm) (length line)) (
  leb-true
      (digit_count algorithm) (length line),
  le-leb (digit_count algorithm) (length line),
)
  where
    go : (b : Bool) → Decides b (digit_count algorithm ≤ length line)
        → Finds (IsSum algorithm line)
        (cond b (sum_with algorithm (hexadecimal_decoded (take (digit_count algorithm) line))
        (marked_path_of (drop (digit_count algorithm) line)))
        None)
    go true d = sum_with-finds algorithm line (hexadecimal_decoded (take
        (digit_count algorithm) line))
        (marked_path_of (drop (digit_count algorithm) line)) (d.0 refl) refl (marked_path-finds
        (drop (digit_count algorithm) line))
    go false d = λ entry h. true≢false (sym (d.1 (long_enough algorithm line
        (entry.1, h.text) h.cut)))

with_sum-finds : (algorithm : Algorithm) (line : List ℕ) (sums : ArtifactMap) (found : Option Entry)
    → Finds (IsSum algorithm line) found → Finds (AddsSum algorithm line sums) (with_sum sums found)
with_sum-finds algorithm line sums None h = λ new adds. h adds.entry adds.is_sum
with_sum-finds algorithm line sums (Some entry) h = go (get sums entry.0) refl
  where
    go : (before : Option DigestSet) → get sums entry.0 ≡ before
        → Finds (AddsSum algorithm line sums)
        (cond (is_some before) None (Some (insert sums entry.0 entry.1)))
    go None e = record { entry = entry; is_sum = h; is_new = e; added = refl }
    go (Some old) e = λ new adds. let other : Some old ≡ None = sym e
        ∙ ap (λ (f : Entry). get sums f.0) (same_sum algorithm line entry adds.entry h adds.is_sum)
        ∙ adds.is_new in cc

adds_nothing : (algorithm : Algorithm) (line : List ℕ) (sums : ArtifactMap)
    → ((new : ArtifactMap) → ¬ AddsSum algorithm line sums new) → AddsNothing algorithm line sums
adds_nothing algorithm line sums none entry is free = none (insert sums entry.0 entry.1) (record {
  entry = entry;
  is_sum = is;
  is_new = free;
  added = refl;
})

sums_from-is : (algorithm : Algorithm) (bytes : List ℕ) (sums : ArtifactMap) (number : ℕ)
    (left : List (List ℕ))
    → HasRead algorithm bytes left sums number → MatchResult
    (sums_from algorithm sums number left) (SumsOf algorithm bytes)
    (IsFirstBadLine algorithm bytes)
sums_from-is algorithm bytes sums number [] h = HasRead-all algorithm bytes sums number h
sums_from-is algorithm bytes sums number (line ∷ left) h =
    or_fault-is (AddsSum algorithm line sums) (SumsOf algorithm bytes)
    (IsFirstBadLine algorithm bytes)
    (with_sum sums (sum_of algorithm line)) (number + 1) (λ new. sums_from algorithm new
    (number + 1) left)
    (with_sum-finds algorithm line sums (sum_of algorithm line) (sum_of-finds algorithm line))
    (λ none. HasRead-bad algorithm bytes line (line ∷ left) left sums number h refl
    (adds_nothing algorithm line sums none))
    (λ new adds. sums_from-is algorithm bytes new (number + 1) left
    (HasRead-more algorithm bytes line (line ∷ left) left sums new number h refl adds))

pub sums_of-is : (algorithm : Algorithm) (bytes : List ℕ) → MatchResult (sums_of algorithm bytes)
    (SumsOf algorithm bytes)
    (IsFirstBadLine algorithm bytes)
unfolding sums_of
sums_of-is algorithm bytes = sums_from-is algorithm bytes empty 0 (lines_of bytes)
    (HasRead-none algorithm bytes)
