-- Which files two digest lists stand for together, or which line is the first bad one, as an
-- answer.
use Rattle.std.proofs.Common.{◌≡◌, ℕ, List, [], ◌∷◌, ◌++◌, map, Some, Bool, true}
use Rattle.std.proofs.Common.{false, cond, Result, Ok, Err, MatchResult, refl, sym, ap, ◌∙◌}
use Rattle.std.specs.Ordering.{eq_by_cmp}
use Rattle.std.specs.FinMap.{entries, find, from_entries, get, get-entries, get-from_entries}
use Rattle.std.proofs.lemmas.Cmp.{nat_list_cmp_total}
use Rattle.it_digest.specs.declared.listed.BadLine.{BadLine}
use Rattle.it_digest.specs.declared.listed.BadLine.TheVariants.{InSha256, InSha512}
use Rattle.it_digest.specs.Artifacts.{ArtifactMap}
use Rattle.it_digest.specs.DigestSet.{in_sha256, in_sha512}
use Rattle.it_digest.specs.Listed.{AreListed, AreTogether, IsFirstBadIn, listed_digests}
use Rattle.it_digest.specs.Sums.{IsFirstBadLine, SumsOf}
use Rattle.it_digest.proofs.ArtifactsLemmas.{path_cmp}
use Rattle.it_digest.proofs.ListedLemmas.{listed_none, listed_some, with_listed_digests}
use Rattle.it_digest.proofs.SumsDecided.{sums_of, sums_of-is}
use Rattle.it_digest.proofs.SumsLemmas.{Entry, same_path}

-- the entries of a second map, each with what the first map has under its path
abbrev with_known : ArtifactMap → List Entry → List Entry
with_known known es = map (λ e. (e.0, with_listed_digests (get known e.0) e.1)) es

abbrev together_of : ArtifactMap → ArtifactMap → ArtifactMap
together_of known listed = from_entries (with_known known (entries listed) ++ entries known)

find-with_known : (known : ArtifactMap) (es : List Entry) (q : List ℕ)
    → find path_cmp q (with_known known es ++ entries known)
    ≡ listed_digests (get known q) (find path_cmp q es)
find-with_known known [] q = sym (get-entries known q) ∙ sym (listed_none (get known q))
find-with_known known (e ∷ es) q =
    go (eq_by_cmp path_cmp q e.0) refl (find-with_known known es q)
  where
    go : (b : Bool) → eq_by_cmp path_cmp q e.0 ≡ b
        → find path_cmp q (with_known known es ++ entries known)
        ≡ listed_digests (get known q) (find path_cmp q es)
        → cond b (Some (with_listed_digests (get known e.0) e.1))
        (find path_cmp q (with_known known es ++ entries known))
        ≡ listed_digests (get known q) (cond b (Some e.1) (find path_cmp q es))
    go true tied _ = sym (listed_some (get known e.0) e.1)
        ∙ ap (λ p. listed_digests (get known p) (Some e.1)) (sym (same_path q e.0 tied))
    go false _ rest = rest

together_of-is : (known listed : ArtifactMap)
    → AreTogether known listed (together_of known listed)
together_of-is known listed q =
    get-from_entries nat_list_cmp_total (with_known known (entries listed) ++ entries known) q
    ∙ find-with_known known (entries listed) q
    ∙ ap (listed_digests (get known q)) (sym (get-entries listed q))

lists_with : Result ArtifactMap ℕ → Result ArtifactMap ℕ → Result ArtifactMap BadLine
lists_with (Err line) second = Err (InSha256 line)
lists_with (Ok known) (Err line) = Err (InSha512 line)
lists_with (Ok known) (Ok listed) = Ok (together_of known listed)

-- decides `AreListed` and `IsFirstBadIn`
pub lists_of : List ℕ → List ℕ → Result ArtifactMap BadLine
lists_of sums sums512 = lists_with (sums_of in_sha256 sums) (sums_of in_sha512 sums512)

lists_with-is : (sums sums512 : List ℕ) (first second : Result ArtifactMap ℕ)
    → MatchResult first (SumsOf in_sha256 sums) (IsFirstBadLine in_sha256 sums)
    → MatchResult second (SumsOf in_sha512 sums512) (IsFirstBadLine in_sha512 sums512)
    → MatchResult (lists_with first second) (AreListed sums sums512) (IsFirstBadIn sums sums512)
unfolding lists_with
lists_with-is sums sums512 (Err line) second bad _ = bad
lists_with-is sums sums512 (Ok known) (Err line) is bad = ((known, is), bad)
lists_with-is sums sums512 (Ok known) (Ok listed) first second = record {
  by_sha256 = known;
  by_sha512 = listed;
  first = first;
  second = second;
  are_both = together_of-is known listed;
}

pub lists_of-is : (sums sums512 : List ℕ) → MatchResult (lists_of sums sums512)
    (AreListed sums sums512) (IsFirstBadIn sums sums512)
unfolding lists_of
lists_of-is sums sums512 = lists_with-is sums sums512 (sums_of in_sha256 sums)
    (sums_of in_sha512 sums512) (sums_of-is in_sha256 sums) (sums_of-is in_sha512 sums512)
