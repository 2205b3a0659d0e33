-- Paths that one of two digest lists alone names, by the digests of the files that both describe.
use Rattle.std.proofs.Common.{◌≡◌, ◌≢◌, ◌∙◌, ℕ, List, [], ◌∷◌, Option, Some, None, Bool}
use Rattle.std.proofs.Common.{true, false, cond, Contains, IsTrue, Less, T, filter_map, is_some}
use Rattle.std.proofs.Common.{arith, ap, map, refl, subst, sym}
use Rattle.std.specs.FinMap.{entries, entries_sorted, find, get, get-from_entries, is_sorted}
use Rattle.std.specs.List.{AllByRecursion, AllZip, cons_option}
use Rattle.std.specs.List.Sorted.{IsStrictlySortedBy}
use Rattle.std.specs.Option.{option_and_then}
use Rattle.std.specs.Ordering.{eq_by_cmp}
use Rattle.std.proofs.lemmas.Cmp.{nat_list_cmp_total}
use Rattle.std.proofs.lemmas.Map.Keys.{Less-from_sorted}
use Rattle.std.proofs.lemmas.Option.{same_Some}
use Rattle.it_digest.specs.Artifacts.{ArtifactMap}
use Rattle.it_digest.specs.DigestSet.{Algorithm, in_sha256, in_sha512, only}
use Rattle.it_digest.specs.Listed.{AreListed, listed_digests}
use Rattle.it_digest.specs.Sums.{IsSum, SumsOf, lines_of}
use Rattle.it_digest.specs.declared.compare.DigestSet.{DigestSet}
use Rattle.it_digest.specs.declared.sums.ListAlgorithm.{ListAlgorithm}
use Rattle.it_digest.specs.declared.sums.ListAlgorithm.TheVariants.{Sha256, Sha512}
use Rattle.it_digest.proofs.ArtifactsLemmas.{path_cmp}
use Rattle.it_chain.proofs.Entries.{entry_known, first_below, known_entry}
use Rattle.it_chain.proofs.Members.{in_filter_map, in_head, in_none, in_tail, of_filter_map}
use Rattle.it_strict.specs.ListedOnce.{AreListedOnce, IsAloneIn}
use Rattle.it_strict.specs.declared.listed_once.ListedOnce.{ListedOnce}
use Rattle.it_strict.specs.inside.OneList.{list_giving, once_at, once_in, only_list}

abbrev Entry : Type 0
Entry = List ℕ × DigestSet

-- ---- what a list gives

-- the digests that a list gives a path are one, by its algorithm
abbrev Gives : Algorithm → Option DigestSet → Type 0
Gives algorithm listed = (digests : DigestSet) → listed ≡ Some digests
    → (digest : List ℕ) × (digests ≡ only algorithm digest)

found_gives : (algorithm : Algorithm) (lines : List (List ℕ)) (es : List Entry)
    → AllZip (IsSum algorithm) lines es → (q : List ℕ) → Gives algorithm (find path_cmp q es)
found_gives algorithm [] [] each q digests e = cc e
found_gives algorithm [] (e ∷ es) each q digests is = absurd each
found_gives algorithm (line ∷ lines) [] each q digests is = cc is
found_gives algorithm (line ∷ lines) (e ∷ es) each q digests is =
    by (eq_by_cmp path_cmp q e.0) is (found_gives algorithm lines es each.1 q digests)
  where
    by : (b : Bool) → cond b (Some e.1) (find path_cmp q es) ≡ Some digests
        → (find path_cmp q es ≡ Some digests → (d : List ℕ) × (digests ≡ only algorithm d))
        → (d : List ℕ) × (digests ≡ only algorithm d)
    by true here later = let cut = each.0.cut in
        (cut.digest, sym (same_Some e.1 digests here) ∙ cut.digests_are)
    by false there later = later there

list_gives : (algorithm : Algorithm) (bytes : List ℕ) (files : ArtifactMap)
    → SumsOf algorithm bytes files → (q : List ℕ) → Gives algorithm (get files q)
list_gives algorithm bytes files h q =
    subst (Gives algorithm)
    (sym (ap (λ m. get m q) h.map_is ∙ get-from_entries nat_list_cmp_total h.entries q))
    (found_gives algorithm (lines_of bytes) h.entries h.are_sums.each_gives q)

-- ---- the list that alone names a path

abbrev list_naming : Option DigestSet → Option DigestSet → Option ListAlgorithm
list_naming (Some digests) None = Some Sha256
list_naming None (Some digests) = Some Sha512
list_naming (Some digests) (Some others) = None
list_naming None None = None

naming_is : (first second : Option DigestSet) → Gives in_sha256 first → Gives in_sha512 second
    → option_and_then only_list (listed_digests first second) ≡ list_naming first second
naming_is None None one other = refl
naming_is None (Some b) one other =
    let by = other b refl in ap only_list by.1
naming_is (Some a) None one other =
    let by = one a refl in ap only_list by.1
naming_is (Some a) (Some b) one other =
    let first = one a refl in
    let second = other b refl in
    (λ i. list_giving (first.1 i).sha256 (second.1 i).sha512)

abbrev IsAlone : ListAlgorithm → Option DigestSet → Option DigestSet → Type 0
IsAlone Sha256 first second = IsTrue (is_some first) × ¬ IsTrue (is_some second)
IsAlone Sha512 first second = IsTrue (is_some second) × ¬ IsTrue (is_some first)

alone_named : (list : ListAlgorithm) (first second : Option DigestSet)
    → IsAlone list first second → list_naming first second ≡ Some list
alone_named Sha256 (Some a) None alone = refl
alone_named Sha256 (Some a) (Some b) alone = absurd (alone.1 refl)
alone_named Sha256 None second alone = cc (alone.0)
alone_named Sha512 None (Some b) alone = refl
alone_named Sha512 (Some a) (Some b) alone = absurd (alone.1 refl)
alone_named Sha512 first None alone = cc (alone.0)

named_alone : (list : ListAlgorithm) (first second : Option DigestSet)
    → list_naming first second ≡ Some list → IsAlone list first second
named_alone Sha256 (Some a) None named = (refl, λ h. cc h)
named_alone Sha256 (Some a) (Some b) named = cc named
named_alone Sha256 None (Some b) named = cc named
named_alone Sha256 None None named = cc named
named_alone Sha512 None (Some b) named = (refl, λ h. cc h)
named_alone Sha512 (Some a) (Some b) named = cc named
named_alone Sha512 (Some a) None named = cc named
named_alone Sha512 None None named = cc named

-- ---- in the order of the files

abbrev paths_of : List ListedOnce → List (List ℕ)
paths_of found = map (λ (once : ListedOnce). once.path) found

abbrev is_below : List ℕ → List (List ℕ) → Type 0
is_below path paths = AllByRecursion (λ (other : List ℕ). path_cmp path other ≡ Less) paths

below_more : (x path : List ℕ) (list : Option ListAlgorithm) (found : List ListedOnce)
    → path_cmp x path ≡ Less → is_below x (paths_of found)
    → is_below x (paths_of (cons_option (once_at path list) found))
below_more x path None found here rest = rest
below_more x path (Some list) found here rest = (here, rest)

paths_below : (x : List ℕ) (es : List Entry)
    → ((e : Entry) → Contains es e → path_cmp x e.0 ≡ Less)
    → is_below x (paths_of (filter_map once_in es))
paths_below x [] below = tt
paths_below x (e ∷ es) below =
    below_more x e.0 (only_list e.1) (filter_map once_in es) (below e (in_head e es))
    (paths_below x es (λ f c. below f (in_tail e es f c)))

rise_more : (path : List ℕ) (list : Option ListAlgorithm) (found : List ListedOnce)
    → is_below path (paths_of found) → IsStrictlySortedBy path_cmp (paths_of found)
    → IsStrictlySortedBy path_cmp (paths_of (cons_option (once_at path list) found))
unfolding IsStrictlySortedBy
rise_more path None found below rest = rest
rise_more path (Some list) found below rest = (below, rest)

paths_rise : (es : List Entry) → T (is_sorted path_cmp es)
    → IsStrictlySortedBy path_cmp (paths_of (filter_map once_in es))
unfolding IsStrictlySortedBy
paths_rise [] sorted = tt
paths_rise (e ∷ es) sorted =
    let parts = first_below e es sorted in
    rise_more e.0 (only_list e.1) (filter_map once_in es) (paths_below e.0 es parts.0)
    (paths_rise es parts.1)

-- ---- one file

once_parts : (path : List ℕ) (list : Option ListAlgorithm) (once : ListedOnce)
    → once_at path list ≡ Some once → (path ≡ once.path) × (list ≡ Some once.list)
once_parts path None once e = cc e
once_parts path (Some list) once e =
    let same = same_Some (record { path = path; list = list }) once e in
    (ap (λ (o : ListedOnce). o.path) same, ap (λ (o : ListedOnce). Some o.list) same)

known_digests : (known : Option DigestSet) (list : ListAlgorithm)
    → option_and_then only_list known ≡ Some list
    → (digests : DigestSet) × (known ≡ Some digests) × (only_list digests ≡ Some list)
known_digests None list e = cc e
known_digests (Some digests) list e = (digests, refl, e)

-- ---- what is found

module _ (sums sums512 : List ℕ) (files : ArtifactMap) (h : AreListed sums sums512 files) where
  -- where a list is empty, nothing is
  pub none_once : ¬ ((sums ≢ []) × (sums512 ≢ [])) → AreListedOnce sums sums512 []
  none_once never = record {
    by_sha256 = h.by_sha256;
    by_sha512 = h.by_sha512;
    first = h.first;
    second = h.second;
    in_order = λ i j d less within. absurd (omega (arith, within));
    exact = λ once. (λ c. absurd (in_none once c), λ k. absurd (never (k.0, k.1)));
  }

  naming : (path : List ℕ) → option_and_then only_list (get files path)
      ≡ list_naming (get h.by_sha256 path) (get h.by_sha512 path)
  naming path = ap (option_and_then only_list) (h.are_both path)
      ∙ naming_is (get h.by_sha256 path) (get h.by_sha512 path)
      (list_gives in_sha256 sums h.by_sha256 h.first path)
      (list_gives in_sha512 sums512 h.by_sha512 h.second path)

  is_alone : (list : ListAlgorithm) (path : List ℕ)
      → IsAlone list (get h.by_sha256 path) (get h.by_sha512 path)
      → IsAloneIn list h.by_sha256 h.by_sha512 path
  is_alone Sha256 path alone = alone
  is_alone Sha512 path alone = alone

  alone_is : (list : ListAlgorithm) (path : List ℕ)
      → IsAloneIn list h.by_sha256 h.by_sha512 path
      → IsAlone list (get h.by_sha256 path) (get h.by_sha512 path)
  alone_is Sha256 path alone = alone
  alone_is Sha512 path alone = alone

  of_found : (once : ListedOnce) → Contains (filter_map once_in (entries files)) once
      → IsAloneIn once.list h.by_sha256 h.by_sha512 once.path
  of_found once within =
      let found = of_filter_map once_in (entries files) once within in
      let file = found.0 in
      let same = once_parts file.0 (only_list file.1) once found.1 in
      let named : list_naming (get h.by_sha256 once.path) (get h.by_sha512 once.path)
      ≡ Some once.list =
      subst (λ (path : List ℕ). list_naming (get h.by_sha256 path) (get h.by_sha512 path)
      ≡ Some once.list) same.0
      (sym (naming file.0) ∙ ap (option_and_then only_list) (entry_known files file found.2)
      ∙ same.1) in
      is_alone once.list once.path
      (named_alone once.list (get h.by_sha256 once.path) (get h.by_sha512 once.path) named)

  in_found : (once : ListedOnce) → IsAloneIn once.list h.by_sha256 h.by_sha512 once.path
      → Contains (filter_map once_in (entries files)) once
  in_found once alone =
      let named = alone_named once.list (get h.by_sha256 once.path) (get h.by_sha512 once.path)
      (alone_is once.list once.path alone) in
      let file = known_digests (get files once.path) once.list (naming once.path ∙ named) in
      in_filter_map once_in (entries files) (once.path, file.0) once
      (ap (once_at once.path) file.2) (known_entry files once.path file.0 file.1)

  pub all_once : sums ≢ [] → sums512 ≢ []
      → AreListedOnce sums sums512 (filter_map once_in (entries files))
  all_once some others = record {
    by_sha256 = h.by_sha256;
    by_sha512 = h.by_sha512;
    first = h.first;
    second = h.second;
    in_order = λ i j d less within. Less-from_sorted path_cmp
        (paths_of (filter_map once_in (entries files))) i j d
        (paths_rise (entries files) (entries_sorted files)) less within;
    exact = λ once. (λ c. (some, others, of_found once c), λ k. in_found once k.2);
  }
