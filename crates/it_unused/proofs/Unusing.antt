-- Which expectations are unused, one expectation after another.
use Rattle.std.proofs.Common.{◌≡◌, ◌⊎◌, ◌∙◌, ℕ, ◌<◌, ◌≤◌, ◌+◌, List, [], ◌∷◌, ◌++◌, Some, inl, inr}
use Rattle.std.proofs.Common.{AllPairs, Any, Bor, Contains, take, length, get_or, map, option_map}
use Rattle.std.proofs.Common.{ap, subst, sym, ⊎_elim, arith}
use Rattle.std.specs.FinMap.{keys}
use Rattle.std.specs.List.{slice_get}
use Rattle.std.proofs.lemmas.Bool.{cases_lt}
use Rattle.std.proofs.lemmas.List.{get_or-take, length-take}
use Rattle.std.proofs.lemmas.List.Elements.{Contains-append_left, Contains-get_or, Contains-push}
use Rattle.std.proofs.lemmas.List.Elements.{Contains-push_cases}
use Rattle.std.proofs.lemmas.List.Quantifiers.{all_pairs_push}
use Rattle.std.proofs.lemmas.Option.{get_or_from_slice_get, same_Some, slice_get-get_or}
use Rattle.std.proofs.lemmas.Option.{slice_get-map, slice_get_past, slice_get_within}
use Rattle.it_base.proofs.Members.{in_none}
use Rattle.it_glob.specs.Pattern.{Matches, items_of}
use Rattle.it_pattern_index.specs.FirstMatch.{IsFirstMatch, MatchesAt}
use Rattle.it_pattern_index.proofs.Existing.{first_or_none}
use Rattle.it_digest.specs.Artifacts.{ArtifactMap}
use Rattle.it_docs.specs.declared.policy.Expectation.{Expectation}
use Rattle.it_prov.specs.Fits.{SpeaksOf, patterns_of}
use Rattle.it_unused.specs.Unused.{AreUnused, IsUnused}
use Rattle.it_unused.specs.inside.Used.{IsUsed}
use Rattle.it_unused.proofs.Lending.{among_lent, any_at, lent_among}

module _ (expectations : List Expectation) (delivered : ArtifactMap) where
  -- exactly the places of the unused expectations before a place, in order
  pub record SoFar (end : ℕ) (places : List ℕ) : Type 0 where
    pub in_order : AllPairs (λ one other. one < other) places
    pub each : (place : ℕ) → Contains places place
        → (place < end) × IsUnused expectations delivered place
    pub whole : (place : ℕ) → place < end → IsUnused expectations delivered place
        → Contains places place

  pub so_far_none : SoFar 0 []
  so_far_none = record {
    in_order = λ i j d less within. absurd (omega (arith, within));
    each = λ place c. absurd (in_none place c);
    whole = λ place less u. absurd (omega (arith, less));
  }

  module _ (end : ℕ) (places : List ℕ) (h : SoFar end places) where
    pub so_far_more : IsUnused expectations delivered end → SoFar (end + 1) (places ++ end ∷ [])
    so_far_more unused = record {
      in_order = all_pairs_push (λ one other. one < other) places end h.in_order
          (λ k d less. (h.each (get_or places k d) (Contains-get_or places k d less)).0);
      each = λ place c. ⊎_elim
          (λ b. let at = h.each place b in (omega (arith, at.0), at.1))
          (λ e. (omega (arith, e), subst (IsUnused expectations delivered) e unused))
          (Contains-push_cases places end place c);
      whole = λ place less u. elim (cases_lt place end) [
        | inl before ↦ Contains-append_left places (end ∷ []) place (h.whole place before u)
        | inr g ↦ let same : end ≡ place = omega (arith, less, g) in
            subst (Contains (places ++ end ∷ [])) same (Contains-push places end)
      ];
    }

    pub so_far_skip : ¬ IsUnused expectations delivered end → SoFar (end + 1) places
    so_far_skip used = record {
      in_order = h.in_order;
      each = λ place c. let at = h.each place c in (omega (arith, at.0), at.1);
      whole = λ place less u. elim (cases_lt place end) [
        | inl before ↦ h.whole place before u
        | inr g ↦ let same : place ≡ end = omega (arith, less, g) in
            absurd (used (subst (IsUnused expectations delivered) same u))
      ];
    }

  within : (place : ℕ) → IsUnused expectations delivered place → place < length expectations
  within place u = elim (cases_lt place (length expectations)) [
    | inl l ↦ l
    | inr g ↦ absurd (let past = slice_get_past expectations place g in
        let stands = u.stands in cc (past, stands))
  ]

  pub all_unused : (end : ℕ) (places : List ℕ) → length expectations ≤ end → SoFar end places
      → AreUnused expectations delivered places
  all_unused end places past h = record {
    in_order = h.in_order;
    exact = λ place. (
      λ c. (h.each place c).1,
      λ u. let less = within place u in h.whole place (omega (arith, less, past)) u,
    );
  }

  abbrev SpeaksOfSome : Expectation → List (Bor (List ℕ)) → Type 0
  SpeaksOfSome expectation paths = Any (λ path. SpeaksOf path.now expectation) paths

  pattern_there : (place : ℕ) (expectation : Expectation)
      → slice_get expectations place ≡ Some expectation
      → slice_get (patterns_of expectations) place ≡ Some expectation.files
  pattern_there place expectation stands =
      slice_get-map (λ (e : Expectation). e.files) expectations place
      ∙ ap (option_map (λ (e : Expectation). e.files)) stands

  -- an expectation that speaks of a path has a pattern that matches it, at its place
  matches_there : (path : List ℕ) (place : ℕ) (expectation : Expectation)
      → slice_get expectations place ≡ Some expectation → SpeaksOf path expectation
      → MatchesAt (patterns_of expectations) path place
  matches_there path place expectation stands speaks = record {
    pattern = expectation.files;
    stands = pattern_there place expectation stands;
    matches = speaks;
  }

  -- and the other way round
  speaks_there : (path : List ℕ) (place : ℕ) (expectation : Expectation)
      → slice_get expectations place ≡ Some expectation
      → MatchesAt (patterns_of expectations) path place → SpeaksOf path expectation
  speaks_there path place expectation stands matches =
      subst (λ pattern. Matches (items_of pattern) path)
      (same_Some matches.pattern expectation.files
      (sym matches.stands ∙ pattern_there place expectation stands)) matches.matches

  module _ (place : ℕ) (expectation : Expectation)
      (stands : slice_get expectations place ≡ Some expectation) (paths : List (Bor (List ℕ)))
      (whole : map (λ path. path.now) paths ≡ keys delivered) where
    one : (u : IsUnused expectations delivered place) → u.expectation ≡ expectation
    one u = let here = u.stands in cc (here, stands)

    lent_to : (path : List ℕ) → Contains (keys delivered) path
        → (lent : Bor (List ℕ)) × Contains paths lent × (lent.now ≡ path)
    lent_to path c = among_lent paths path (subst (λ ks. Contains ks path) (sym whole) c)

    delivered_of : (lent : Bor (List ℕ)) → Contains paths lent
        → Contains (keys delivered) lent.now
    delivered_of lent c = subst (λ ks. Contains ks lent.now) whole (lent_among paths lent c)

    -- the first expectation that speaks of a path is before it, or it is the first
    earlier : (path : List ℕ) (first : ℕ) → IsFirstMatch (patterns_of expectations) path first
        → SpeaksOf path expectation → (first ≡ place)
        ⊎ Any (SpeaksOf path) (take place expectations)
    earlier path first is speaks =
        let most = is.none_before place (matches_there path place expectation stands speaks) in
        let within = slice_get_within expectations place expectation stands in
        elim (cases_lt first place) [
          | inl less ↦ inr (
              let other = get_or expectations first expectation in
              let there = slice_get-get_or expectations first expectation
              (omega (arith, less, within)) in (
                first,
                other,
                omega (arith, less, within, length-take place expectations),
                get_or-take place expectations first other less
                    ∙ get_or_from_slice_get expectations first other other there,
                speaks_there path first other there is.here,
              ))
          | inr past ↦ inl (omega (arith, past, most))
        ]

    -- one that is the first for no path, but speaks of some
    pub is_unused : ¬ IsUsed (patterns_of expectations) paths place
        → SpeaksOfSome expectation paths → IsUnused expectations delivered place
    is_unused no_first speaks = record {
      expectation = expectation;
      stands = stands;
      speaks = any_at (λ path. SpeaksOf path expectation) (keys delivered) speaks.1.now
          (delivered_of speaks.1 (speaks.0, speaks.2, speaks.3)) speaks.4;
      taken = λ path c s. elim (first_or_none path (patterns_of expectations)) [
        | inl first ↦ elim (earlier path first.0 first.1 s) [
          | inl same ↦
              let lent = lent_to path c in
              absurd (no_first (any_at
              (λ each. IsFirstMatch (patterns_of expectations) each.now place) paths lent.0 lent.1
              (subst (λ p. IsFirstMatch (patterns_of expectations) p place) (sym lent.2)
              (subst (IsFirstMatch (patterns_of expectations) path) same first.1))))
          | inr before ↦ before
        ]
        | inr none ↦ absurd (none place (matches_there path place expectation stands s))
      ];
    }

    -- one that is the first for some path
    pub used_where_first : IsUsed (patterns_of expectations) paths place
        → ¬ IsUnused expectations delivered place
    used_where_first used u =
        let path = used.1.now in
        let first = used.4 in
        let before = u.taken path (delivered_of used.1 (used.0, used.2, used.3))
        (subst (SpeaksOf path) (sym (one u))
        (speaks_there path place expectation stands first.here)) in
        let i = before.0 in
        let within = slice_get_within expectations place expectation stands in
        let less : i < place = omega (arith, before.2, length-take place expectations) in
        let at : get_or expectations i before.1 ≡ before.1 =
        sym (get_or-take place expectations i before.1 less) ∙ before.3 in
        let there : slice_get expectations i ≡ Some before.1 =
        slice_get-get_or expectations i before.1 (omega (arith, less, within)) ∙ ap Some at in
        let most = first.none_before i (matches_there path i before.1 there before.4) in
        omega (arith, less, most)

    -- one that speaks of no path
    pub used_where_none : ¬ SpeaksOfSome expectation paths
        → ¬ IsUnused expectations delivered place
    used_where_none silent u =
        let path = u.speaks.1 in
        let lent = lent_to path (u.speaks.0, u.speaks.2, u.speaks.3) in
        silent (any_at (λ each. SpeaksOf each.now expectation) paths lent.0 lent.1
        (subst (λ p. SpeaksOf p expectation) (sym lent.2)
        (subst (SpeaksOf path) (one u) u.speaks.4)))
