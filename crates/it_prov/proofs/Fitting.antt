-- Some expectation fits a path, or none does.
use Rattle.std.proofs.Common.{◌≡◌, ◌⊎◌, ◌+◌, ◌<◌, ℕ, List, [], ◌∷◌, ◌++◌, length, get_or, take}
use Rattle.std.proofs.Common.{drop, option_map, Option, Some, None, MatchOption, inl, inr, Contains}
use Rattle.std.proofs.Common.{refl, sym, ap, subst, arith, ◌∙◌}
use Rattle.std.specs.List.{AllWithin, HoldsAt, slice_get}
use Rattle.std.proofs.lemmas.List.{drop_more, get_or-take, length-map, length-take}
use Rattle.std.proofs.lemmas.List.{take-append-drop}
use Rattle.std.proofs.lemmas.List.Elements.{Contains-append_right}
use Rattle.std.proofs.lemmas.Option.{get_or_from_slice_get, same_Some, slice_get-get_or}
use Rattle.std.proofs.lemmas.Option.{slice_get-map, slice_get_cases, slice_get_within}
use Rattle.it_base.proofs.Members.{in_head, in_cases, in_none}
use Rattle.it_base.proofs.Settled.{Settled, settled_by}
use Rattle.it_glob.specs.Pattern.{Matches, items_of}
use Rattle.it_glob.proofs.Decided.{is_match, is_match-Decides}
use Rattle.it_docs.specs.declared.policy.Expectation.{Expectation}
use Rattle.it_pattern_index.specs.FirstMatch.{IsFirstMatch, MatchesAt, NoneMatches}
use Rattle.it_prov.specs.Finding.{NoneFits}
use Rattle.it_prov.specs.Fits.{SpeaksOf, Fits, FitsAt, patterns_of}

module _ (path : List ℕ) where
  speaks_or_not : (expectation : Expectation) → Settled (SpeaksOf path expectation)
  speaks_or_not expectation = settled_by (is_match expectation.files path)
      (is_match-Decides expectation.files path)

  fits_first : (expectation : Expectation) (rest : List Expectation) → SpeaksOf path expectation
      → Fits (expectation ∷ rest) path expectation
  fits_first expectation rest speaks = record {
    front = [];
    rest = rest;
    they_are = refl;
    speaks = speaks;
    none_before =
        λ other c. absurd (in_none other c);
  }

  fits_later : (silent : Expectation) (expectations : List Expectation) (expectation : Expectation)
      → ¬ SpeaksOf path silent → Fits expectations path expectation
      → Fits (silent ∷ expectations) path expectation
  fits_later silent expectations expectation quiet fits = record {
    front = silent ∷ fits.front;
    rest = fits.rest;
    they_are = ap (λ others. silent ∷ others) fits.they_are;
    speaks = fits.speaks;
    none_before = λ other c. elim (in_cases silent fits.front other c) [
      | inl same ↦ subst (λ e. ¬ SpeaksOf path e) same quiet
      | inr later ↦ fits.none_before other later
    ];
  }

  fits_or_silent : (expectations : List Expectation)
      → ((expectation : Expectation) × Fits expectations path expectation)
      ⊎ ((expectation : Expectation) → Contains expectations expectation
      → ¬ SpeaksOf path expectation)
  fits_or_silent [] = inr (λ other c. absurd (in_none other c))
  fits_or_silent (x ∷ xs) = elim (speaks_or_not x) [
    | inl speaks ↦ inl (x, fits_first x xs speaks)
    | inr quiet ↦ elim (fits_or_silent xs) [
      | inl found ↦ inl (found.0, fits_later x xs found.0 quiet found.1)
      | inr silent ↦ inr
          (λ other c. elim (in_cases x xs other c) [
            | inl same ↦ subst (λ e. ¬ SpeaksOf path e) same quiet
            | inr later ↦ silent other later
          ])
    ]
  ]

  -- where no expectation speaks of the path, none fits it
  silent_fits_none : (expectations : List Expectation)
      → ((expectation : Expectation) → Contains expectations expectation
      → ¬ SpeaksOf path expectation) → NoneFits expectations path
  silent_fits_none expectations silent e fits =
      silent e (subst (λ xs. Contains xs e) (sym fits.they_are)
      (Contains-append_right fits.front (e ∷ fits.rest) e (in_head e fits.rest))) fits.speaks

  pub fits_or_none : (expectations : List Expectation)
      → ((expectation : Expectation) × Fits expectations path expectation)
      ⊎ NoneFits expectations path
  fits_or_none expectations = elim (fits_or_silent expectations) [
    | inl found ↦ inl found
    | inr silent ↦ inr (silent_fits_none expectations silent)
  ]

  -- the first that speaks of the path fits it
  fits_at : (expectations : List Expectation) (expectation : Expectation) (i : ℕ)
      → i < length expectations → get_or expectations i expectation ≡ expectation
      → SpeaksOf path expectation
      → AllWithin (λ other. ¬ SpeaksOf path other) expectations 0 i
      → Fits expectations path expectation
  fits_at expectations expectation i below is speaks before = record {
    front = take i expectations;
    rest = drop (i + 1) expectations;
    they_are = sym (take-append-drop i expectations) ∙ ap (λ xs. take i expectations ++ xs)
        (drop_more expectations i expectation below ∙ ap (λ x. x ∷ drop (i + 1) expectations) is);
    speaks = speaks;
    none_before = λ other c.
        let within : c.0 < i = omega (arith, c.1, length-take i expectations) in
        subst (λ x. ¬ SpeaksOf path x) (sym (get_or-take i expectations c.0 other within) ∙ c.2)
        (before c.0 other (omega arith) within);
  }

  -- what a search for the place of the first that speaks of the path comes to
  pub fits_found : (expectations : List Expectation) (found : Option ℕ)
      → MatchOption found (AllWithin (λ other. ¬ SpeaksOf path other) expectations 0
      (length expectations))
      (λ i. (i < length expectations) × HoldsAt (SpeaksOf path) expectations i
      × AllWithin (λ other. ¬ SpeaksOf path other) expectations 0 i)
      → MatchOption found (NoneFits expectations path) (FitsAt expectations path)
  fits_found expectations None silent =
      silent_fits_none expectations (λ other c. subst (λ x. ¬ SpeaksOf path x) c.2
      (silent c.0 other (omega arith) c.1))
  fits_found expectations (Some i) h = elim (slice_get_cases expectations i).1 [
    | inl at ↦ record {
      expectation = at.0;
      stands = at.2;
      fits = fits_at expectations at.0 i h.0 at.3 (subst (SpeaksOf path) at.3 (h.1 at.0)) h.2;
    }
    | inr past ↦ absurd (omega (arith, past.0, h.0))
  ]

  -- an expectation's pattern stands at the expectation's place
  pattern_at : (expectations : List Expectation) (i : ℕ) (d : Expectation)
      → i < length expectations
      → slice_get (patterns_of expectations) i ≡ Some (get_or expectations i d).files
  pattern_at expectations i d below = slice_get-map (λ (e : Expectation). e.files) expectations i
      ∙ ap (option_map (λ (e : Expectation). e.files)) (slice_get-get_or expectations i d below)

  matches_at : (expectations : List Expectation) (i : ℕ) (d : Expectation)
      → i < length expectations → SpeaksOf path (get_or expectations i d)
      → MatchesAt (patterns_of expectations) path i
  matches_at expectations i d below speaks = record {
    pattern = (get_or expectations i d).files;
    stands = pattern_at expectations i d below;
    matches = speaks;
  }

  -- the first of their patterns that matches the path is that of the expectation which fits it
  pub fits_by_pattern : (expectations : List Expectation) (found : Option ℕ)
      → MatchOption found (NoneMatches (patterns_of expectations) path)
      (IsFirstMatch (patterns_of expectations) path)
      → MatchOption found (NoneFits expectations path) (FitsAt expectations path)
  fits_by_pattern expectations None none = fits_found expectations None
      (λ i d low below speaks. none i (matches_at expectations i d below speaks))
  fits_by_pattern expectations (Some i) first =
      let patterns = patterns_of expectations in
      let here = first.here in
      let within = slice_get_within patterns i here.pattern here.stands in
      let below : i < length expectations =
      omega (arith, within, length-map expectations (λ (e : Expectation). e.files)) in
      fits_found expectations (Some i) (
        below,
        λ d. subst (λ t. Matches (items_of t) path) (same_Some here.pattern _
            (sym here.stands ∙ pattern_at expectations i d below)) here.matches,
        λ j d low less speaks. omega (
          arith,
          less,
          first.none_before j
              (matches_at expectations j d (omega (arith, less, below)) speaks),
        ),
      )

  -- the expectation at the place of the one that fits fits
  pub fits_there : (expectations : List Expectation) (place : ℕ) (default : Expectation)
      → FitsAt expectations path place → Fits expectations path (get_or expectations place default)
  fits_there expectations place default at = subst (Fits expectations path)
      (sym (get_or_from_slice_get expectations place at.expectation default at.stands)) at.fits
