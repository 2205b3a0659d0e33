-- Which rule is the first to fail, as an answer. The paths that are free are those of a map.
use Rattle.std.proofs.Common.{◌≡◌, ◌≢◌, ◌↔◌, inl, inr, ℕ, ◌+◌, ◌<◌, List, [], ◌∷◌, length, map}
use Rattle.std.proofs.Common.{drop, get_or, Bool, true, false, ◌&&◌, T, not, cond, Option, Some}
use Rattle.std.proofs.Common.{None, MatchOption, find, is_some, Decides, IsTrue, Less, Greater}
use Rattle.std.proofs.Common.{true≢false, arith, refl, sym, ap, subst, ◌∙◌}
use Rattle.std.specs.FinMap.{contains_key, contains_key-keys, entries, entries_sorted, get}
use Rattle.std.specs.FinMap.{get-retain_keys, is_sorted, keys, retain_keys, nat_cmp-IsAntisymmetric}
use Rattle.std.specs.FinMap.{slice_cmp-IsAntisymmetric}
use Rattle.std.specs.FinMap.Entries.{below_all}
use Rattle.std.specs.List.{list_any, slice_get}
use Rattle.std.specs.Ordering.{eq_by_cmp, is_lt, ordering_reverse}
use Rattle.std.proofs.lemmas.Bool.{or_cases, or_left, or_right}
use Rattle.std.proofs.lemmas.Bool.Decides.{not_from_Decides}
use Rattle.std.proofs.lemmas.Cmp.{nat_list_cmp_total, tied_itself}
use Rattle.std.proofs.lemmas.List.{drop-drop, get_or-drop, length-drop}
use Rattle.std.proofs.lemmas.Option.{slice_get-get_or}
use Rattle.it_glob.proofs.Decided.{is_match, is_match-Decides}
use Rattle.it_digest.specs.Artifacts.{ArtifactMap}
use Rattle.it_digest.specs.declared.compare.DigestSet.{DigestSet}
use Rattle.it_docs.specs.declared.rule.Rule.{Rule}
use Rattle.it_docs.specs.declared.rule.Rule.TheVariants.{Match, Create, Delete, Modify, Allow}
use Rattle.it_docs.specs.declared.rule.Rule.TheVariants.{Disallow, Require}
use Rattle.it_docs.specs.declared.rule.Side.{Side}
use Rattle.it_rules.specs.Item.{Recorded, Links, artifacts_on}
use Rattle.it_rules.specs.Rules.{Claims, FailsWith, HoldsOver, IsFirstFault, IsMatch, RulesHold}
use Rattle.it_rules.specs.Rules.{Stands}
use Rattle.it_rules.proofs.ClaimsDecided.{is_claim, is_claim-Decides}
use Rattle.it_rules.proofs.PathOrder.{path_cmp, same_path, same_self}
use Rattle.it_rules.proofs.Running.{Running, all_run, fault_of as first_fault, one_more}

-- the path with which a rule fails over the free paths, if it fails
abbrev failing_path : Rule → ArtifactMap → Option (List ℕ)
failing_path (Disallow pattern) free = find (is_match pattern) (keys free)
failing_path (Require text) free = cond (contains_key free text) None (Some text)
failing_path rule free = None

abbrev fault_or : Option (List ℕ) → ℕ → Option (ℕ × List ℕ) → Option (ℕ × List ℕ)
fault_or None index later = later
fault_or (Some path) index later = Some (index, path)

-- the first fault of the rules from an index on, over the paths that are free before them
abbrev fault_from : Side → Recorded → Links → ℕ → ArtifactMap → List Rule → Option (ℕ × List ℕ)
fault_from side item links index free [] = None
fault_from side item links index free (rule ∷ rules) =
    fault_or (failing_path rule free) index
    (fault_from side item links (index + 1)
    (retain_keys free (λ path. not (is_claim rule side item links path))) rules)

-- decides `RulesHold` and `IsFirstFault`
unfoldable pub fault_of : List Rule → Side → Recorded → Links → Option (ℕ × List ℕ)
fault_of rules side item links = fault_from side item links 0 (artifacts_on side item) rules

-- a path is among these entries
abbrev Among : List (List ℕ × DigestSet) → List ℕ → Type 0
Among es path = IsTrue (list_any (eq_by_cmp path_cmp path) (map (λ e. e.0) es))

-- the first of these entries whose path passes a test
record IsFirst (test : List ℕ → Bool) (es : List (List ℕ × DigestSet))
    (path : List ℕ) : Type 0 where
  among : Among es path
  passes : IsTrue (test path)
  least : (other : List ℕ) → Among es other → IsTrue (test other) → path_cmp other path ≢ Less

both_hold : (a b : Bool) → T (a && b) → T a × T b
both_hold true b h = (tt, h)
both_hold false b h = absurd h

not_below : (first : List ℕ) (es : List (List ℕ × DigestSet)) (other : List ℕ)
    → T (below_all path_cmp first es) → Among es other → path_cmp other first ≢ Less
not_below first [] other below m less = absurd (cc)
not_below first (e ∷ es) other below m less =
    elim (or_cases (eq_by_cmp path_cmp other e.0)
    (list_any (eq_by_cmp path_cmp other) (map (λ e. e.0) es)) m) [
      | inl s ↦
          let same : other ≡ e.0 = same_path other e.0 s in
          let reversed : path_cmp first e.0 ≡ Greater = nat_list_cmp_total.antisymm first e.0
          ∙ ap ordering_reverse (subst (λ p. path_cmp p first ≡ Less) same less) in
          subst (λ o. T (is_lt o)) reversed (both_hold _ _ below).0
      | inr r ↦ not_below first es other (both_hold _ _ below).1 r less
    ]

module _ (test : List ℕ → Bool) where
  none_more : (e : List ℕ × DigestSet) (es : List (List ℕ × DigestSet)) → test e.0 ≡ false
      → (path : List ℕ) → Among (e ∷ es) path → IsTrue (test path) → Among es path
  none_more e es fails path m passes =
      elim (or_cases (eq_by_cmp path_cmp path e.0)
      (list_any (eq_by_cmp path_cmp path) (map (λ e. e.0) es)) m) [
        | inl s ↦ absurd (true≢false (sym passes ∙ ap test (same_path path e.0 s) ∙ fails))
        | inr r ↦ r
      ]

  found_first : (es : List (List ℕ × DigestSet)) → T (is_sorted path_cmp es)
      → MatchOption (find test (map (λ e. e.0) es)) ((path : List ℕ) → Among es path
      → ¬ IsTrue (test path)) (IsFirst test es)
  found_first [] sorted = λ path m passes. cc
  found_first (e ∷ es) sorted = go (test e.0) refl (find test (map (λ e. e.0) es))
      (found_first es (both_hold _ _ sorted).1)
    where
      go : (b : Bool) → test e.0 ≡ b → (found : Option (List ℕ))
          → MatchOption found ((path : List ℕ) → Among es path → ¬ IsTrue (test path))
          (IsFirst test es)
          → MatchOption (cond b (Some e.0) found) ((path : List ℕ) → Among (e ∷ es) path
          → ¬ IsTrue (test path)) (IsFirst test (e ∷ es))
      go true passes found h = record {
        among = or_left _ _ (same_self e.0);
        passes = passes;
        least = λ other m p less.
            elim (or_cases (eq_by_cmp path_cmp other e.0)
            (list_any (eq_by_cmp path_cmp other) (map (λ e. e.0) es)) m) [
              | inl s ↦ let tied = tied_itself nat_list_cmp_total e.0 in let here =
                  subst (λ q. path_cmp q e.0 ≡ Less) (same_path other e.0 s) less in cc
              | inr r ↦ not_below e.0 es other (both_hold _ _ sorted).0 r less
            ];
      }
      go false fails None h = λ path m passes. h path (none_more e es fails path m passes) passes
      go false fails (Some path) h = record {
        among = or_right _ _ h.among;
        passes = h.passes;
        least = λ other m p. h.least other (none_more e es fails other m p) p;
      }

-- what the path with which a rule fails says
abbrev IsFailing : Rule → ArtifactMap → Option (List ℕ) → Type 0
IsFailing rule free found = MatchOption found (HoldsOver rule (Stands free))
    (λ path. (¬ HoldsOver rule (Stands free)) × FailsWith rule (Stands free) path)

disallow_failing : (pattern : List ℕ) (free : ArtifactMap) (found : Option (List ℕ))
    → MatchOption found ((path : List ℕ) → Among (entries free) path
    → ¬ IsTrue (is_match pattern path)) (IsFirst (is_match pattern) (entries free))
    → IsFailing (Disallow pattern) free found
disallow_failing pattern free None h = λ path stands m. h path (sym (contains_key-keys free path)
    ∙ stands) ((is_match-Decides pattern path).1 m)
disallow_failing pattern free (Some path) h =
    let stands : Stands free path = contains_key-keys free path ∙ h.among in
    let m : IsMatch pattern path = (is_match-Decides pattern path).0 h.passes in (
      λ holds. holds path stands m,
      record {
        is_free = stands;
        is_match = m;
        is_least = λ other s n. h.least other
            (sym (contains_key-keys free other) ∙ s) ((is_match-Decides pattern other).1 n);
      },
    )

require_failing : (text : List ℕ) (free : ArtifactMap) (b : Bool) → contains_key free text ≡ b
    → IsFailing (Require text) free (cond b None (Some text))
require_failing text free true e = e
require_failing text free false e = (λ holds. true≢false (sym holds ∙ e), refl)

failing_path-is : (rule : Rule) (free : ArtifactMap) → IsFailing rule free (failing_path rule free)
failing_path-is (Match a b c d e) free = tt
failing_path-is (Create a) free = tt
failing_path-is (Delete a) free = tt
failing_path-is (Modify a) free = tt
failing_path-is (Allow a) free = tt
failing_path-is (Disallow pattern) free =
    disallow_failing pattern free (find (is_match pattern) (keys free))
    (found_first (is_match pattern) (entries free) (entries_sorted free))
failing_path-is (Require text) free = require_failing text free (contains_key free text) refl

kept : {P : Type 0} (b : Bool) (at : Option DigestSet) → Decides b P
    → IsTrue (is_some (cond (not b) at None)) ↔ (IsTrue (is_some at) × ¬ P)
kept true at d = (λ e. absurd (true≢false (sym e)), λ h. absurd (h.1 (d.0 refl)))
kept false at d = (λ e. (e, not_from_Decides false d refl), λ h. h.0)

module _ (side : Side) (item : Recorded) (links : Links) where
  -- the paths that a rule leaves
  left_free : (rule : Rule) (free : ArtifactMap) (path : List ℕ)
      → Stands (retain_keys free (λ p. not (is_claim rule side item links p))) path
      ↔ (Stands free path × ¬ Claims rule side item links path)
  left_free rule free path =
      let left = retain_keys free (λ p. not (is_claim rule side item links p)) in
      let at : get left path ≡ cond (not (is_claim rule side item links path))
      (get free path) None =
      get-retain_keys free (λ p. not (is_claim rule side item links p)) path
      (λ x e. ap (λ p. not (is_claim rule side item links p))
      (sym (slice_cmp-IsAntisymmetric nat_cmp-IsAntisymmetric path x e))) in
      rw at (kept (is_claim rule side item links path) (get free path)
      (is_claim-Decides rule side item links path))

  module _ (rules : List Rule) where
    abbrev IsAnswer : Option (ℕ × List ℕ) → Type 0
    IsAnswer fault = MatchOption fault (RulesHold rules side item links)
        (λ f. IsFirstFault rules side item links f.0 f.1)

    step : (index : ℕ) (free : ArtifactMap) (rule : Rule) (found : Option (List ℕ))
        (later : Option (ℕ × List ℕ)) → Running rules side item links (Stands free) index
        → slice_get rules index ≡ Some rule → IsFailing rule free found
        → (HoldsOver rule (Stands free) → IsAnswer later) → IsAnswer (fault_or found index later)
    step index free rule None later running here holds go_on = go_on holds
    step index free rule (Some path) later running here fails go_on =
        first_fault rules side item links (Stands free) index rule path running here fails.0 fails.1

    fault_from-is : (index : ℕ) (free : ArtifactMap) (left : List Rule) → drop index rules ≡ left
        → Running rules side item links (Stands free) index
        → IsAnswer (fault_from side item links index free left)
    fault_from-is index free [] e running =
        all_run rules side item links (Stands free) index running
        (omega (arith, length-drop index rules, ap length e))
    fault_from-is index free (rule ∷ left) e running =
        let within : index < length rules = omega (arith, length-drop index rules, ap length e) in
        let at : get_or rules (index + 0) rule ≡ rule = sym (get_or-drop index rules 0 rule)
        ∙ ap (λ l. get_or l 0 rule) e in
        let here : slice_get rules index ≡ Some rule = slice_get-get_or rules index rule within
        ∙ ap Some (ap (λ i. get_or rules i rule) (omega arith) ∙ at) in
        let rest : drop (index + 1) rules ≡ left = sym (drop-drop 1 index rules) ∙ ap (drop 1) e in
        let left_over = retain_keys free (λ path. not (is_claim rule side item links path)) in
        step index free rule (failing_path rule free)
        (fault_from side item links (index + 1) left_over left) running here
        (failing_path-is rule free)
        (λ holds. fault_from-is (index + 1) left_over left rest
        (one_more rules side item links (Stands free) (Stands left_over) index rule running here
        holds (left_free rule free)))

    begins : Running rules side item links (Stands (artifacts_on side item)) 0
    begins = record {
      free = λ path. (
        λ s. record { stands = s; unclaimed = λ j rule less. absurd (omega arith) },
        λ f. f.stands,
      );
      hold = λ j less. absurd (omega arith);
    }

    -- what is answered is the first fault, or that there is none
    pub fault_of-is : IsAnswer (fault_of rules side item links)
    unfolding fault_of
    fault_of-is = fault_from-is 0 (artifacts_on side item) rules refl begins
