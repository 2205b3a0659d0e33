-- Paths in the order of their bytes, and those among them that begin with a front.
use Rattle.std.proofs.Common.{◌≡◌, ◌≢◌, inl, inr, ℕ, ◌<◌, ◌≤◌, List, [], ◌∷◌, ◌++◌, length, drop}
use Rattle.std.proofs.Common.{get_or, true, false, eqb, Some, Bor, Ordering, Less, Equal, Greater}
use Rattle.std.proofs.Common.{nat_cmp, true≢false, arith, refl, sym, ap, subst, ◌∙◌}
use Rattle.std.specs.List.{slice_get, starts_with}
use Rattle.std.specs.List.Sorted.{IsPartitionedBy, IsPartitionPoint}
use Rattle.std.specs.Ordering.{is_lt, ordering_then}
use Rattle.std.proofs.lemmas.Bool.{cases_lt, or_cases, or_left, or_right}
use Rattle.std.proofs.lemmas.Bool.Decides.{Decides-eqb}
use Rattle.std.proofs.lemmas.Cmp.{nat_cmp_total, nat_list_cmp_total, ranked, tied_itself}
use Rattle.std.proofs.lemmas.Option.{get_or_from_slice_get}
use Rattle.std.proofs.lemmas.Slice.Eq.{starts_is}
use Rattle.it_glob.specs.Pattern.{BeginsWith}
use Rattle.it_rules.specs.Ranges.{AreInOrder, IsFrontRange}
use Rattle.it_rules.specs.inside.FrontOrder.{is_before, is_reached}
use Rattle.it_rules.proofs.Listed.{slice_get_within}
use Rattle.it_rules.proofs.PathOrder.{path_cmp}

-- what begins with a front is not below it
pub not_below_front : (front rest : List ℕ) → path_cmp (front ++ rest) front ≢ Less
not_below_front [] [] less = cc less
not_below_front [] (x ∷ rest) less = cc less
not_below_front (c ∷ front) rest less =
    not_below_front front rest (subst (λ o. ordering_then o (path_cmp (front ++ rest) front) ≡ Less)
    (tied_itself nat_cmp_total c) less)

-- what stands between a front and a text that begins with it begins with it too
begins_between : (front path later : List ℕ) → path_cmp path front ≢ Less
    → path_cmp path later ≡ Less → BeginsWith later front → BeginsWith path front
begins_between [] path later above below begins = (path, refl)
begins_between (c ∷ front) [] later above below begins = absurd (above refl)
begins_between (c ∷ front) (d ∷ path) [] above below begins = cc (begins.1)
begins_between (c ∷ front) (d ∷ path) (b ∷ later) above below (rest, e) =
    let one : b ≡ c = cc in
    let others : later ≡ front ++ rest = cc in
    go (nat_cmp d c) refl above
    (subst (λ n. ordering_then (nat_cmp d n) (path_cmp path later) ≡ Less) one below)
    (λ a l. begins_between front path later a l (rest, others))
  where
    go : (o : Ordering) → nat_cmp d c ≡ o → ordering_then o (path_cmp path front) ≢ Less
        → ordering_then o (path_cmp path later) ≡ Less
        → (path_cmp path front ≢ Less → path_cmp path later ≡ Less → BeginsWith path front)
        → BeginsWith (d ∷ path) (c ∷ front)
    go Less is a l further = absurd (a refl)
    go Equal is a l further = let same : d ≡ c = ranked d c Equal (sym is) in let f = further a l in
        (f.0, cc (same, f.1))
    go Greater is a l further = cc l

lt_is : (o : Ordering) → is_lt o ≡ true → o ≡ Less
lt_is Less h = refl
lt_is Equal h = cc h
lt_is Greater h = cc h

begins : (path front : List ℕ) → starts_with eqb path front ≡ true → BeginsWith path front
begins path front h = (drop (length front) path, (starts_is Decides-eqb path front _ refl).0 h)

begins_back : (path front : List ℕ) → BeginsWith path front → starts_with eqb path front ≡ true
begins_back path front (rest, e) = (starts_is Decides-eqb path front _ refl).1 rest e

module _ (paths : List (Bor (List ℕ))) (front : List ℕ) (ordered : AreInOrder paths) where
  before_earlier : (path later : Bor (List ℕ)) → path_cmp path.now later.now ≡ Less
      → is_before later.now front ≡ true → is_before path.now front ≡ true
  before_earlier path later below h =
      ap is_lt (nat_list_cmp_total.trans path.now later.now front below
      (lt_is (path_cmp later.now front) h))

  pub before_first : IsPartitionedBy (λ p. is_before p.now front) paths
  before_first i j d le within h = elim (cases_lt i j) [
    | inl l ↦ before_earlier (get_or paths i d) (get_or paths j d) (ordered i j d l within) h
    | inr g ↦ let same : j ≡ i = omega arith in
        subst (λ k. is_before (get_or paths k d).now front ≡ true) same h
  ]

  reached_earlier : (path later : Bor (List ℕ)) → path_cmp path.now later.now ≡ Less
      → is_reached later.now front ≡ true → is_reached path.now front ≡ true
  reached_earlier path later below h =
      elim (or_cases (is_before later.now front) (starts_with eqb later.now front) h) [
        | inl b ↦ or_left (is_before path.now front) (starts_with eqb path.now front)
            (before_earlier path later below b)
        | inr s ↦ go (path_cmp path.now front) refl (begins later.now front s)
      ]
    where
      after : path_cmp path.now front ≢ Less → BeginsWith later.now front
          → is_reached path.now front ≡ true
      after above b = or_right (is_before path.now front) (starts_with eqb path.now front)
          (begins_back path.now front (begins_between front path.now later.now above below b))

      go : (o : Ordering) → path_cmp path.now front ≡ o → BeginsWith later.now front
          → is_reached path.now front ≡ true
      go Less is b = or_left (is_before path.now front) (starts_with eqb path.now front)
          (ap is_lt is)
      go Equal is b = after (λ less. cc (is, less)) b
      go Greater is b = after (λ less. cc (is, less)) b

  pub reached_first : IsPartitionedBy (λ p. is_reached p.now front) paths
  reached_first i j d le within h = elim (cases_lt i j) [
    | inl l ↦ reached_earlier (get_or paths i d) (get_or paths j d) (ordered i j d l within) h
    | inr g ↦ let same : j ≡ i = omega arith in
        subst (λ k. is_reached (get_or paths k d).now front ≡ true) same h
  ]

  -- from the first place that is not before the front to the first that is not reached
  module _ (start end : ℕ) (start_at : IsPartitionPoint (λ p. is_before p.now front ≡ true)
      (λ p. is_before p.now front ≡ false) paths start)
      (end_at : IsPartitionPoint (λ p. is_reached p.now front ≡ true)
      (λ p. is_reached p.now front ≡ false) paths end) where
    at : (i : ℕ) (path : Bor (List ℕ)) → slice_get paths i ≡ Some path → BeginsWith path.now front
        → (start ≤ i) × (i < end)
    at i path here b =
        let same = get_or_from_slice_get paths i path path here in
        let within = slice_get_within paths i path here in (
          elim (cases_lt i start) [
            | inl l ↦
                let before : is_before path.now front ≡ true =
                subst (λ p. is_before p.now front ≡ true) same
                (start_at.0 i path (omega arith) l) in
                absurd (not_below_front front b.0
                (subst (λ t. path_cmp t front ≡ Less) b.1
                (lt_is (path_cmp path.now front) before)))
            | inr g ↦ g
          ],
          elim (cases_lt i end) [
            | inl l ↦ l
            | inr g ↦
                let past : is_reached path.now front ≡ false =
                subst (λ p. is_reached p.now front ≡ false) same (end_at.1 i path g within) in
                absurd (true≢false
                (sym (or_right (is_before path.now front) (starts_with eqb path.now front)
                (begins_back path.now front b)) ∙ past))
          ],
        )

    back : (i : ℕ) (path : Bor (List ℕ)) → slice_get paths i ≡ Some path → (start ≤ i) × (i < end)
        → BeginsWith path.now front
    back i path here (from, to) =
        let same = get_or_from_slice_get paths i path path here in
        let within = slice_get_within paths i path here in
        let past : is_before path.now front ≡ false =
        subst (λ p. is_before p.now front ≡ false) same (start_at.1 i path from within) in
        let reached : is_reached path.now front ≡ true =
        subst (λ p. is_reached p.now front ≡ true) same (end_at.0 i path (omega arith) to) in
        elim (or_cases (is_before path.now front) (starts_with eqb path.now front) reached) [
          | inl h ↦ absurd (true≢false (sym h ∙ past))
          | inr s ↦ begins path.now front s
        ]

    pub front_range-is : start ≤ length paths → end ≤ length paths
        → IsFrontRange paths front start end
    front_range-is start_within end_within = record {
      start_first = elim (cases_lt end start) [
        | inl l ↦
            let path = get_or paths end (record { ref_ptr = (0, 0); now = [] }) in
            let before : is_before path.now front ≡ true = start_at.0 end (record {
              ref_ptr = (0, 0);
              now = [];
            }) (omega arith) l in
            let past : is_reached path.now front ≡ false = end_at.1 end (record {
              ref_ptr = (0, 0);
              now = [];
            }) (omega arith) (omega arith) in
            absurd (true≢false
            (sym (or_left (is_before path.now front) (starts_with eqb path.now front) before)
            ∙ past))
        | inr g ↦ g
      ];
      within = end_within;
      exact = λ i path here. (at i path here, back i path here);
    }
