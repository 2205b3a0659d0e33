-- Marks that rules set, the last rule first and place by place.
use Rattle.std.proofs.Common.{◌≡◌, ◌≢◌, ◌∙◌, ◌↔◌, inl, inr, ℕ, ◌+◌, ◌<◌, ◌≤◌, List, length, set}
use Rattle.std.proofs.Common.{get_or-set_same, get_or-set_other, Bool, false, IsTrue, [], ◌∷◌}
use Rattle.std.proofs.Common.{Some, Bor, sym, ap, subst, refl, arith}
use Rattle.std.specs.List.{slice_get}
use Rattle.std.proofs.lemmas.Bool.{cases_lt, cases_Bool, false≢true}
use Rattle.it_docs.specs.declared.rule.Rule.{Rule}
use Rattle.it_docs.specs.declared.rule.Side.TheVariants.{Products}
use Rattle.it_docs.specs.declared.step.Step.{Step}
use Rattle.it_rules.specs.Item.{Links, Recorded}
use Rattle.it_rules.specs.Marks.{AreLeft, is_marked}
use Rattle.it_rules.specs.Paths.{ArePathsOf}
use Rattle.it_rules.specs.Ranges.{Covers}
use Rattle.it_rules.specs.Rules.{Claims}
use Rattle.it_rules.proofs.Listed.{same_place}
use Rattle.it_ties.specs.Ties.{AreUntied, IsTied, Ties}
use Rattle.it_ties.specs.inside.Marking.{AreMarkedBy, AreTied, IsMarkedBy}
use Rattle.it_ties.proofs.Tied.{first_ties, later_ties, none_ties, tied_by_first, tied_later}

module _ (steps : List Step) (item : Recorded) (links : Links) (paths : List (Bor (List ℕ))) where
  module _ (rule : Rule) (before : List Bool) where
    abbrev IsClaimed : List ℕ → Type 0
    IsClaimed path = Claims rule Products item links path

    -- the marks before a place are those that the rule makes, and from the place on those before it
    pub record Marking (marks : List Bool) (place : ℕ) : Type 0 where
      pub done : (i : ℕ) (path : Bor (List ℕ)) → i < place → slice_get paths i ≡ Some path
          → IsMarkedBy steps rule item links path.now (is_marked before i) (is_marked marks i)
      pub to_come : (i : ℕ) → place ≤ i → is_marked marks i ≡ is_marked before i

    pub begins : (start end : ℕ) → Covers IsClaimed paths start end → Marking before start
    begins start end range = record {
      done = λ i path below here. inr (
        λ claimed. let at = range.covers i path here claimed in omega arith,
        refl,
      );
      to_come = λ i past. refl;
    }

    module _ (marks : List Bool) (place : ℕ) (path : Bor (List ℕ))
        (here : slice_get paths place ≡ Some path) (so_far : Marking marks place) where
      -- the rule does not claim the path at the place
      pub left_as_is : ¬ IsClaimed path.now → Marking marks (place + 1)
      left_as_is unclaimed = record {
        done = λ i other below there. elim (cases_lt i place) [
          | inl earlier ↦ so_far.done i other earlier there
          | inr g ↦
              let same : place ≡ i = omega arith in
              inr (
                subst (λ (p : Bor (List ℕ)). ¬ IsClaimed p.now)
                    (same_place paths here there same) unclaimed,
                so_far.to_come i g,
              )
        ];
        to_come = λ i past. so_far.to_come i (omega arith);
      }

      -- it claims it
      pub marked : (mark : Bool) → place < length marks → IsClaimed path.now
          → (IsTrue mark ↔ Ties steps rule) → Marking (set marks place mark) (place + 1)
      marked mark within claimed ties = record {
        done = λ i other below there. elim (cases_lt i place) [
          | inl earlier ↦ let apart : i ≢ place = omega arith in
              rw (get_or-set_other marks place i mark false apart) (so_far.done i other earlier there)
          | inr g ↦
              let same : place ≡ i = omega arith in
              let now_marked : is_marked (set marks place mark) i ≡ mark =
              ap (is_marked (set marks place mark)) (sym same)
              ∙ get_or-set_same marks place mark false within in
              inl (
                subst (λ (p : Bor (List ℕ)). IsClaimed p.now)
                    (same_place paths here there same) claimed,
                subst (λ b. IsTrue b ↔ Ties steps rule) (sym now_marked) ties,
              )
        ];
        to_come = λ i past. let apart : i ≢ place = omega arith in
            get_or-set_other marks place i mark false apart ∙ so_far.to_come i (omega arith);
      }

    -- past the range every mark is the one that the rule makes
    pub all_marked : (marks : List Bool) (place start end : ℕ) → Covers IsClaimed paths start end
        → end ≤ place → Marking marks place
        → AreMarkedBy steps rule item links paths before marks
    all_marked marks place start end range past so_far = λ i path here. elim (cases_lt i place) [
      | inl earlier ↦ so_far.done i path earlier here
      | inr g ↦ inr (
        λ claimed. let at = range.covers i path here claimed in omega arith,
        so_far.to_come i g,
      )
    ]

  -- no rule marks
  pub unmarked_by_none : (marks : List Bool) → ((i : ℕ) → is_marked marks i ≡ false)
      → AreTied steps [] item links paths marks
  unmarked_by_none marks none = λ i path here. (
    λ t. absurd (false≢true (sym (none i) ∙ t)),
    λ tied. absurd (none_ties steps item links path.now tied),
  )

  -- the rule marks before later ones
  pub tied_before : (rule : Rule) (later : List Rule) (old new : List Bool)
      → ArePathsOf item.products paths → AreTied steps later item links paths old
      → AreMarkedBy steps rule item links paths old new
      → AreTied steps (rule ∷ later) item links paths new
  tied_before rule later old new are tied_later_on marked_by = λ i path here.
      elim (marked_by i path here) [
        | inl (claimed, ties) ↦ (
          λ t. first_ties steps item links path.now rule later claimed
              ((are.whole path.now).0 (record {
                place = i;
                lent = path;
                stands = here;
                is_path = refl;
              })) (ties.0 t),
          λ tied. ties.1 (tied_by_first steps item links path.now rule later claimed tied),
        )
        | inr (unclaimed, kept) ↦ (
          λ t. later_ties steps item links path.now rule later unclaimed
              ((tied_later_on i path here).0 (sym kept ∙ t)),
          λ tied. kept ∙ (tied_later_on i path here).1
              (tied_later steps item links path.now rule later unclaimed tied),
        )
      ]

  -- what has no mark is not tied
  pub untied : (rules : List Rule) (marks : List Bool) (left : List (List ℕ))
      → ArePathsOf item.products paths → AreTied steps rules item links paths marks
      → AreLeft paths marks left → AreUntied steps rules item links left
  untied rules marks left are tied rest = record {
    in_order = rest.in_order;
    exact = λ path. (
      λ within. let one = (rest.exact path).0 within in (
        (are.whole path).0 one.listed,
        λ is_tied. false≢true (sym one.unmarked
            ∙ (tied one.listed.place one.listed.lent one.listed.stands).1
            (subst (IsTied steps rules item links) (sym one.listed.is_path) is_tied)),
      ),
      λ h. let listed = (are.whole path).1 h.0 in (rest.exact path).1 (record {
        listed = listed;
        unmarked = elim (cases_Bool (is_marked marks listed.place)) [
          | inl is ↦ absurd (h.1 (subst (IsTied steps rules item links) listed.is_path
              ((tied listed.place listed.lent listed.stands).0 is)))
          | inr is ↦ is
        ];
      }),
    );
  }
