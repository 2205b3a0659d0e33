-- Marks that are set place by place.
use Rattle.std.proofs.Common.{◌≡◌, ◌≢◌, ◌∙◌, ◌↔◌, inl, inr, ℕ, ◌+◌, ◌<◌, ◌≤◌, List, length, set}
use Rattle.std.proofs.Common.{get_or-set_same, get_or-set_other, Bool, true, false, true≢false}
use Rattle.std.proofs.Common.{Some, Bor, sym, ap, subst, refl, arith}
use Rattle.std.specs.List.{slice_get}
use Rattle.std.proofs.lemmas.Bool.{cases_lt}
use Rattle.it_rules.proofs.Listed.{same_place}
use Rattle.it_rules.specs.Ranges.{Covers}
use Rattle.it_rules.specs.Marks.{IsLeft, is_marked}

-- the marks before a place are those after the rule, and from the place on those before it
pub record Marking (IsClaimed : List ℕ → Type 0) (paths : List (Bor (List ℕ)))
    (before marks : List Bool) (place : ℕ) : Type 0 where
  pub done : (i : ℕ) (path : Bor (List ℕ)) → i < place → slice_get paths i ≡ Some path
      → (is_marked marks i ≡ false) ↔ ((is_marked before i ≡ false) × ¬ IsClaimed path.now)
  pub to_come : (i : ℕ) → place ≤ i → is_marked marks i ≡ is_marked before i

module _ (IsClaimed : List ℕ → Type 0) (paths : List (Bor (List ℕ))) (before : List Bool) where
  pub begins : (start end : ℕ) → Covers IsClaimed paths start end
      → Marking IsClaimed paths before before start
  begins start end range = record {
    done = λ i path l here. (
      λ u. (
        u,
        λ claimed. let at = range.covers i path here claimed in
            omega arith,
      ),
      λ h. h.0,
    );
    to_come = λ i l. refl;
  }

  -- the place needs no new mark
  pub left_as_is : (marks : List Bool) (place : ℕ) (path : Bor (List ℕ))
      → slice_get paths place ≡ Some path → (is_marked marks place ≡ false → ¬ IsClaimed path.now)
      → Marking IsClaimed paths before marks place
      → Marking IsClaimed paths before marks (place + 1)
  left_as_is marks place path here unclaimed h = record {
    done = λ i other l there. elim (cases_lt i place) [
      | inl below ↦ h.done i other below there
      | inr g ↦
          let same : place ≡ i = omega arith in
          let one : path ≡ other = same_place paths here there same in
          let was : is_marked marks i ≡ is_marked before i = h.to_come i g in (
            λ u. (
              sym was ∙ u,
              subst (λ p. ¬ IsClaimed p.now) one
                  (unclaimed (ap (is_marked marks) same ∙ u)),
            ),
            λ p. was ∙ p.0,
          )
    ];
    to_come = λ i l. h.to_come i (omega arith);
  }

  -- the place gets a mark
  pub marked : (marks : List Bool) (place : ℕ) (path : Bor (List ℕ)) → place < length marks
      → slice_get paths place ≡ Some path → IsClaimed path.now
      → Marking IsClaimed paths before marks place
      → Marking IsClaimed paths before (set marks place true) (place + 1)
  marked marks place path within here claimed h = record {
    done = λ i other l there. elim (cases_lt i place) [
      | inl below ↦ let apart : i ≢ place = omega arith in
          rw (get_or-set_other marks place i true false apart) (h.done i other below there)
      | inr g ↦
          let same : place ≡ i = omega arith in
          let one : path ≡ other = same_place paths here there same in
          let now_marked : is_marked (set marks place true) i ≡ true =
          ap (is_marked (set marks place true)) (sym same)
          ∙ get_or-set_same marks place true false within in (
            λ u. absurd (true≢false (sym now_marked ∙ u)),
            λ p. absurd (p.1 (subst (λ p. IsClaimed p.now) one claimed)),
          )
    ];
    to_come = λ i l. let apart : i ≢ place = omega arith in
        get_or-set_other marks place i true false apart ∙ h.to_come i (omega arith);
  }

  module _ (marks : List Bool) (place start end : ℕ) (range : Covers IsClaimed paths start end)
      (past : end ≤ place) (h : Marking IsClaimed paths before marks place) where
    at_place : (i : ℕ) (path : Bor (List ℕ)) → slice_get paths i ≡ Some path
        → (is_marked marks i ≡ false) ↔ ((is_marked before i ≡ false) × ¬ IsClaimed path.now)
    at_place i path here = elim (cases_lt i place) [
      | inl below ↦ h.done i path below here
      | inr g ↦ (
        λ u. (
          sym (h.to_come i g) ∙ u,
          λ claimed. let at = range.covers i path here
              claimed in omega arith,
        ),
        λ p. h.to_come i g ∙ p.0,
      )
    ]

    -- past the range every place is as after the rule
    pub all_marked : (path : List ℕ) → IsLeft paths marks path
        ↔ (IsLeft paths before path × ¬ IsClaimed path)
    all_marked path = (
      λ l. let a = (at_place l.listed.place l.listed.lent l.listed.stands).0 l.unmarked in (
        record { listed = l.listed; unmarked = a.0 },
        subst (λ p. ¬ IsClaimed p) l.listed.is_path
            a.1,
      ),
      λ p. let l = p.0.listed in record {
        listed = l;
        unmarked = (at_place l.place l.lent l.stands).1
            (p.0.unmarked, subst (λ q. ¬ IsClaimed q) (sym l.is_path) p.1);
      },
    )
