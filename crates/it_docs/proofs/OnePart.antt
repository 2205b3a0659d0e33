-- A document has one first part that fails at most.
use Rattle.std.proofs.Common.{◌≡◌, ◌≢◌, ◌⊎◌, ℕ, ◌<◌, List, [], ◌∷◌, ◌++◌, get_or, inl, inr, refl}
use Rattle.std.proofs.Common.{sym, ap, subst, ◌∙◌, arith}
use Rattle.std.specs.List.{IsDistinct}
use Rattle.std.specs.Str.{bytes_eq}
use Rattle.std.proofs.lemmas.Slice.Eq.{bytes_eq-Decides}
use Rattle.it_base.proofs.Members.{head_same, tail_same}
use Rattle.it_base.proofs.Settled.{settled_by}
use Rattle.it_docs.specs.FirstPart.{IsFirstPart, Precedes}
use Rattle.it_docs.specs.LayoutPart as layout_part
use Rattle.it_docs.specs.Repeats.{IsFirstRepeat}
use Rattle.it_docs.specs.PolicyPart as policy_part
use Rattle.it_docs.specs.Step.{names_of}
use Rattle.it_docs.specs.declared.layout_fault.LayoutPart.{LayoutPart}
use Rattle.it_docs.specs.declared.layout_fault.LayoutPart.TheVariants as l
use Rattle.it_docs.specs.declared.policy_fault.PolicyPart.{PolicyPart}
use Rattle.it_docs.specs.declared.policy_fault.PolicyPart.TheVariants as p
use Rattle.it_docs.proofs.Refusals.{no_repeat}
use Rattle.it_docs.proofs.Same.{inspections_same, steps_same}

-- ---- the place of the first part that fails
neither_precedes : (x y : ℕ × ℕ) → ¬ Precedes x y → ¬ Precedes y x → x ≡ y
neither_precedes x y h k =
    let row_up : ¬ (x.0 < y.0) = λ less. h (inl less) in
    let row_down : ¬ (y.0 < x.0) = λ less. k (inl less) in
    let row : x.0 ≡ y.0 = omega arith in
    let up : ¬ (x.1 < y.1) = λ less. h (inr (row, less)) in
    let down : ¬ (y.1 < x.1) = λ less. k (inr (sym row, less)) in
    let column : x.1 ≡ y.1 = omega arith in
    λ i. (row i, column i)

same_place : {Part : Type 0} (place : Part → ℕ × ℕ) (Reads : Part → Type 0) (a b : Part)
    → IsFirstPart place Reads a → IsFirstPart place Reads b → place a ≡ place b
same_place place Reads a b h k = neither_precedes (place a) (place b)
    (λ less. h.fails (k.before a less)) (λ less. k.fails (h.before b less))

-- ---- a policy's part, from its place
policy_part_at : ℕ × ℕ → PolicyPart
policy_part_at (row, number) = get_or (p.Json ∷ p.Owners ∷ p.Deliver ∷ p.Expectations ∷ []) row
    (p.Expectation number)

policy_part_again : (part : PolicyPart) → policy_part_at (policy_part.place part) ≡ part
unfolding policy_part_at
policy_part_again p.Json = refl
policy_part_again p.Owners = refl
policy_part_again p.Deliver = refl
policy_part_again p.Expectations = refl
policy_part_again (p.Expectation n) = refl

pub policy_part_one : (bytes : List ℕ) (a b : PolicyPart) → policy_part.PolicyPartOf bytes a
    → policy_part.PolicyPartOf bytes b → a ≡ b
policy_part_one bytes a b h k =
    sym (policy_part_again a)
    ∙ ap policy_part_at (same_place policy_part.place (policy_part.Reads bytes) a b h k)
    ∙ policy_part_again b

-- ---- the first name that repeats
module _ {X : Type 0} where
  -- of two places in a list, they are the same or one is behind the other
  abbrev SameOrBehind : List X → X → List X → X → Type 0
  SameOrBehind f m g n = (m ≡ n) ⊎ (((between : List X) × (g ≡ f ++ m ∷ between))
      ⊎ ((between : List X) × (f ≡ g ++ n ∷ between)))

  same_or_behind : (f g rest more : List X) (m n : X) → f ++ m ∷ rest ≡ g ++ n ∷ more
      → SameOrBehind f m g n
  same_or_behind [] [] rest more m n e = inl (head_same m n rest more e)
  same_or_behind [] (y ∷ g) rest more m n e =
      inr (inl (g, ap (λ x. x ∷ g) (sym (head_same m y rest (g ++ n ∷ more) e))))
  same_or_behind (x ∷ f) [] rest more m n e =
      inr (inr (f, ap (λ y. y ∷ f) (head_same x n (f ++ m ∷ rest) more e)))
  same_or_behind (x ∷ f) (y ∷ g) rest more m n e =
      let first : x ≡ y = head_same x y (f ++ m ∷ rest) (g ++ n ∷ more) e in
      elim (same_or_behind f g rest more m n (tail_same x y (f ++ m ∷ rest) (g ++ n ∷ more) e)) [
        | inl same ↦ inl same
        | inr (inl t) ↦ inr (inl (t.0, λ i. sym first i ∷ t.1 i))
        | inr (inr t) ↦ inr (inr (t.0, λ i. first i ∷ t.1 i))
      ]

repeat_one : (names : List (List ℕ)) (m n : List ℕ) → IsFirstRepeat names m → IsFirstRepeat names n
    → m ≡ n
repeat_one names m n h k =
    elim (same_or_behind h.front k.front h.rest k.rest m n (sym h.names_are ∙ k.names_are)) [
      | inl same ↦ same
      | inr (inl t) ↦ absurd
          (no_repeat m h.front t.0 (subst (IsDistinct bytes_eq) t.1 k.front_differ)
          h.stood_before)
      | inr (inr t) ↦ absurd
          (no_repeat n k.front t.0 (subst (IsDistinct bytes_eq) t.1 h.front_differ)
          k.stood_before)
    ]

-- ---- a layout's part, from its place and the name that repeats
layout_part_at : ℕ × ℕ → List ℕ → LayoutPart
layout_part_at (row, number) name =
    get_or (l.Json ∷ l.WrongType ∷ l.Expires ∷ l.Keys ∷ l.Steps ∷ l.Step number ∷ l.Inspects
    ∷ l.Inspect number ∷ []) row (l.DuplicateName name)

name_in : LayoutPart → List ℕ
name_in (l.DuplicateName name) = name
name_in part = []

layout_part_again : (part : LayoutPart) → layout_part_at (layout_part.place part) (name_in part)
    ≡ part
unfolding layout_part_at name_in
layout_part_again l.Json = refl
layout_part_again l.WrongType = refl
layout_part_again l.Expires = refl
layout_part_again l.Keys = refl
layout_part_again l.Steps = refl
layout_part_again (l.Step n) = refl
layout_part_again l.Inspects = refl
layout_part_again (l.Inspect n) = refl
layout_part_again (l.DuplicateName name) = refl

module _ (bytes : List ℕ) where
  abbrev IsFirst : LayoutPart → Type 0
  IsFirst = layout_part.LayoutPartOf bytes

  name_one : (m n : List ℕ) → IsFirst (l.DuplicateName m) → IsFirst (l.DuplicateName n) → m ≡ n
  name_one m n h k = elim (settled_by (bytes_eq m n) (bytes_eq-Decides m n)) [
    | inl same ↦ same
    | inr differ ↦ absurd (both differ)
  ]
    where
      both : m ≢ n → ⊥
      both differ =
          let found = h.before l.Json (inl (omega arith)) in
          h.fails (
            found.0,
            found.1,
            λ steps inspections are_steps are_inspections repeat.
                k.fails (
                  found.0,
                  found.1,
                  λ others judged are_others are_judged again.
                      let names : names_of others judged ≡ names_of steps inspections =
                      λ i. names_of (steps_same found.0 others steps are_others are_steps i)
                      (inspections_same found.0 judged inspections are_judged are_inspections
                      i) in
                      differ (repeat_one (names_of steps inspections) m n repeat
                      (subst (λ xs. IsFirstRepeat xs n) names again)),
                ),
          )

  by_place : (a b : LayoutPart) → layout_part.place a ≡ layout_part.place b
      → b ≡ layout_part_at (layout_part.place a) (name_in b)
  by_place a b same = sym (layout_part_again b) ∙ ap (λ at. layout_part_at at (name_in b))
      (sym same)

  one_part : (a b : LayoutPart) → layout_part.place a ≡ layout_part.place b → IsFirst a → IsFirst b
      → a ≡ b
  unfolding layout_part_at
  one_part l.Json b same h k = sym (by_place l.Json b same)
  one_part l.WrongType b same h k = sym (by_place l.WrongType b same)
  one_part l.Expires b same h k = sym (by_place l.Expires b same)
  one_part l.Keys b same h k = sym (by_place l.Keys b same)
  one_part l.Steps b same h k = sym (by_place l.Steps b same)
  one_part (l.Step n) b same h k = sym (by_place (l.Step n) b same)
  one_part l.Inspects b same h k = sym (by_place l.Inspects b same)
  one_part (l.Inspect n) b same h k = sym (by_place (l.Inspect n) b same)
  one_part (l.DuplicateName name) b same h k =
      let again : b ≡ l.DuplicateName (name_in b) = by_place (l.DuplicateName name) b same in
      ap l.DuplicateName (name_one name (name_in b) h (subst IsFirst again k)) ∙ sym again

  pub layout_part_one : (a b : LayoutPart) → layout_part.LayoutPartOf bytes a
      → layout_part.LayoutPartOf bytes b → a ≡ b
  layout_part_one a b h k =
      one_part a b (same_place layout_part.place (layout_part.Reads bytes) a b h k) h k
