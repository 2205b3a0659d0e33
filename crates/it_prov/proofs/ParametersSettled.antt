-- Parameters are those that are expected, or they are not.
use Rattle.std.proofs.Common.{◌≡◌, ℕ, List, Option, Some, None, inl, inr, Contains, IsTrue, refl}
use Rattle.std.proofs.Common.{sym, subst, ◌∙◌}
use Rattle.std.specs.Set.{is_member}
use Rattle.std.specs.Str.{bytes_eq}
use Rattle.std.proofs.lemmas.Map.Made.{is_member-Decides}
use Rattle.std.proofs.lemmas.Option.{same_Some}
use Rattle.std.proofs.lemmas.Slice.Eq.{bytes_eq-Decides}
use Rattle.it_base.proofs.Settled.{Settled, settled_by, every_or_not}
use Rattle.it_base.specs.Equal.{equal}
use Rattle.it_base.specs.Json.{Json, Fields}
use Rattle.it_base.specs.TreeOf.{field_at}
use Rattle.it_docs.specs.declared.policy.Expectation.{Expectation}
use Rattle.it_prov.specs.inside.Judged.{MayStand}
use Rattle.it_prov.specs.Meets.{ParametersMeet, StandsEqual}
use Rattle.it_prov.proofs.Trees.{named, names_in}

-- ---- what holds of every field
module _ (P : List ℕ → Json → Type 0) (each : (name : List ℕ) (tree : Json)
    → Settled (P name tree)) where
  at_name : (name : List ℕ) (found : Option Json) → Settled ((tree : Json) → found ≡ Some tree
      → P name tree)
  at_name name None = inl (λ tree e. cc)
  at_name name (Some t) =
      elim (each name t) [
        | inl p ↦ inl (λ tree e. subst (P name) (same_Some t tree e) p)
        | inr n ↦ inr (λ all. n (all t refl))
      ]

  every_field : (fields : Fields)
      → Settled ((name : List ℕ) (tree : Json) → field_at name fields ≡ Some tree → P name tree)
  every_field fields = elim (every_or_not (λ name. (tree : Json) → field_at name fields ≡ Some tree
      → P name tree) (λ name. at_name name (field_at name fields)) (names_in fields)) [
        | inl all ↦ inl (λ name tree e. all name (named name tree fields e) tree e)
        | inr n ↦ inr (λ all. n (λ name c tree e. all name tree e))
      ]

-- ---- the parameters
stands_or_not : (fields : Fields) (name : List ℕ) (expected : Json)
    → Settled (StandsEqual fields name expected)
stands_or_not fields name expected = go (field_at name fields) refl
  where
    go : (found : Option Json) → field_at name fields ≡ found
        → Settled (StandsEqual fields name expected)
    go None e = inr (λ s. let none : ◌≡◌ {A = Option Json} None (Some s.given) = sym e ∙ s.stands in
        cc)
    go (Some given) e = elim (settled_by {P = IsTrue (equal given expected)} (equal given expected)
        (λ h. h, λ h. h)) [
          | inl same ↦ inl (record { given = given; stands = e; is_equal = same })
          | inr other ↦ inr (λ s. other
              (subst (λ t. IsTrue (equal t expected)) (same_Some s.given given (sym s.stands ∙ e))
              s.is_equal))
        ]

may_stand_or_not : (expectation : Expectation) (name : List ℕ) → Settled (MayStand expectation name)
may_stand_or_not expectation name = go (field_at name expectation.parameters)
  where
    go : (found : Option Json) → Settled (found ≡ None → Contains expectation.ignore name)
    go (Some t) = inl (λ e. cc)
    go None = elim (settled_by (is_member bytes_eq expectation.ignore name)
        (is_member-Decides bytes_eq-Decides expectation.ignore name)) [
          | inl c ↦ inl (λ e. c)
          | inr n ↦ inr (λ h. n (h refl))
        ]

pub parameters_meet_or_not : (expectation : Expectation) (parameters : Fields)
    → Settled (ParametersMeet expectation parameters)
parameters_meet_or_not expectation parameters =
    elim (every_field (StandsEqual parameters) (stands_or_not parameters) expectation.parameters) [
      | inr n ↦ inr (λ m. n m.expected_stand)
      | inl stand ↦ elim (every_field (λ name given. MayStand expectation name)
          (λ name given. may_stand_or_not expectation name) parameters) [
            | inl ignored ↦ inl (record { expected_stand = stand; others_ignored = ignored })
            | inr n ↦ inr (λ m. n m.others_ignored)
          ]
    ]
