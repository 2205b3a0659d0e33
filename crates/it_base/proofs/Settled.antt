-- What holds or does not, with a proof either way.
use Rattle.std.proofs.Common.{◌⊎◌, List, [], ◌∷◌, Bool, true, false, inl, inr, Contains}
use Rattle.std.proofs.Common.{Decides, refl, sym, subst}
use Rattle.std.proofs.lemmas.Bool.Decides.{not_from_Decides}
use Rattle.it_base.proofs.Members.{in_head, in_tail, in_cases, in_none}

-- it holds, or it does not
abbrev pub Settled : Type 0 → Type 0
Settled P = P ⊎ ¬ P

pub settled_by : {P : Type 0} (b : Bool) → Decides b P → Settled P
settled_by true d = inl (d.0 refl)
settled_by false d = inr (not_from_Decides false d refl)

pub settled_both : {P Q : Type 0} → Settled P → Settled Q → Settled (P × Q)
settled_both (inl p) (inl q) = inl (p, q)
settled_both (inl p) (inr n) = inr (λ h. n h.1)
settled_both (inr n) q = inr (λ h. n h.0)

module _ {X : Type 0} (P : X → Type 0) (each : (x : X) → Settled (P x)) where
  -- it holds of an element, or of none
  pub some_or_none : (xs : List X) → ((x : X) × Contains xs x × P x)
      ⊎ ((x : X) → Contains xs x → ¬ P x)
  some_or_none [] = inr (λ x c. absurd (in_none x c))
  some_or_none (x ∷ xs) = elim (each x) [
    | inl p ↦ inl (x, in_head x xs, p)
    | inr n ↦ elim (some_or_none xs) [
      | inl s ↦ inl (s.0, in_tail x xs s.0 s.1, s.2)
      | inr none ↦ inr (λ y c p. elim (in_cases x xs y c) [
        | inl same ↦ n (subst P (sym same) p)
        | inr later ↦ none y later p
      ])
    ]
  ]

  -- it holds of every element, or it does not
  pub every_or_not : (xs : List X) → Settled ((x : X) → Contains xs x → P x)
  every_or_not [] = inl (λ x c. absurd (in_none x c))
  every_or_not (x ∷ xs) = elim (each x) [
    | inl p ↦ elim (every_or_not xs) [
      | inl all ↦ inl (λ y c. elim (in_cases x xs y c) [
        | inl same ↦ subst P same p
        | inr later ↦ all y later
      ])
      | inr n ↦ inr (λ all. n (λ y c. all y (in_tail x xs y c)))
    ]
    | inr n ↦ inr (λ all. n (all x (in_head x xs)))
  ]
