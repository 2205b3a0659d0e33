-- Sums: that there is one, and no more than one.
use Rattle.std.proofs.Common.{◌≡◌, ℕ, ◌+◌, List, [], ◌∷◌, Option, None, Some, inl, inr, ⊎_elim}
use Rattle.std.proofs.Common.{refl, sym, subst, arith, ◌∙◌}
use Rattle.it_base.specs.Finds.{Finds}
use Rattle.it_base.specs.Sum.{CostsIfFound, IsSum}

-- each thing costs one number
abbrev pub IsOne : {X : Type 0} → (X → ℕ → Type 0) → Type 0
IsOne {X} Cost = (x : X) (m n : ℕ) → Cost x m → Cost x n → m ≡ n

pub one_if_found : {X : Type 0} (Is : X → Type 0) (Cost : X → ℕ → Type 0)
    → ((x y : X) → Is x → Is y → x ≡ y) → IsOne Cost → (m n : ℕ) → CostsIfFound Is Cost m
    → CostsIfFound Is Cost n → m ≡ n
one_if_found Is Cost same one m n h k = ⊎_elim
    (λ x. ⊎_elim (λ y. one x.0 m n x.2 (subst (λ z. Cost z n) (same y.0 x.0 y.1 x.1) y.2))
    (λ none. absurd (none.0 x.0 x.1)) k)
    (λ none. ⊎_elim (λ y. absurd (none.0 y.0 y.1)) (λ also. none.1 ∙ sym also.1) k) h

module _ {X : Type 0} (Cost : X → ℕ → Type 0) (one : IsOne Cost) where
  pub one_sum : IsOne (IsSum Cost)
  one_sum [] m n h k = h ∙ sym k
  one_sum (x ∷ xs) m n h k =
      let first = one x h.0 k.0 h.2 k.2 in
      let others = one_sum xs h.1 k.1 h.3 k.3 in
      omega (arith, first, others, h.4, k.4)

pub some_sum : {X : Type 0} (Cost : X → ℕ → Type 0) → ((x : X) → (n : ℕ) × Cost x n) → (xs : List X)
    → (n : ℕ) × IsSum Cost xs n
some_sum Cost each [] = (0, refl)
some_sum Cost each (x ∷ xs) = let first = each x in let others = some_sum Cost each xs in
    (first.0 + others.0, (first.0, others.0, first.1, others.1, refl))

pub some_if_found : {X : Type 0} (Is : X → Type 0) (Cost : X → ℕ → Type 0)
    → ((x : X) → (n : ℕ) × Cost x n) → (found : Option X) → Finds Is found → (n : ℕ)
    × CostsIfFound Is Cost n
some_if_found Is Cost each None none = (0, inr (none, refl))
some_if_found Is Cost each (Some x) is = let cost = each x in (cost.0, inl (x, is, cost.1))
