-- Elements of lists whose names differ.
use Rattle.std.proofs.Common.{◌≡◌, ◌≢◌, ◌∙◌, ℕ, suc, List, [], ◌∷◌, ◌++◌, Contains, map, inl, inr}
use Rattle.std.proofs.Common.{ap, arith, subst, sym}
use Rattle.std.specs.List.{AllPairs}
use Rattle.it_base.proofs.Members.{in_cases, in_head, in_none, in_tail}

-- no two of the names are the same
abbrev pub Differ : List (List ℕ) → Type 0
Differ names = AllPairs (λ a b. a ≢ b) names

differ_rest : (n : List ℕ) (ns : List (List ℕ)) → Differ (n ∷ ns) → Differ ns
differ_rest n ns h i j d less below =
    h (suc i) (suc j) d (omega (arith, less)) (omega (arith, below))

differ_first : (n : List ℕ) (ns : List (List ℕ)) → Differ (n ∷ ns) → (m : List ℕ)
    → Contains ns m → n ≢ m
differ_first n ns h m c same =
    h 0 (suc c.0) m (omega arith) (omega (arith, c.1)) (same ∙ sym c.2)

pub differ_back : (xs ys : List (List ℕ)) → Differ (xs ++ ys) → Differ ys
differ_back [] ys h = h
differ_back (x ∷ xs) ys h = differ_back xs ys (differ_rest x (xs ++ ys) h)

module _ {X : Type 0} (name : X → List ℕ) (more : List (List ℕ)) where
  name_in : (xs : List X) (x : X) → Contains xs x → Contains (map name xs ++ more) (name x)
  name_in [] x c = absurd (in_none x c)
  name_in (y ∷ xs) x c = elim (in_cases y xs x c) [
    | inl same ↦ subst (Contains (name y ∷ map name xs ++ more)) (ap name same)
        (in_head (name y) (map name xs ++ more))
    | inr later ↦ in_tail (name y) (map name xs ++ more) (name x) (name_in xs x later)
  ]

  -- where the names differ, one name is that of one element
  pub one_named : (xs : List X) → Differ (map name xs ++ more) → (x y : X) → Contains xs x
      → Contains xs y → name x ≡ name y → x ≡ y
  one_named [] h x y c d same = absurd (in_none x c)
  one_named (z ∷ xs) h x y c d same =
      let rest = map name xs ++ more in
      elim (in_cases z xs x c) [
        | inl here ↦ elim (in_cases z xs y d) [
          | inl there ↦ sym here ∙ there
          | inr later ↦ absurd (differ_first (name z) rest h (name y) (name_in xs y later)
              (ap name here ∙ same))
        ]
        | inr later ↦ elim (in_cases z xs y d) [
          | inl there ↦ absurd (differ_first (name z) rest h (name x) (name_in xs x later)
              (ap name there ∙ sym same))
          | inr behind ↦ one_named xs (differ_rest (name z) rest h) x y later behind same
        ]
      ]
