-- The order of texts, and where an order is least.
use Rattle.std.proofs.Common.{◌≡◌, ◌≢◌, ℕ, List, Ordering, Less, Equal, Greater, Bool, true, false}
use Rattle.std.proofs.Common.{nat_cmp, refl, sym, ap, ◌∙◌}
use Rattle.std.specs.Cmp.Lexicographic.{slice_cmp, nat_list_cmp_total}
use Rattle.std.specs.FinMap.{slice_cmp-IsAntisymmetric, nat_cmp-IsAntisymmetric}
use Rattle.std.specs.Ordering.{ordering_reverse}
use Rattle.std.specs.Str.{bytes_eq}
use Rattle.std.proofs.lemmas.Slice.Eq.{bytes_eq-Decides}
use Rattle.it_chain.specs.First.{IsBefore}

by_order : (a b : List ℕ) (o : Ordering) → slice_cmp nat_cmp a b ≡ o → ¬ IsBefore a b
    → ¬ IsBefore b a → a ≡ b
by_order a b Less e h k = absurd (h e)
by_order a b Equal e h k = slice_cmp-IsAntisymmetric nat_cmp-IsAntisymmetric a b e
by_order a b Greater e h k = absurd (k (nat_list_cmp_total.antisymm b a ∙ ap ordering_reverse e))

-- of two texts neither of which is before the other there is one
pub neither_before : (a b : List ℕ) → ¬ IsBefore a b → ¬ IsBefore b a → a ≡ b
neither_before a b = by_order a b (slice_cmp nat_cmp a b) refl

by_test : (a b : List ℕ) (r : Bool) → bytes_eq a b ≡ r → ¬ (a ≢ b) → a ≡ b
by_test a b true e h = (bytes_eq-Decides a b).0 e
by_test a b false e h = absurd
    (h (λ same. let no : false ≡ true = sym e ∙ (bytes_eq-Decides a b).1 same in cc))

-- texts that are not different are equal
pub not_different : (a b : List ℕ) → ¬ (a ≢ b) → a ≡ b
not_different a b = by_test a b (bytes_eq a b) refl

-- of two texts one at most is before the other
pub one_before : (a b : List ℕ) → IsBefore a b → ¬ IsBefore b a
one_before a b h k =
    let turned : Less ≡ Greater = sym k ∙ nat_list_cmp_total.antisymm b a ∙ ap ordering_reverse h in
    cc
