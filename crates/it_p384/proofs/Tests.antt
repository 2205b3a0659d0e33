-- What a test says of the numbers that it compares.
use Rattle.std.proofs.Common.{◌≡◌, ℕ, ◌<◌, Bool, true, false, not, nat_eq, arith}
use Rattle.std.proofs.lemmas.Bool.Decides.{nat_tests}

pub same_of : (a b : ℕ) (t : Bool) → t ≡ nat_eq a b → t ≡ true → a ≡ b
same_of a b t e h = grind (arith, nat_tests)

pub same_test : (a b : ℕ) (t : Bool) → t ≡ nat_eq a b → a ≡ b → t ≡ true
same_test a b t e h = grind (arith, nat_tests)

pub some_of : (n : ℕ) (t : Bool) → t ≡ nat_eq n 0 → t ≡ false → 0 < n
some_of n t e h = grind (arith, nat_tests)

pub clash : (t : Bool) → t ≡ true → t ≡ false → false ≡ true
clash t e h = cc

pub not_false : (b : Bool) → not b ≡ false → b ≡ true
not_false true h = cc
not_false false h = cc
