-- Parts that are taken from the front of bytes.
use Rattle.std.proofs.Common.{◌≡◌, ◌∙◌, ◌<◌, ◌+◌, ℕ, List, [], ◌∷◌, ◌++◌, Bool, true, false, ◌&&◌, ap, refl, sym}
use Rattle.std.proofs.Common.{◌==◌, ◌≤◌, length, drop, take, get_or, nat_eq, arith}
use Rattle.std.specs.Borrow.{Bor}
use Rattle.std.specs.Cmp.Lexicographic.{pointwise}
use Rattle.std.proofs.lemmas.List.{drop_all, drop_more}
use Rattle.std.proofs.lemmas.Bool.Decides.{nat_tests}
use Rattle.it_message.specs.Message.{joined}

later : (a b d : Bool) → (b ≡ false → d ≡ false) → (a && b) ≡ false → (a && d) ≡ false
later true b d h e = h e
later false b d h e = refl

same : (a b d f : Bool) → (b ≡ true → d ≡ f) → (a && b) ≡ true → (a && d) ≡ f
same true b d f h e = h e
same false b d f h e = cc

-- what does not start with a part
not_front : (bytes part more : List ℕ) → pointwise nat_eq (take (length part) bytes) part ≡ false
    → pointwise nat_eq bytes (part ++ more) ≡ false
not_front bytes [] more e = cc
not_front [] (p ∷ part) more e = refl
not_front (b ∷ bytes) (p ∷ part) more e =
    later (nat_eq b p) (pointwise nat_eq (take (length part) bytes) part)
    (pointwise nat_eq bytes (part ++ more)) (not_front bytes part more) e

-- what starts with a part
front : (bytes part more : List ℕ) → pointwise nat_eq (take (length part) bytes) part ≡ true
    → pointwise nat_eq bytes (part ++ more) ≡ pointwise nat_eq (drop (length part) bytes) more
front bytes [] more e = refl
front [] (p ∷ part) more e = cc
front (b ∷ bytes) (p ∷ part) more e =
    same (nat_eq b p) (pointwise nat_eq (take (length part) bytes) part)
    (pointwise nat_eq bytes (part ++ more)) (pointwise nat_eq (drop (length part) bytes) more)
    (front bytes part more) e

module _ (bytes : List ℕ) (parts : List (Bor (List ℕ))) (i : ℕ) (none : Bor (List ℕ))
    (below : i < length parts) where
  abbrev part : Bor (List ℕ)
  part = get_or parts i none

  parts_left : joined (drop i parts) ≡ part.now ++ joined (drop (i + 1) parts)
  parts_left = ap joined (drop_more parts i none below)

  -- one part more
  pub part_taken : (rest : List ℕ) (answer : Bool)
      → pointwise nat_eq (take (length part.now) bytes) part.now ≡ true → rest ≡ drop (length part.now) bytes
      → pointwise nat_eq bytes (joined (drop i parts)) ≡ answer
      → pointwise nat_eq rest (joined (drop (i + 1) parts)) ≡ answer
  part_taken rest answer starts is_rest before =
      ap (λ r. pointwise nat_eq r (joined (drop (i + 1) parts))) is_rest
      ∙ sym (front bytes part.now (joined (drop (i + 1) parts)) starts)
      ∙ ap (pointwise nat_eq bytes) (sym parts_left) ∙ before

  -- a part that is not there
  pub part_lacking : (answer : Bool) → pointwise nat_eq (take (length part.now) bytes) part.now ≡ false
      → pointwise nat_eq bytes (joined (drop i parts)) ≡ answer → false ≡ answer
  part_lacking answer lacks before =
      sym (not_front bytes part.now (joined (drop (i + 1) parts)) lacks)
      ∙ ap (pointwise nat_eq bytes) (sym parts_left) ∙ before

empty_is : (rest : List ℕ) → (length rest == 0) ≡ pointwise nat_eq rest []
empty_is [] = refl
empty_is (x ∷ rest) = grind (arith, nat_tests)

-- no part is left
pub none_left : (rest : List ℕ) (parts : List (Bor (List ℕ))) (i : ℕ) → length parts ≤ i → (result answer : Bool)
    → result ≡ (length rest == 0) → pointwise nat_eq rest (joined (drop i parts)) ≡ answer → result ≡ answer
none_left rest parts i end result answer is before =
    is ∙ empty_is rest ∙ ap (λ l. pointwise nat_eq rest (joined l)) (sym (drop_all i parts end)) ∙ before
