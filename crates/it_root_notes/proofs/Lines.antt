-- The lines on what a list has, one after another.
use Rattle.std.proofs.Common.{◌≡◌, ◌∙◌, ◌++◌, ◌+◌, ◌<◌, ◌≤◌, ℕ, List, ap, append_assoc}
use Rattle.std.proofs.Common.{append-nil, drop, get_or, length, sym}
use Rattle.std.specs.List.{enumerate_from, flat_map}
use Rattle.std.proofs.lemmas.List.{drop_all, drop_more}

-- the lines on what is at places from this one on
abbrev pub lines_from : {X : Type 0} → (ℕ × X → List ℕ) → ℕ → List X → List ℕ
lines_from line place xs = flat_map line (enumerate_from place xs)

module _ {X : Type 0} (line : ℕ × X → List ℕ) (place : ℕ) (xs : List X)
    (whole before : List ℕ) (are : before ++ lines_from line place (drop place xs) ≡ whole) where
  -- one line more
  pub one_line : (x : X) (now : List ℕ) → place < length xs → x ≡ get_or xs place x
      → now ≡ before ++ line (place, x)
      → now ++ lines_from line (place + 1) (drop (place + 1) xs) ≡ whole
  one_line x now below is more =
      let rest = lines_from line (place + 1) (drop (place + 1) xs) in
      ap (λ text. text ++ rest) more ∙ append_assoc before (line (place, x)) rest
      ∙ ap (λ (y : X). before ++ (line (place, y) ++ rest)) is
      ∙ ap (λ left. before ++ lines_from line place left) (sym (drop_more xs place x below)) ∙ are

  -- nothing is left
  pub all_lines : length xs ≤ place → before ≡ whole
  all_lines ends =
      sym (append-nil before)
      ∙ ap (λ left. before ++ lines_from line place left) (sym (drop_all place xs ends)) ∙ are
