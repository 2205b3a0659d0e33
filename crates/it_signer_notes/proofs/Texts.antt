-- Texts that are written piece by piece.
use Rattle.std.proofs.Common.{◌≡◌, ◌∙◌, ◌++◌, ℕ, List, ap, append_assoc}

-- one piece more
pub more : (start pieces piece before now : List ℕ) → before ≡ start ++ pieces
    → now ≡ before ++ piece → now ≡ start ++ (pieces ++ piece)
more start pieces piece before now was is =
    is ∙ ap (λ t. t ++ piece) was ∙ append_assoc start pieces piece
