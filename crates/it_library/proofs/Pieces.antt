-- Bytes that pieces make up, one after the other.
use Rattle.std.proofs.Common.{◌≡◌, ◌∙◌, ◌++◌, ◌∷◌, [], ℕ, List, ap, append_assoc, flat_map, sym}
use Rattle.std.proofs.lemmas.List.{flat_map_more}

-- one more piece, which begins what was left
pub piece_more : {X : Type 0} (f : X → List ℕ) (whole : List ℕ) (xs : List X) (x : X)
    (rest further : List ℕ) → whole ≡ flat_map f xs ++ rest → rest ≡ f x ++ further
    → whole ≡ flat_map f (xs ++ x ∷ []) ++ further
piece_more f whole xs x rest further are cut =
    are ∙ ap (λ r. flat_map f xs ++ r) cut ∙ sym (append_assoc (flat_map f xs) (f x) further)
    ∙ ap (λ front. front ++ further) (flat_map_more f [] xs x)
