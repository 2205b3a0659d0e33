-- What stands after the last of a character in a text.
use Rattle.std.proofs.Common.{◌≡◌, ◌∙◌, ◌++◌, ◌∷◌, ◌<◌, [], ℕ, List, ap, append_assoc, sym, take}
use Rattle.std.specs.Str.Pattern.{RFindsChar, SplitsAroundMatch}
use Rattle.std.proofs.lemmas.List.{take-append-drop}
use Rattle.std.proofs.lemmas.Str.Pattern.{drop_at_char}

-- a text is what stands before its last such character, the character, and what stands after it
pub around_last : (char : ℕ) → char < 128 → (text front back : List ℕ)
    → SplitsAroundMatch (RFindsChar char) text front back → text ≡ (front ++ char ∷ []) ++ back
around_last char small text front back h =
    sym (take-append-drop h.0 text)
    ∙ ap (λ rest. take h.0 text ++ rest) (drop_at_char char text h.0 h.1 h.2.1 small)
    ∙ (λ i. sym h.3 i ++ char ∷ sym h.4 i) ∙ sym (append_assoc front (char ∷ []) back)
