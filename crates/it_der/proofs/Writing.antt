-- Lengths, as they are written.
use Rattle.std.proofs.Common.{◌≡◌, ℕ, ◌/◌, ◌%◌, ◌<◌, ◌≤◌, List, [], ◌∷◌, ◌++◌, sym, ap, ◌∙◌, append_assoc}
use Rattle.it_der.specs.Element.{length_form}
use Rattle.it_der.proofs.Lengths.{short_form, one_byte_form, two_byte_form}

pub short_written : (old new : List ℕ) (n : ℕ) → n < 128 → new ≡ old ++ n ∷ [] → new ≡ old ++ length_form n
short_written old new n below e = e ∙ ap (λ (l : List ℕ). old ++ l) (sym (short_form n below))

pub one_written : (old first new : List ℕ) (n : ℕ) → 128 ≤ n → n < 256 → first ≡ old ++ 129 ∷ [] → new ≡ first ++ n ∷ []
    → new ≡ old ++ length_form n
one_written old first new n least most e f =
    f ∙ ap (λ (l : List ℕ). l ++ n ∷ []) e ∙ append_assoc old (129 ∷ []) (n ∷ [])
    ∙ ap (λ (l : List ℕ). old ++ l) (sym (one_byte_form n least most))

pub two_written : (old first second new : List ℕ) (n : ℕ) → 256 ≤ n → first ≡ old ++ 130 ∷ [] → second ≡ first ++ (n / 256) ∷ []
    → new ≡ second ++ (n % 256) ∷ [] → new ≡ old ++ length_form n
two_written old first second new n least e f g =
    g ∙ ap (λ (l : List ℕ). l ++ (n % 256) ∷ []) (f ∙ ap (λ (l : List ℕ). l ++ (n / 256) ∷ []) e ∙ append_assoc old (130 ∷ []) ((n / 256) ∷ []))
    ∙ append_assoc old (130 ∷ (n / 256) ∷ []) ((n % 256) ∷ []) ∙ ap (λ (l : List ℕ). old ++ l) (sym (two_byte_form n least))
