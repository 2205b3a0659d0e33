-- What a list in JSON tells.
use Rattle.std.proofs.Common.{◌≡◌, ◌≢◌, ℕ, List, [], ◌∷◌, ◌++◌, All, codes, refl, sym, ap}
use Rattle.std.proofs.Common.{◌∙◌, append_assoc, arith}
use Rattle.std.proofs.lemmas.List.{append_cancel_left}
use Rattle.std.proofs.lemmas.List.Elements.{All-head, All-tail}
use Rattle.it_json_report.specs.Json.{further, json_list, parted}
use Rattle.it_json_report.proofs.TextForms.{first}

-- a list of items whose forms tell them, and do not begin as the end of a list does
module _ {X : Type 0} (form : X → List ℕ) (Fits : X → Type 0)
    (some : (x : X) (ps qs : List ℕ) → codes "]" ++ ps ≢ form x ++ qs)
    (one : (x y : X) (ps qs : List ℕ) → Fits x → Fits y → form x ++ ps ≡ form y ++ qs → (x ≡ y)
    × (ps ≡ qs)) where
  further_tell : (xs ys : List X) (ps qs : List ℕ) → All Fits xs → All Fits ys → further form xs
      ++ 93 ∷ ps ≡ further form ys ++ 93 ∷ qs → (xs ≡ ys) × (ps ≡ qs)
  further_tell [] [] ps qs h k same = (refl, cc)
  further_tell [] (y ∷ ys) ps qs h k same = absurd (omega (arith, ap first same))
  further_tell (x ∷ xs) [] ps qs h k same = absurd (omega (arith, ap first same))
  further_tell (x ∷ xs) (y ∷ ys) ps qs h k same =
      let mine = further form xs ++ 93 ∷ ps in
      let other = further form ys ++ 93 ∷ qs in
      let parts = one x y mine other (All-head Fits x xs h) (All-head Fits y ys k)
      (append_cancel_left (codes ",") (form x ++ mine) (form y ++ other)
      (sym (append_assoc (codes "," ++ form x) (further form xs) (93 ∷ ps)) ∙ same
      ∙ append_assoc (codes "," ++ form y) (further form ys) (93 ∷ qs))) in
      let rest = further_tell xs ys ps qs (All-tail Fits x xs h) (All-tail Fits y ys k) parts.1 in
      (λ i. parts.0 i ∷ rest.0 i, rest.1)

  parted_tell : (xs ys : List X) (ps qs : List ℕ) → All Fits xs → All Fits ys → parted form xs
      ++ 93 ∷ ps ≡ parted form ys ++ 93 ∷ qs → (xs ≡ ys) × (ps ≡ qs)
  parted_tell [] [] ps qs h k same = (refl, cc)
  parted_tell [] (y ∷ ys) ps qs h k same =
      absurd (some y ps (further form ys ++ 93 ∷ qs)
      (same ∙ append_assoc (form y) (further form ys) (93 ∷ qs)))
  parted_tell (x ∷ xs) [] ps qs h k same =
      absurd (some x qs (further form xs ++ 93 ∷ ps)
      (sym same ∙ append_assoc (form x) (further form xs) (93 ∷ ps)))
  parted_tell (x ∷ xs) (y ∷ ys) ps qs h k same =
      let mine = further form xs ++ 93 ∷ ps in
      let other = further form ys ++ 93 ∷ qs in
      let parts = one x y mine other (All-head Fits x xs h) (All-head Fits y ys k)
      (sym (append_assoc (form x) (further form xs) (93 ∷ ps)) ∙ same
      ∙ append_assoc (form y) (further form ys) (93 ∷ qs)) in
      let rest = further_tell xs ys ps qs (All-tail Fits x xs h) (All-tail Fits y ys k) parts.1 in
      (λ i. parts.0 i ∷ rest.0 i, rest.1)

  list-is : (xs : List X) (ps : List ℕ) → json_list form xs ++ ps ≡ codes "["
      ++ (parted form xs ++ 93 ∷ ps)
  list-is xs ps = ap (λ text. 91 ∷ text) (append_assoc (parted form xs) (codes "]") ps)

  pub list_then : (xs ys : List X) (ps qs : List ℕ) → All Fits xs → All Fits ys
      → json_list form xs ++ ps ≡ json_list form ys ++ qs → (xs ≡ ys) × (ps ≡ qs)
  list_then xs ys ps qs h k same =
      parted_tell xs ys ps qs h k (append_cancel_left (codes "[") (parted form xs ++ 93 ∷ ps)
      (parted form ys ++ 93 ∷ qs) (sym (list-is xs ps) ∙ same ∙ list-is ys qs))
