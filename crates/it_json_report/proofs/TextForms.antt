-- What a text in JSON tells.
use Rattle.std.proofs.Common.{◌≡◌, ◌≢◌, ◌/◌, ◌%◌, ℕ, Bool, true, false, if◌then◌else◌, List, []}
use Rattle.std.proofs.Common.{◌∷◌, ◌++◌, codes, get_or, refl, sym, ap, ◌∙◌, append_assoc, arith}
use Rattle.std.specs.Prelude.{nat_lt}
use Rattle.std.specs.List.{flat_map}
use Rattle.std.proofs.lemmas.Bool.Decides.{nat_tests}
use Rattle.std.proofs.lemmas.List.{append_cancel_left}
use Rattle.it_report.specs.Name.{digit_form}
use Rattle.it_json_report.specs.Json.{escaped, is_special, json_text}

-- ---- bytes
digit_form-injective : (m n : ℕ) → digit_form m ≡ digit_form n → m ≡ n
digit_form-injective m n same = grind (arith, nat_tests)

-- what stands for a byte that is a control character or not, and special or not
abbrev pub form : Bool → Bool → ℕ → List ℕ
form control special byte =
    if control then codes "\\u00" ++ digit_form (byte / 16) ∷ digit_form (byte % 16) ∷ []
    else (if special then codes "\\" ++ byte ∷ [] else byte ∷ [])

apart : (x y : ℕ) → is_special x ≡ true → is_special y ≡ false → x ≢ y
apart x y special plain same = let tests : true ≡ false =
    sym special ∙ ap is_special same ∙ plain in cc

-- the first and the second byte of a text
abbrev pub first : List ℕ → ℕ
first text = get_or text 0 0

abbrev second : List ℕ → ℕ
second text = get_or text 1 0

module _ (x y : ℕ) (ps qs : List ℕ) where
  controls_tell : form true false x ++ ps ≡ form true false y ++ qs → (x ≡ y) × (ps ≡ qs)
  controls_tell same =
      let high : digit_form (x / 16) ≡ digit_form (y / 16) = cc in
      let low : digit_form (x % 16) ≡ digit_form (y % 16) = cc in
      let high_same = digit_form-injective (x / 16) (y / 16) high in
      let low_same = digit_form-injective (x % 16) (y % 16) low in
      (omega arith, cc)

  one_form : (a b c d : Bool) → is_special x ≡ b → is_special y ≡ d → form a b x ++ ps ≡ form c d y
      ++ qs → (x ≡ y) × (ps ≡ qs)
  one_form true b true d h k same = controls_tell same
  one_form true b false true h k same = absurd (apart y 117 k refl (sym (ap second same)))
  one_form true b false false h k same = absurd (apart 92 y refl k (ap first same))
  one_form false true true d h k same = absurd (apart x 117 h refl (ap second same))
  one_form false true false true h k same = (cc, cc)
  one_form false true false false h k same = absurd (apart 92 y refl k (ap first same))
  one_form false false true d h k same = absurd (apart 92 x refl h (sym (ap first same)))
  one_form false false false true h k same = absurd (apart 92 x refl h (sym (ap first same)))
  one_form false false false false h k same = (cc, cc)

one_byte : (x y : ℕ) (ps qs : List ℕ) → escaped x ++ ps ≡ escaped y ++ qs → (x ≡ y) × (ps ≡ qs)
one_byte x y ps qs same = one_form x y ps qs (nat_lt x 32) (is_special x) (nat_lt y 32)
    (is_special y) refl refl same

-- no byte is written as a quotation mark is that ends a text
no_end : (y : ℕ) (ps qs : List ℕ) (c d : Bool) → is_special y ≡ d → codes "\"" ++ ps ≢ form c d y
    ++ qs
no_end y ps qs true d k same = absurd (omega (arith, ap first same))
no_end y ps qs false true k same = absurd (omega (arith, ap first same))
no_end y ps qs false false k same = apart 34 y refl k (ap first same)

no_byte : (y : ℕ) (ps qs : List ℕ) → codes "\"" ++ ps ≢ escaped y ++ qs
no_byte y ps qs = no_end y ps qs (nat_lt y 32) (is_special y) refl

-- ---- texts

insides_tell : (a b ps qs : List ℕ) → flat_map escaped a ++ 34 ∷ ps ≡ flat_map escaped b ++ 34 ∷ qs
    → (a ≡ b) × (ps ≡ qs)
insides_tell [] [] ps qs same = (refl, cc)
insides_tell [] (y ∷ b) ps qs same =
    absurd (no_byte y ps (flat_map escaped b ++ 34 ∷ qs)
    (same ∙ append_assoc (escaped y) (flat_map escaped b) (34 ∷ qs)))
insides_tell (x ∷ a) [] ps qs same =
    absurd (no_byte x qs (flat_map escaped a ++ 34 ∷ ps)
    (sym same ∙ append_assoc (escaped x) (flat_map escaped a) (34 ∷ ps)))
insides_tell (x ∷ a) (y ∷ b) ps qs same =
    let parts = one_byte x y (flat_map escaped a ++ 34 ∷ ps) (flat_map escaped b ++ 34 ∷ qs)
    (sym (append_assoc (escaped x) (flat_map escaped a) (34 ∷ ps)) ∙ same
    ∙ append_assoc (escaped y) (flat_map escaped b) (34 ∷ qs)) in
    let rest = insides_tell a b ps qs parts.1 in
    (λ i. parts.0 i ∷ rest.0 i, rest.1)

text-is : (a ps : List ℕ) → json_text a ++ ps ≡ codes "\"" ++ (flat_map escaped a ++ 34 ∷ ps)
text-is a ps = ap (λ text. 34 ∷ text) (append_assoc (flat_map escaped a) (codes "\"") ps)

pub text_then : (a b ps qs : List ℕ) → json_text a ++ ps ≡ json_text b ++ qs → (a ≡ b) × (ps ≡ qs)
text_then a b ps qs same =
    insides_tell a b ps qs (append_cancel_left (codes "\"") (flat_map escaped a ++ 34 ∷ ps)
    (flat_map escaped b ++ 34 ∷ qs) (sym (text-is a ps) ∙ same ∙ text-is b qs))
