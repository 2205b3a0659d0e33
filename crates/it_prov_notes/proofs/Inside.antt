-- Going down into two values, a name at a time.
use Rattle.std.proofs.Common.{◌≡◌, ◌∙◌, ℕ, List, [], ◌∷◌, ◌++◌, Option, Some, ap, option_map, refl}
use Rattle.std.proofs.Common.{sym}
use Rattle.it_base.specs.Json.{Json}
use Rattle.it_prov_notes.specs.Values.{AreSame, DifferAt, member_of, value_at, value_note}
use Rattle.it_prov_notes.specs.declared.note.Difference.{Difference}

value_further : (names : List (List ℕ)) (name : List ℕ) (value : Option Json)
    → value_at (names ++ name ∷ []) value ≡ member_of name (value_at names value)
value_further [] name value = refl
value_further (first ∷ names) name value = value_further names name (member_of first value)

-- one name more
pub further : (names : List (List ℕ)) (name : List ℕ) (value outer inner : Option Json)
    → outer ≡ value_at names value → inner ≡ member_of name outer
    → inner ≡ value_at (names ++ name ∷ []) value
further names name value outer inner was is =
    is ∙ ap (member_of name) was ∙ sym (value_further names name value)

-- what is said of the values that were reached is said of the place
pub told_of : (given wanted : Json) (names : List (List ℕ)) (found expected : Option Json)
    → found ≡ value_at names (Some given) → expected ≡ value_at names (Some wanted)
    → ¬ AreSame found expected → (told : Difference)
    → told ≡ record {
      place = names;
      found = option_map value_note found;
      wanted = option_map value_note expected;
    } → DifferAt given wanted told
told_of given wanted names found expected g w differ told is = rw is (record {
  found_is = ap (option_map value_note) g;
  wanted_is = ap (option_map value_note) w;
  differ = λ same. differ (rw (g, w) same);
})
