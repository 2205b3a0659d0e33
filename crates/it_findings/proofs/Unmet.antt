-- Parameters that equal something, and so themselves.
use Rattle.std.proofs.Common.{◌≡◌, ◌∙◌, ◌↔◌, ◌&&◌, Bool, true, false, not, IsTrue, List, [], ◌∷◌, ◌++◌}
use Rattle.std.proofs.Common.{ℕ, String, Global, string_bytes, refl, sym, ap, subst}
use Rattle.std.proofs.lemmas.Bool.{false≢true}
use Rattle.std.proofs.lemmas.Slice.Eq.{bytes_eq-Decides}
use Rattle.std.proofs.lemmas.Cmp.{int_eq_equiv}
use Rattle.std.specs.Str.{bytes_eq}
use Rattle.it_base.specs.Equal.{equal, equal_fields, equal_items, same_flag}
use Rattle.it_base.specs.Json.{Json, null, flag, whole, text, items, members, Items}
use Rattle.it_base.specs.Json.{no_items, item, Fields, no_fields, field}
use Rattle.it_base.specs.JsonView.{fields_view, json_of}
use Rattle.it_base.specs.declared.tree.Tree.{Tree}
use Rattle.it_findings.specs.Joined.{JoinedEach}
use Rattle.it_findings.specs.UnequalNumbers.{IsUnmet, parameters_in}
use Rattle.it_findings.proofs.Joining.{joined_push}

first_of : (a b : Bool) → (a && b) ≡ true → a ≡ true
first_of true b e = refl
first_of false b e = absurd (false≢true e)

second_of : (a b : Bool) → (a && b) ≡ true → b ≡ true
second_of true b e = e
second_of false b e = absurd (false≢true e)

both_of : (a b : Bool) → a ≡ true → b ≡ true → (a && b) ≡ true
both_of true b e f = f
both_of false b e f = absurd (false≢true e)

flag_itself : (b : Bool) → same_flag b b ≡ true
flag_itself true = refl
flag_itself false = refl

mutual
  itself : (x y : Json) → equal x y ≡ true → equal y y ≡ true
  itself null null e = refl
  itself (flag a) (flag b) e = flag_itself b
  itself (whole a) (whole b) e = int_eq_equiv.refl b
  itself (text a) (text b) e = (bytes_eq-Decides b b).1 refl
  itself (items a) (items b) e = items_itself a b e
  itself (members a) (members b) e = fields_itself a b e
  itself x y e = absurd (false≢true e)

  items_itself : (xs ys : Items) → equal_items xs ys ≡ true → equal_items ys ys ≡ true
  items_itself no_items no_items e = refl
  items_itself (item x xs) (item y ys) e =
      both_of (equal y y) (equal_items ys ys)
      (itself x y (first_of (equal x y) (equal_items xs ys) e))
      (items_itself xs ys (second_of (equal x y) (equal_items xs ys) e))
  items_itself xs ys e = absurd (false≢true e)

  fields_itself : (xs ys : Fields) → equal_fields xs ys ≡ true → equal_fields ys ys ≡ true
  fields_itself no_fields no_fields e = refl
  fields_itself (field k x xs) (field l y ys) e =
      let rest = second_of (bytes_eq k l) (equal x y && equal_fields xs ys) e in
      both_of (bytes_eq l l) (equal y y && equal_fields ys ys) ((bytes_eq-Decides l l).1 refl)
      (both_of (equal y y) (equal_fields ys ys)
      (itself x y (first_of (equal x y) (equal_fields xs ys) rest))
      (fields_itself xs ys (second_of (equal x y) (equal_fields xs ys) rest)))
  fields_itself xs ys e = absurd (false≢true e)

-- a parameter is unmet exactly where it does not equal itself
pub unmet : (tree : Json) (is equals : Bool) → is ≡ not equals → equals ≡ equal tree tree
    → IsTrue is ↔ IsUnmet tree
unmet tree is true made same =
    (λ t. absurd (false≢true (sym made ∙ t)), λ none. absurd (none tree (sym same)))
unmet tree is false made same =
    (λ t given met. false≢true (same ∙ itself given tree met), λ none. made)

abbrev pub Entry : Type 0
Entry = String Global × Tree

-- a parameter as it is told
abbrev pub told : Entry → List ℕ × Json
told e = (string_bytes e.0, json_of e.1)

parameters_more : (done : List Entry) (e : Entry)
    → parameters_in (fields_view (done ++ e ∷ []))
    ≡ parameters_in (fields_view done) ++ told e ∷ []
parameters_more [] e = refl
parameters_more (x ∷ done) e = ap (λ es. told x ∷ es) (parameters_more done e)

-- what is said of the parameters so far, and then of the next one
pub joined_parameter : {F : Type 0} (P : List ℕ × Json → List F → Type 0)
    (done : List Entry) (e : Entry) (found here : List F)
    → JoinedEach P (parameters_in (fields_view done)) found → P (told e) here
    → JoinedEach P (parameters_in (fields_view (done ++ e ∷ []))) (found ++ here)
joined_parameter P done e found here so is =
    subst (λ es. JoinedEach P es (found ++ here)) (sym (parameters_more done e))
    (joined_push P (parameters_in (fields_view done)) (told e) found here so is)
